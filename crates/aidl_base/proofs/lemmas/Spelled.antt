-- Texts and sequences: what was spelled is read again, whatever follows it, and no spelling is a proper prefix of another.
use Rattle.std.proofs.Common.{◌≡◌, ℕ, zero, suc, ◌+◌, ◌*◌, ◌/◌, ◌^◌, ◌<◌, ◌≤◌, ℤ, pos, negsuc, Bool, true, false, List, [], ◌∷◌, ◌++◌, length, Option, Some, None, Ok, Err, refl, ap, ◌∙◌, arith, append_assoc, length-append}
use Rattle.std.specs.Prelude.{All}
use Rattle.std.specs.List.{flat_map}
use Rattle.std.specs.Str.{all_scalars}
use Rattle.aidl_base.specs.Words.{word, units, block}
use Rattle.aidl_base.specs.Spellings.{spell_text, spell_nullable_text, spell_sequence}
use Rattle.aidl_base.specs.Readings.{Read, ◌>>=◌, word_at, count_of, count_at, counted_at, block_at, text_at, not_null, present_text_at, items_at, sequence_at}
use Rattle.aidl_base.proofs.lemmas.Words.{count_again, null_again}
use Rattle.aidl_base.specs.declared.profile.Profile.{Profile}
use Rattle.aidl_base.specs.declared.profile.Profile.TheVariants.{Strict}
use Rattle.aidl_base.specs.Profiles.{IsTextBlock}
use Rattle.aidl_base.proofs.lemmas.Profiles.{padded}
use Rattle.aidl_base.proofs.lemmas.Blocks.{block_again, length-block}
use Rattle.aidl_base.proofs.lemmas.Values.{prefix_by_reading}

-- a text whose block is padded as the profile permits
pub text_again : (p : Profile) (nullable : Bool) (x b : List ℕ) (inside : Bool) (rest : List ℕ) → all_scalars x ≡ true → length (units x) < 2 ^ 31 → IsTextBlock p x b
    → text_at p nullable inside ((word (pos (length (units x))) ++ b) ++ rest) ≡ Ok (Some x, rest)
unfolding text_at
text_again p nullable x b inside rest ok small is =
    ap (λ (c : Read (Option ℕ)). c >>= λ n. counted_at (λ m b. block_at p m inside b) n.0 n.1) (count_again nullable (length (units x)) inside (b ++ rest) small)
    ∙ ap (λ (b : Read (List ℕ)). b >>= λ y. Ok (Some y.0, y.1)) (block_again p x b inside rest ok is)

pub null_text_again : (p : Profile) (inside : Bool) (rest : List ℕ) → text_at p true inside (spell_nullable_text None ++ rest) ≡ Ok (None, rest)
unfolding text_at
null_text_again p inside rest = ap (λ (c : Read (Option ℕ)). c >>= λ n. counted_at (λ m b. block_at p m inside b) n.0 n.1) (null_again inside rest)

pub present_text_again : (p : Profile) (x : List ℕ) (inside : Bool) (rest : List ℕ) → all_scalars x ≡ true → length (units x) ≤ 2147483647 → present_text_at p inside (spell_text x ++ rest) ≡ Ok (x, rest)
unfolding present_text_at
present_text_again p x inside rest ok few =
    let small : length (units x) < 2 ^ 31 = omega arith in
    ap (λ (t : Read (Option (List ℕ))). t >>= λ y. not_null y.0 >>= λ z. Ok (z, y.1)) (text_again p false x (block x) inside rest ok small (padded p _))

pub text_prefix : (x y : List ℕ) (rest : List ℕ) → all_scalars x ≡ true → length (units x) ≤ 2147483647 → all_scalars y ≡ true → length (units y) ≤ 2147483647 → spell_text x ++ rest ≡ spell_text y → rest ≡ []
text_prefix x y rest p small q less e = prefix_by_reading (λ b. present_text_at Strict false b) x y (spell_text x) (spell_text y) rest (λ r. present_text_again Strict x false r p small) (λ r. present_text_again Strict y false r q less) e

-- the length of a text's spelling
pub length-spell_text : (x : List ℕ) → length (spell_text x) ≡ 4 * (length (units x) / 2 + 2)
length-spell_text x = let b = length-block x in let a = length-append (word (pos (length (units x)))) (block x) in omega arith

-- items whose spellings are read again, in order
module _ {A : Type 0} (spell : A → List ℕ) (read : List ℕ → Read A) (Good : A → Type 0) (again : (x : A) (rest : List ℕ) → Good x → read (spell x ++ rest) ≡ Ok (x, rest)) where
  pub items_again : (xs : List A) (rest : List ℕ) → All Good xs → items_at read (length xs) (flat_map spell xs ++ rest) ≡ Ok (xs, rest)
  items_again [] rest all = refl
  items_again (x ∷ xs) rest all =
      let good : Good x = all 0 x (omega arith) in
      let others : All Good xs = λ k d lt. all (suc k) d (omega arith) in
      let next = λ (y : Read A). y >>= λ first. items_at read (length xs) first.1 >>= λ others. Ok (first.0 ∷ others.0, others.1) in
      ap (λ b. next (read b)) (append_assoc (spell x) (flat_map spell xs) rest) ∙ ap next (again x (flat_map spell xs ++ rest) good)
      ∙ ap (λ (y : Read (List A)). y >>= λ others. Ok (x ∷ others.0, others.1)) (items_again xs rest others)

-- the same, where a reading is told whether a record is open
module _ {A : Type 0} (spell : A → List ℕ) (read : Bool → List ℕ → Read A) (Good : A → Type 0) (again : (x : A) (inside : Bool) (rest : List ℕ) → Good x → read inside (spell x ++ rest) ≡ Ok (x, rest)) where
  pub sequence_again : (xs : List A) (nullable inside : Bool) (rest : List ℕ) → length xs ≤ 2147483647 → All Good xs → sequence_at read nullable inside (spell_sequence spell xs ++ rest) ≡ Ok (Some xs, rest)
  unfolding sequence_at
  sequence_again xs nullable inside rest few all =
      let small : length xs < 2 ^ 31 = omega arith in
      ap (λ b. sequence_at read nullable inside b) (append_assoc (word (pos (length xs))) (flat_map spell xs) rest)
      ∙ ap (λ (c : Read (Option ℕ)). c >>= λ n. counted_at (λ m b. items_at (read inside) m b) n.0 n.1) (count_again nullable (length xs) inside (flat_map spell xs ++ rest) small)
      ∙ ap (λ (b : Read (List A)). b >>= λ y. Ok (Some y.0, y.1)) (items_again spell (read inside) Good (λ x r good. again x inside r good) xs rest all)

  pub sequence_prefix : (xs ys : List A) (rest : List ℕ) → length xs ≤ 2147483647 → All Good xs → length ys ≤ 2147483647 → All Good ys → spell_sequence spell xs ++ rest ≡ spell_sequence spell ys → rest ≡ []
  sequence_prefix xs ys rest few all less every e =
      prefix_by_reading (λ b. sequence_at read false false b) (Some xs) (Some ys) (spell_sequence spell xs) (spell_sequence spell ys) rest
      (λ r. sequence_again xs false false r few all) (λ r. sequence_again ys false false r less every) e

-- the count of a word
abbrev count_in : (ℤ × List ℕ) → Read (Option ℕ)
count_in x = count_of false x.0 >>= λ n. Ok (n, x.1)

-- a text that is there
abbrev some_text : Read (List ℕ) → Read (Option (List ℕ))
some_text x = x >>= λ y. Ok (Some y.0, y.1)

-- a text that may not be null is no null
pub never_null : (p : Profile) (inside : Bool) (b rest : List ℕ) → text_at p false inside b ≡ Ok (None, rest) → ⊥
unfolding text_at count_at
never_null p inside b rest e = by_word (word_at inside b) e
  where
    by_block : (x : Read (List ℕ)) → some_text x ≡ Ok (None, rest) → ⊥
    by_block (Ok y) f =
        let pair : ◌≡◌ {A = Option (List ℕ) × List ℕ} (Some y.0, y.1) (None, rest) = cc in
        let first : ◌≡◌ {A = Option (List ℕ)} (Some y.0) None = ap (λ p. p.0) pair in
        absurd cc
    by_block (Err s) f = absurd cc

    by_word : (w : Read ℤ) → (w >>= count_in) >>= (λ n. counted_at (λ m c. block_at p m inside c) n.0 n.1) ≡ Ok (None, rest) → ⊥
    by_word (Ok (pos n, c)) f = by_block (block_at p n inside c) f
    by_word (Ok (negsuc zero, c)) f = absurd cc
    by_word (Ok (negsuc (suc n), c)) f = absurd cc
    by_word (Err s) f = absurd cc
