-- What reading a String answers is a reading of a front, or the stop.
use Rattle.std.proofs.Common.{◌≡◌, ℕ, ◌*◌, ◌<◌, ◌≤◌, ◌^◌, pos, negsuc, Bool, true, false, nat_lt, List, ◌++◌, length, take, drop, Option, Some, None, ◌⊎◌, inl, inr, refl, sym, ap, ◌∙◌, subst}
use Rattle.std.specs.Str.{all_scalars}
use Rattle.std.specs.Char.Utf16.{has_unpaired_surrogate}
use Rattle.std.proofs.lemmas.List.{take-append-drop, length-take-le}
use Rattle.std.proofs.lemmas.Bool.{ltb-true, ltb-false}
use Rattle.aidl_base.specs.declared.profile.Profile.{Profile}
use Rattle.aidl_base.specs.Profiles.{IsTextBlock}
use Rattle.aidl_base.specs.Words.{word, units}
use Rattle.aidl_values.specs.Data.{Data, null, text}
use Rattle.wire_model.specs.Status.{bad_value, past}
use Rattle.wire_model.specs.Stop.{BlockStop, TextStop, CountStop, block_len, IsBlock}
use Rattle.aidl_base.specs.Readings.{count_at, text_at, text_of, ends_text, units_of}
use Rattle.aidl_base.proofs.lemmas.Blocks.{text_back}
use Rattle.wire_model.specs.ReadOf.{Read, read_as, text_data}
use Rattle.wire_model.proofs.Steps.{ok_text, text_block_at, text_value_steps}
use Rattle.wire_model.proofs.told.Words.{Told, told_then, CountReads, count_told, begins, tail_word}
use Rattle.wire_model.proofs.TextForms.{is_block}
use Rattle.aidl_base.proofs.lemmas.Lists.{AreBytes, AreBytes-take, AreBytes-rest}

-- texts
abbrev pub TextReads : Profile → Bool → List ℕ → Data → Type 0
TextReads p nullable front null = (nullable ≡ true) × (front ≡ word (negsuc 0))
TextReads p nullable front (text x) = (all_scalars x ≡ true) × (length (units x) < 2 ^ 31) × (rest : List ℕ) × (front ≡ word (pos (length (units x))) ++ rest) × IsTextBlock p x rest
TextReads p nullable front _ = ⊥

-- A block is of the form, or no text.
block_or_none : (p : Profile) (n : ℕ) (c : List ℕ) → AreBytes c → length c ≡ block_len n → IsBlock p n c ⊎ (text_of p n c ≡ None)
unfolding text_of
block_or_none p n c bytes len = tests (has_unpaired_surrogate (units_of (take (2 * n) c))) (ends_text p (drop (2 * n) c)) refl refl
  where
    tests : (q r : Bool) → has_unpaired_surrogate (units_of (take (2 * n) c)) ≡ q → ends_text p (drop (2 * n) c) ≡ r → IsBlock p n c ⊎ (text_of p n c ≡ None)
    tests false true e f = inl (is_block p n c bytes len e f)
    tests true r e f = inr (rw e refl)
    tests false false e f = inr (rw (e, f) refl)

-- a block is a block of its text
found_in : (p : Profile) (n : ℕ) (c : List ℕ) (h : IsBlock p n c) → text_of p n c ≡ Some h.0
found_in p n c h = ap (λ m. text_of p m c) (sym h.2) ∙ text_back p h.0 c h.1 h.3

module _ (p : Profile) (nullable inside : Bool) (b : List ℕ) (bytes : AreBytes b) where
  abbrev Outcome : Read Data → Type 0
  Outcome x = Told (λ c v. TextReads p nullable c v) (λ s. TextStop p nullable b inside s) b x

  block_told : (n : ℕ) (rest : List ℕ) → n < 2 ^ 31 → b ≡ word (pos n) ++ rest → (short : Bool) → nat_lt (length rest) (block_len n) ≡ short
      → Outcome (text_block_at p inside (Some n) rest)
  unfolding text_block_at
  block_told n rest lt e true is =
      let tail = sym (tail_word b rest n lt e) in
      rw is (TextStop.at_block n (begins b rest n lt e) (subst (λ c. BlockStop (block_len n) (λ d. IsBlock p n d) c inside (past inside)) tail (BlockStop.long_block (ltb-true _ _ is))))
  block_told n rest lt e false is = rw is (by_block (block_or_none p n (take (block_len n) rest) (AreBytes-take (block_len n) rest rest_bytes) (length-take-le (block_len n) rest within)))
    where
      within : block_len n ≤ length rest
      within = ltb-false _ _ is

      rest_bytes : AreBytes rest
      rest_bytes = AreBytes-rest (word (pos n)) rest (subst AreBytes e bytes)

      by_block : IsBlock p n (take (block_len n) rest) ⊎ (text_of p n (take (block_len n) rest) ≡ None)
          → Outcome (ok_text (text_of p n (take (block_len n) rest)) (drop (block_len n) rest))
      by_block (inl h) =
          let x = h.0 in
          let c = take (block_len n) rest in
          let small : length (units x) < 2 ^ 31 = subst (λ m. m < 2 ^ 31) (sym h.2) lt in
          let front = word (pos n) ++ c in
          let split : b ≡ front ++ drop (block_len n) rest = e ∙ ap (λ c. word (pos n) ++ c) (sym (take-append-drop (block_len n) rest)) in
          let spelled : front ≡ word (pos (length (units x))) ++ c = ap (λ m. word (pos m) ++ c) (sym h.2) in
          rw (found_in p n c h) (front, split, (h.1, small, c, spelled, h.3))
      by_block (inr h) =
          let tail = sym (tail_word b rest n lt e) in
          let wrong : IsBlock p n (take (block_len n) rest) → ⊥ = λ k. no_text k in
          rw h (TextStop.at_block n (begins b rest n lt e) (subst (λ c. BlockStop (block_len n) (λ d. IsBlock p n d) c inside bad_value) tail (BlockStop.wrong_block within wrong)))
        where
          no_text : IsBlock p n (take (block_len n) rest) → ⊥
          no_text k =
              let both_ways : ◌≡◌ {A = Option (List ℕ)} None (Some k.0) = sym h ∙ found_in p n (take (block_len n) rest) k in
              absurd cc

  pub text_told : Outcome (read_as text_data (text_at p nullable inside b))
  unfolding text_block_at
  text_told = subst (λ x. Outcome x) (sym (text_value_steps p nullable inside b)) (told_then (CountReads nullable) (λ c v. TextReads p nullable c v) (λ s. CountStop nullable b inside s) (λ s. TextStop p nullable b inside s) b (λ n. text_block_at p inside n.0 n.1) (count_at nullable inside b)
      (count_told nullable inside b bytes (nat_lt (length b) 4) refl) (λ s h. TextStop.at_count h) (λ o front rest e h. by_count o front rest e h))
    where
      by_count : (o : Option ℕ) (front rest : List ℕ) → b ≡ front ++ rest → CountReads nullable front o → Outcome (text_block_at p inside o rest)
      by_count None front rest e h = (front, e, h)
      by_count (Some n) front rest e h = block_told n rest h.0 (e ∙ ap (λ c. c ++ rest) h.1) (nat_lt (length rest) (block_len n)) refl
