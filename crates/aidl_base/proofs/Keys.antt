-- A text that a reserved word is has its length and its first byte, so a look-up by them finds it.
use Rattle.std.proofs.Common.{◌≡◌, ℕ, ◌==◌, Bool, true, false, cond, ◌&&◌, List, [], ◌∷◌, length, ◌≤◌, get_or, Option, Some, None, refl, arith}
use Rattle.std.specs.List.{filter}
use Rattle.std.specs.Str.{bytes_eq}
use Rattle.std.proofs.lemmas.Bool.{and_parts, and_from}
use Rattle.std.proofs.lemmas.Bool.Decides.{nat_tests}
use Rattle.aidl_base.specs.declared.reserved.Reserved.{Reserved}
use Rattle.aidl_base.specs.Reserved.{word_of, word_in, all_reserved, reserved_of}
use Rattle.aidl_base.specs.Identifiers.{begins}
use Rattle.aidl_base.specs.steps.Keys.{has_key, of_key, those_of}

same_length : (text word : List ℕ) → bytes_eq text word ≡ true → (length text == length word) ≡ true
same_length [] [] e = refl
same_length [] (b ∷ word) e = cc
same_length (a ∷ text) [] e = cc
same_length (a ∷ text) (b ∷ word) e =
    let h = same_length text word (and_parts (a == b) (bytes_eq text word) e).1 in grind (arith, nat_tests)

same_key : (a : ℕ) (text word : List ℕ) → bytes_eq (a ∷ text) word ≡ true → (length (a ∷ text) == length word && begins (λ b. a == b) word) ≡ true
same_key a text [] e = cc
same_key a text (b ∷ word) e = and_from _ _ (same_length (a ∷ text) (b ∷ word) e) (and_parts (a == b) (bytes_eq text word) e).0

-- words of another key may be left out
pub by_key : (a : ℕ) (text : List ℕ) (words : List Reserved) → word_in (filter (has_key (length (a ∷ text)) a) words) (a ∷ text) ≡ word_in words (a ∷ text)
by_key a text [] = refl
by_key a text (word ∷ words) = go (by_key a text words) (bytes_eq (a ∷ text) (word_of word)) refl (has_key (length (a ∷ text)) a word) refl where
  go : word_in (filter (has_key (length (a ∷ text)) a) words) (a ∷ text) ≡ word_in words (a ∷ text)
      → (same : Bool) → bytes_eq (a ∷ text) (word_of word) ≡ same → (key : Bool) → has_key (length (a ∷ text)) a word ≡ key
      → word_in (cond key (word ∷ filter (has_key (length (a ∷ text)) a) words) (filter (has_key (length (a ∷ text)) a) words)) (a ∷ text)
      ≡ cond same (Some word) (word_in words (a ∷ text))
  go h true e true k = rw e refl
  go h true e false k = let g = same_key a text (word_of word) e in cc
  go h false e true k = rw (e, h) refl
  go h false e false k = h

pub found : (text : List ℕ) (r : Option Reserved) → 1 ≤ length text → those_of r ≡ of_key (length text) (get_or text 0 0) → word_in (those_of r) text ≡ reserved_of text
unfolding reserved_of
found [] r le e = absurd (omega arith)
found (a ∷ text) r le e = rw e (by_key a text all_reserved)

pub nothing : (text : List ℕ) → length text ≡ 0 → reserved_of text ≡ None
unfolding reserved_of
nothing [] e = refl
nothing (a ∷ text) e = absurd (omega arith)
