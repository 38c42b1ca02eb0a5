-- The number of a version is what `parse` reads, and is at least 1.
use Rattle.std.proofs.Common.{◌≡◌, ℕ, ◌+◌, ◌*◌, ◌<◌, ◌==◌, true, false, not, List, [], ◌∷◌, drop, cond, ap, arith}
use Rattle.std.specs.Char.{digit_value, is_ascii_digit}
use Rattle.std.specs.Int.Digits.{number_from_digits_after}
use Rattle.std.specs.List.{list_all}
use Rattle.std.specs.Str.Parse.{AllDigits, IsNumeral, digits_value, without_leading_plus}
use Rattle.std.proofs.lemmas.Bool.{and_parts, not-true}
use Rattle.std.proofs.lemmas.Bool.Decides.{nat_tests}
use Rattle.std.proofs.lemmas.Int.Digits.{digits_value_is, number_after_ge}
use Rattle.std.specs.Prelude.{map}
use Rattle.api_versions.specs.Places.{is_number}

one_digit : (b : ℕ) → is_ascii_digit b ≡ true → digit_value b < 10
one_digit b h = grind (arith, nat_tests)

no_plus : (b : ℕ) → is_ascii_digit b ≡ true → (b == 43) ≡ false
no_plus b h = grind (arith, nat_tests)

first_value : (b : ℕ) → is_ascii_digit b ≡ true → (b == 48) ≡ false → 0 < digit_value b
first_value b h ne = grind (arith, nat_tests)

pub all_digits : (word : List ℕ) → list_all is_ascii_digit word ≡ true → AllDigits 10 word
all_digits [] h = tt
all_digits (b ∷ word) h = let both = and_parts (is_ascii_digit b) (list_all is_ascii_digit word) h in (one_digit b both.0, all_digits word both.1)

-- a number has no plus, and is a numeral
pub number_is_numeral : (name : List ℕ) → is_number name ≡ true → IsNumeral 10 (without_leading_plus name) × (without_leading_plus name ≡ name)
number_is_numeral [] h = absurd (cc)
number_is_numeral (b ∷ name) h =
    let parts = and_parts (not (b == 48)) (list_all is_ascii_digit (b ∷ name)) h in
    let both = and_parts (is_ascii_digit b) (list_all is_ascii_digit name) parts.1 in
    let plain : without_leading_plus (b ∷ name) ≡ b ∷ name = ap (λ plus. drop (cond plus 1 0) (b ∷ name)) (no_plus b both.0) in
    (rw plain (omega arith, all_digits (b ∷ name) parts.1), plain)

after_first_digit : (v : ℕ) (ds : List ℕ) → 0 < v → 0 < number_from_digits_after 10 v ds
after_first_digit v ds h = let le = number_after_ge 10 v ds (omega arith) in omega arith

-- and it is at least 1
pub number_positive : (name : List ℕ) → is_number name ≡ true → 0 < digits_value 10 name
number_positive [] h = absurd (cc)
number_positive (b ∷ name) h =
    let parts = and_parts (not (b == 48)) (list_all is_ascii_digit (b ∷ name)) h in
    let both = and_parts (is_ascii_digit b) (list_all is_ascii_digit name) parts.1 in
    let v = first_value b both.0 (not-true (b == 48) parts.0) in
    rw (digits_value_is 10 (b ∷ name)) (after_first_digit (0 * 10 + digit_value b) (map digit_value name) (omega arith))
