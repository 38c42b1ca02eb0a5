-- A decimal is what `parse` reads.
use Rattle.std.proofs.Common.{◌≡◌, ℕ, zero, suc, ◌<◌, ◌==◌, true, false, List, [], ◌∷◌, drop, cond, ap, arith}
use Rattle.std.specs.Char.{digit_value, is_ascii_digit}
use Rattle.std.specs.List.{list_all}
use Rattle.std.specs.Str.{IsAscii, IsUtf8}
use Rattle.std.specs.Str.Parse.{AllDigits, IsNumeral, without_leading_plus}
use Rattle.std.proofs.lemmas.Bool.{and_parts}
use Rattle.std.proofs.lemmas.Bool.Decides.{nat_tests}
use Rattle.std.proofs.lemmas.Str.{IsUtf8-from_ascii}
use Rattle.decimal_words.specs.Decimals.{begins_well, is_decimal}

one_digit : (b : ℕ) → is_ascii_digit b ≡ true → digit_value b < 10
one_digit b h = grind (arith, nat_tests)

no_plus : (b : ℕ) → is_ascii_digit b ≡ true → (b == 43) ≡ false
no_plus b h = grind (arith, nat_tests)

in_ascii : (b : ℕ) → is_ascii_digit b ≡ true → b < 128
in_ascii b h = grind (arith, nat_tests)

all_digits : (word : List ℕ) → list_all is_ascii_digit word ≡ true → AllDigits 10 word
all_digits [] h = tt
all_digits (b ∷ word) h = let both = and_parts (is_ascii_digit b) (list_all is_ascii_digit word) h in (one_digit b both.0, all_digits word both.1)

numeral_of : (word : List ℕ) → list_all is_ascii_digit word ≡ true → begins_well word ≡ true → IsNumeral 10 (without_leading_plus word) × (without_leading_plus word ≡ word)
numeral_of [] h begins = absurd (cc)
numeral_of (b ∷ word) h begins =
    let both = and_parts (is_ascii_digit b) (list_all is_ascii_digit word) h in
    let plain : without_leading_plus (b ∷ word) ≡ b ∷ word = ap (λ plus. drop (cond plus 1 0) (b ∷ word)) (no_plus b both.0) in
    (rw plain (omega arith, all_digits (b ∷ word) h), plain)

-- a decimal has no plus, and is a numeral
pub decimal_is_numeral : (word : List ℕ) → is_decimal word ≡ true → IsNumeral 10 (without_leading_plus word) × (without_leading_plus word ≡ word)
decimal_is_numeral word h = let both = and_parts (list_all is_ascii_digit word) (begins_well word) h in numeral_of word both.0 both.1

ascii_of : (word : List ℕ) → list_all is_ascii_digit word ≡ true → IsAscii word
ascii_of [] h i = omega arith
ascii_of (b ∷ word) h zero = in_ascii b (and_parts (is_ascii_digit b) (list_all is_ascii_digit word) h).0
ascii_of (b ∷ word) h (suc i) = ascii_of word (and_parts (is_ascii_digit b) (list_all is_ascii_digit word) h).1 i

-- a decimal is UTF-8
pub decimal_is_utf8 : (word : List ℕ) → is_decimal word ≡ true → IsUtf8 word
decimal_is_utf8 word h = IsUtf8-from_ascii word (ascii_of word (and_parts (list_all is_ascii_digit word) (begins_well word) h).0)
