-- What is decoded as it stands has no blank.
use Rattle.std.proofs.Common.{◌≡◌, ℕ, ◌+◌, ◌*◌, Bool, true, false, not, cond, List, [], ◌∷◌, length, Option, Some, None, Result, Ok, Err, refl, sym, ap, ◌∙◌, inl, inr}
use Rattle.std.specs.Prelude.{◌⊎◌, ◌||◌, ◌==◌, ◌%◌, is_some}
use Rattle.std.specs.List.{filter}
use Rattle.std.specs.Result.{result_ok}
use Rattle.std.proofs.lemmas.Bool.{eqb-true, or_cases}
use Rattle.hex.specs.Hex.{◌>>=◌, decode_of, decode_pairs, digit_or_error, hex_digit_value}
use Rattle.hex.specs.declared.error.FromHexError.{FromHexError}
use Rattle.hex.specs.declared.error.FromHexError.TheVariants.{OddLength}
use Rattle.aidl_base.specs.Blanks.{is_blank}
use Rattle.parcel_commands.specs.HexadecimalFile.{hexadecimal}

without_blanks : List ℕ → List ℕ
without_blanks = filter (λ b. not (is_blank b))

no_digit : (c k : ℕ) → (c == k) ≡ true → hex_digit_value k ≡ None → hex_digit_value c ≡ None
no_digit c k same none = ap hex_digit_value (eqb-true c k same) ∙ none

first_two : (c : ℕ) → ((c == 32) ≡ true) ⊎ ((c == 9) ≡ true) → hex_digit_value c ≡ None
first_two c (inl same) = no_digit c 32 same refl
first_two c (inr same) = no_digit c 9 same refl

first_three : (c : ℕ) → ((c == 32 || c == 9) ≡ true) ⊎ ((c == 13) ≡ true) → hex_digit_value c ≡ None
first_three c (inl one) = first_two c (or_cases (c == 32) (c == 9) one)
first_three c (inr same) = no_digit c 13 same refl

each_blank : (c : ℕ) → ((c == 32 || c == 9 || c == 13) ≡ true) ⊎ ((c == 10) ≡ true) → hex_digit_value c ≡ None
each_blank c (inl one) = first_three c (or_cases (c == 32 || c == 9) (c == 13) one)
each_blank c (inr same) = no_digit c 10 same refl

-- a digit is no blank
stays : (c : ℕ) → is_some (hex_digit_value c) ≡ true → not (is_blank c) ≡ true
stays c digit = by_test (is_blank c) refl
  where
    by_test : (blank : Bool) → is_blank c ≡ blank → not blank ≡ true
    by_test false is = refl
    by_test true is =
        let none = each_blank c (or_cases (c == 32 || c == 9 || c == 13) (c == 10) is) in
        let never : false ≡ true = sym (ap is_some none) ∙ digit in
        cc

-- the first step of decoding a pair, by the two digits' values and what follows
step : ℕ → ℕ → ℕ → Option ℕ → Option ℕ → Result (List ℕ) FromHexError → Result (List ℕ) FromHexError
step h l i a b rest = (digit_or_error h i a >>= λ x. digit_or_error l (i + 1) b >>= λ y. Ok (x * 16 + y)) >>= λ byte. rest >>= λ bytes. Ok (byte ∷ bytes)

known : (h l i : ℕ) (a b : Option ℕ) (rest : Result (List ℕ) FromHexError) (ys : List ℕ) → step h l i a b rest ≡ Ok ys
    → (is_some a ≡ true) × (is_some b ≡ true) × (zs : List ℕ) × (rest ≡ Ok zs)
unfolding step
known h l i None b rest ys e = cc
known h l i (Some x) None rest ys e = cc
known h l i (Some x) (Some y) (Err fault) ys e = cc
known h l i (Some x) (Some y) (Ok zs) ys e = (refl, refl, zs, refl)

kept : (c : ℕ) (xs : List ℕ) → not (is_blank c) ≡ true → without_blanks xs ≡ xs → without_blanks (c ∷ xs) ≡ c ∷ xs
unfolding without_blanks
kept c xs stays same = ap (λ test. cond test (c ∷ without_blanks xs) (without_blanks xs)) stays ∙ ap (λ ys. c ∷ ys) same

digits_stay : (i : ℕ) (xs ys : List ℕ) → decode_pairs i xs ≡ Ok ys → without_blanks xs ≡ xs
unfolding decode_pairs without_blanks step
digits_stay i [] ys e = refl
digits_stay i (d ∷ []) ys e = cc
digits_stay i (h ∷ l ∷ rest) ys e =
    let pair = known h l i (hex_digit_value h) (hex_digit_value l) (decode_pairs (i + 2) rest) ys e in
    kept h (l ∷ rest) (stays h pair.0) (kept l rest (stays l pair.1) (digits_stay (i + 2) rest pair.2 pair.3))

even : (odd : Bool) (pairs : Result (List ℕ) FromHexError) (ys : List ℕ) → cond odd (Err OddLength) pairs ≡ Ok ys → pairs ≡ Ok ys
even true pairs ys e = cc
even false pairs ys e = e

decoded_is : (r : Result (List ℕ) FromHexError) (ys : List ℕ) → Some ys ≡ result_ok r → r ≡ Ok ys
decoded_is (Ok zs) ys e = cc
decoded_is (Err fault) ys e = cc

-- a line that is decoded as it stands gives the file's bytes
pub at_once : (line file ys : List ℕ) → filter (λ b. not (is_blank b)) line ≡ filter (λ b. not (is_blank b)) file → Some ys ≡ result_ok (decode_of line)
    → Some ys ≡ hexadecimal file
unfolding without_blanks
at_once line file ys same is =
    let decoded = decoded_is (decode_of line) ys is in
    let digits : without_blanks line ≡ line = digits_stay 0 line ys (even (length line % 2 == 1) (decode_pairs 0 line) ys decoded) in
    is ∙ ap (λ xs. result_ok (decode_of xs)) (sym digits ∙ same)
