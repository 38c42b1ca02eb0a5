-- What is an even number of digits is decoded.
use Rattle.std.proofs.Common.{◌≡◌, ℕ, ◌*◌, ◌/◌, Bool, true, false, cond, List, [], ◌∷◌, length, Option, Some, None, Result, Ok, Err, refl, sym, ap, ◌∙◌, arith}
use Rattle.std.specs.Prelude.{◌==◌, ◌%◌, ◌&&◌, ◌||◌, bytes_eq, codes, is_some, nat_eq, nat_lt}
use Rattle.std.specs.Char.{is_ascii_hexdigit}
use Rattle.std.specs.Int.{is_in_range}
use Rattle.std.specs.List.{list_all}
use Rattle.std.specs.Option.{unwrap_or}
use Rattle.std.specs.Result.{result_ok}
use Rattle.std.proofs.lemmas.Bool.{and_from, and_parts, eqb-true, eq-eqb}
use Rattle.std.proofs.lemmas.List.Sums.{AllPass-from_list_all, list_all-from_AllPass}
use Rattle.hex.proofs.HexLemmas.{decode_of-digits, decode_of-ok}
use Rattle.hex.specs.Hex.{decode_of, is_hex_digit}
use Rattle.hex.specs.declared.error.FromHexError.{FromHexError}
use Rattle.parcel_replay.specs.Traced.{bytes_of}

digit_by : (a b c : Bool) (x y z : ℕ) → ((a || b) || c) ≡ is_some (cond b (Some x) (cond c (Some y) (cond a (Some z) None)))
digit_by true true c x y z = refl
digit_by true false true x y z = refl
digit_by true false false x y z = refl
digit_by false true c x y z = refl
digit_by false false true x y z = refl
digit_by false false false x y z = refl

-- the same digits, in either case
pub same_digit : (c : ℕ) → is_ascii_hexdigit c ≡ is_hex_digit c
same_digit c = digit_by (is_in_range 48 57 c) (is_in_range 65 70 c) (is_in_range 97 102 c) _ _ _

module _ (word : List ℕ) where
  decoded : (r : Result (List ℕ) FromHexError) → decode_of word ≡ r → (length word % 2 == 0 && list_all is_hex_digit word) ≡ is_some (result_ok r)
  decoded (Ok bytes) e =
      let ok = decode_of-ok word bytes e in
      and_from (length word % 2 == 0) (list_all is_hex_digit word) (eq-eqb (length word % 2) 0 ok.0) (list_all-from_AllPass is_hex_digit word ok.1)
  decoded (Err fault) e = by_tests (length word % 2 == 0) (list_all is_hex_digit word) refl refl
    where
      by_tests : (even digits : Bool) → (length word % 2 == 0) ≡ even → list_all is_hex_digit word ≡ digits → (even && digits) ≡ false
      by_tests true true is all =
          let made = decode_of-digits word (eqb-true (length word % 2) 0 is) (AllPass-from_list_all is_hex_digit word all) in
          let never : Err fault ≡ Ok made.0 = sym e ∙ made.1 in
          cc
      by_tests true false is all = refl
      by_tests false digits is all = refl

  pub pairs_decode : (length word % 2 == 0 && list_all is_hex_digit word) ≡ is_some (result_ok (decode_of word))
  pairs_decode = decoded (decode_of word) refl

one_dash : (word : List ℕ) → bytes_eq word (codes "-") ≡ true → length word ≡ 1
one_dash [] e = cc
one_dash (b ∷ []) e = refl
one_dash (b ∷ c ∷ word) e = let both = and_parts (nat_eq b 45) false e in let never : false ≡ true = both.1 in cc

-- A word of bytes has two digits a byte, or is one byte long and stands for none.
half_decoded : (word bytes : List ℕ) (limit : ℕ) (r : Result (List ℕ) FromHexError) → decode_of word ≡ r → result_ok r ≡ Some bytes → nat_lt limit (length word / 2) ≡ nat_lt limit (length bytes)
half_decoded word bytes limit (Ok found) is e =
    let ok = decode_of-ok word found is in
    let same : found ≡ bytes = ap (λ (o : Option (List ℕ)). unwrap_or o []) e in
    let twice : length word ≡ 2 * length found = ok.2 in
    let half : length word / 2 ≡ length found = omega arith in
    ap (nat_lt limit) (half ∙ ap length same)
half_decoded word bytes limit (Err fault) is e = cc

half_of : (word bytes : List ℕ) (dash empty : Bool) (limit : ℕ) → (dash ≡ true → length word ≡ 1)
    → cond dash (Some []) (cond empty None (result_ok (decode_of word))) ≡ Some bytes → nat_lt limit (length word / 2) ≡ nat_lt limit (length bytes)
half_of word bytes true empty limit one e =
    let none : [] ≡ bytes = ap (λ (o : Option (List ℕ)). unwrap_or o []) e in
    rw (← none) (ap (λ n. nat_lt limit (n / 2)) (one refl))
half_of word bytes false true limit one e = cc
half_of word bytes false false limit one e = half_decoded word bytes limit (decode_of word) refl e

pub half_long : (word bytes : List ℕ) (limit : ℕ) → bytes_of word ≡ Some bytes → nat_lt limit (length word / 2) ≡ nat_lt limit (length bytes)
unfolding bytes_of
half_long word bytes limit e = half_of word bytes (bytes_eq word (codes "-")) (length word == 0) limit (one_dash word) e
