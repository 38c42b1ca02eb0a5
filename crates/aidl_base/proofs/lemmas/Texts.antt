-- A text as UTF-16 units, there and back.
use Rattle.std.proofs.Common.{length, length-append, subst, ◌≡◌, ℕ, suc, ◌+◌, ◌-◌, ◌/◌, ◌%◌, ◌^◌, ◌<◌, ◌≤◌, Bool, true, false, not, ◌&&◌, List, [], ◌∷◌, ◌++◌, map, get_or, Option, Some, None, nat_lt, nat_le, refl, sym, ap, ◌∙◌, arith, true≢false}
use Rattle.std.specs.List.{list_any}
use Rattle.std.specs.Option.{unwrap_or, is_some}
use Rattle.std.specs.Char.Utf16.{utf16_chars, utf16_lossy_chars, has_unpaired_surrogate, is_high_surrogate, is_low_surrogate, surrogate_pair_char, lone_unit_char}
use Rattle.std.specs.Char.Escape.{encode_utf16}
use Rattle.std.specs.Char.{len_utf8}
use Rattle.std.specs.Str.{all_scalars, chars, encode_utf8_all}
use Rattle.std.proofs.lemmas.Bool.{ltb-true, ltb-false, le-ltb}
use Rattle.std.proofs.lemmas.Str.{length-encode, len_utf8_bounds, chars-encodes}
use Rattle.std.proofs.lemmas.Bool.Decides.{nat_tests}
use lib.Utf8.{scalar, encode}
use Rattle.aidl_base.specs.Words.{units}
use Rattle.aidl_base.proofs.lemmas.Tests.{both}

-- a pair of surrogates is one character past the first 65536
record IsPair (u v : ℕ) : Type 0 where
  past : 0x1_0000 ≤ surrogate_pair_char u v
  within : surrogate_pair_char u v < 0x11_0000
  first : 0xD800 + (surrogate_pair_char u v - 0x1_0000) / 0x400 ≡ u
  second : 0xDC00 + (surrogate_pair_char u v - 0x1_0000) % 0x400 ≡ v

is_pair : (u v : ℕ) → is_high_surrogate u ≡ true → is_low_surrogate v ≡ true → IsPair u v
is_pair u v high low =
    let a = both (nat_le 0xD800 u) (nat_lt u 0xDC00) high in
    let b = both (nat_le 0xDC00 v) (nat_lt v 0xE000) low in
    let u1 : 0xD800 ≤ u = grind (arith, nat_tests, a.0) in
    let u2 : u < 0xDC00 = grind (arith, nat_tests, a.1) in
    let v1 : 0xDC00 ≤ v = grind (arith, nat_tests, b.0) in
    let v2 : v < 0xE000 = grind (arith, nat_tests, b.1) in
    record { past = omega arith; within = omega arith; first = omega arith; second = omega arith }

pair_scalar : (c : ℕ) → 0x1_0000 ≤ c → c < 0x11_0000 → scalar c ≡ true
pair_scalar c le lt = grind (arith, nat_tests)

-- one step at a unit that is no surrogate
lone : (c : ℕ) (us : List ℕ) → (nat_le 0xD800 c && nat_lt c 0xE000) ≡ false → is_high_surrogate c ≡ false → utf16_chars (c ∷ us) ≡ Some c ∷ utf16_chars us
unfolding utf16_chars
lone c [] low high = rw low refl
lone c (u ∷ us) low high = rw (high, low) refl

pair : (h l : ℕ) (us : List ℕ) → is_high_surrogate h ≡ true → is_low_surrogate l ≡ true → utf16_chars (h ∷ l ∷ us) ≡ Some (surrogate_pair_char h l) ∷ utf16_chars us
unfolding utf16_chars
pair h l us high low = rw (high, low) refl

below : (c : ℕ) → nat_lt c 0x1_0000 ≡ true → scalar c ≡ true → ((nat_le 0xD800 c && nat_lt c 0xE000) ≡ false) × (is_high_surrogate c ≡ false)
below c small ok = (grind (arith, nat_tests), grind (arith, nat_tests))

high_is : (d : ℕ) → d < 0x10_0000 → is_high_surrogate (0xD800 + d / 0x400) ≡ true
high_is d lt = let q : d / 0x400 < 0x400 = omega arith in grind (arith, nat_tests)

low_is : (d : ℕ) → is_low_surrogate (0xDC00 + d % 0x400) ≡ true
low_is d = let q : d % 0x400 < 0x400 = omega arith in grind (arith, nat_tests)

pair_char : (c : ℕ) → 0x1_0000 ≤ c → surrogate_pair_char (0xD800 + (c - 0x1_0000) / 0x400) (0xDC00 + (c - 0x1_0000) % 0x400) ≡ c
pair_char c le = omega arith

step_at : (c : ℕ) (us : List ℕ) (b : Bool) → nat_lt c 0x1_0000 ≡ b → scalar c ≡ true → utf16_chars (encode_utf16 c ++ us) ≡ Some c ∷ utf16_chars us
step_at c us true small ok = let p = below c small ok in rw small (lone c us p.0 p.1)
step_at c us false large ok =
    let le : 0x1_0000 ≤ c = ltb-false _ _ large in
    let lt : c - 0x1_0000 < 0x10_0000 = grind (arith, nat_tests) in
    rw large (pair _ _ us (high_is (c - 0x1_0000) lt) (low_is (c - 0x1_0000)) ∙ ap (λ x. Some x ∷ utf16_chars us) (pair_char c le))

-- each unit of a text is one of a character
pub utf16_chars-units : (x : List ℕ) → all_scalars x ≡ true → utf16_chars (units x) ≡ map Some x
unfolding utf16_chars
utf16_chars-units [] ok = refl
utf16_chars-units (c ∷ x) ok =
    let p = both (scalar c) (all_scalars x) ok in
    step_at c (units x) (nat_lt c 0x1_0000) refl p.0 ∙ ap (λ r. Some c ∷ r) (utf16_chars-units x p.1)

units_of_one : (c : ℕ) (b : Bool) → nat_lt c 0x1_0000 ≡ b → length (encode_utf16 c) ≤ len_utf8 c
units_of_one c true small = let one : length (encode_utf16 c) ≡ 1 = rw small refl in subst (λ n. n ≤ len_utf8 c) (sym one) (len_utf8_bounds c).0
units_of_one c false large =
    let le : 0x1_0000 ≤ c = ltb-false _ _ large in
    let ascii : nat_lt c 0x80 ≡ false = le-ltb _ _ (omega arith) in
    let two : nat_lt c 0x800 ≡ false = le-ltb _ _ (omega arith) in
    rw (ascii, two, large) (omega arith)

-- a text has at least as many bytes as units
pub units_le : (x : List ℕ) → length (units x) ≤ length (encode_utf8_all x)
units_le [] = omega arith
units_le (c ∷ x) = omega (arith, units_le x, units_of_one c (nat_lt c 0x1_0000) refl, length-encode c, length-append (encode_utf16 c) (units x), length-append (encode c) (encode_utf8_all x))

some_unit : (c : ℕ) (b : Bool) → nat_lt c 0x1_0000 ≡ b → 1 ≤ length (encode_utf16 c)
some_unit c true small = rw small (omega arith)
some_unit c false large = rw large (omega arith)

-- and at least as many units as characters
pub chars_le_units : (x : List ℕ) → length x ≤ length (units x)
chars_le_units [] = omega arith
chars_le_units (c ∷ x) = omega (arith, chars_le_units x, some_unit c (nat_lt c 0x1_0000) refl, length-append (encode_utf16 c) (units x))

-- each is a unit of UTF-16
abbrev pub AreUnits : List ℕ → Type 0
AreUnits us = (k : ℕ) → get_or us k 0 < 2 ^ 16

lone_scalar : (u : ℕ) (b : Bool) → u < 2 ^ 16 → (nat_le 0xD800 u && nat_lt u 0xE000) ≡ b → scalar (unwrap_or (lone_unit_char u) 0xFFFD) ≡ true
lone_scalar u true lt e = rw e refl
lone_scalar u false lt e = rw e (grind (arith, nat_tests))

surrogates_scalar : (u v : ℕ) → (is_high_surrogate u && is_low_surrogate v) ≡ true → scalar (surrogate_pair_char u v) ≡ true
surrogates_scalar u v e =
    let two = both (is_high_surrogate u) (is_low_surrogate v) e in
    let p = is_pair u v two.0 two.1 in
    pair_scalar (surrogate_pair_char u v) p.past p.within

-- what units spell is characters
lossy_scalars : (us : List ℕ) → AreUnits us → all_scalars (utf16_lossy_chars us) ≡ true
unfolding utf16_chars
lossy_scalars [] h = refl
lossy_scalars (u ∷ []) h = rw (lone_scalar u (nat_le 0xD800 u && nat_lt u 0xE000) (h 0) refl) refl
lossy_scalars (u ∷ v ∷ us) h = by_pair (is_high_surrogate u && is_low_surrogate v) refl (lossy_scalars us (λ k. h (suc (suc k)))) (lossy_scalars (v ∷ us) (λ k. h (suc k)))
  where
    by_pair : (b : Bool) → (is_high_surrogate u && is_low_surrogate v) ≡ b → all_scalars (utf16_lossy_chars us) ≡ true
        → all_scalars (utf16_lossy_chars (v ∷ us)) ≡ true → all_scalars (utf16_lossy_chars (u ∷ v ∷ us)) ≡ true
    by_pair true e two one = rw (e, surrogates_scalar u v e) two
    by_pair false e two one = rw (e, lone_scalar u (nat_le 0xD800 u && nat_lt u 0xE000) (h 0) refl) one

pub chars_of_units : (us : List ℕ) → AreUnits us → chars (encode_utf8_all (utf16_lossy_chars us)) ≡ utf16_lossy_chars us
chars_of_units us h = chars-encodes (utf16_lossy_chars us) (lossy_scalars us h)

-- each of the units of characters is one
abbrev pub Below : List ℕ → Type 0
Below [] = Unit {0}
Below (u ∷ us) = (u < 2 ^ 16) × Below us

below_append : (us vs : List ℕ) → Below us → Below vs → Below (us ++ vs)
below_append [] vs h k = k
below_append (u ∷ us) vs h k = (h.0, below_append us vs h.1 k)

char_below : (c : ℕ) (b : Bool) → nat_lt c 0x1_0000 ≡ b → scalar c ≡ true → Below (encode_utf16 c)
char_below c true small ok = let lt : c < 65536 = ltb-true _ _ small in rw small (omega arith, tt)
char_below c false large ok =
    let le : 0x1_0000 ≤ c = ltb-false _ _ large in
    let lt : c - 0x1_0000 < 0x10_0000 = grind (arith, nat_tests) in
    rw large (omega arith, (omega arith, tt))

pub units_below : (x : List ℕ) → all_scalars x ≡ true → Below (units x)
units_below [] ok = tt
units_below (c ∷ x) ok = let p = both (scalar c) (all_scalars x) ok in below_append (encode_utf16 c) (units x) (char_below c (nat_lt c 0x1_0000) refl p.0) (units_below x p.1)

pub none_unpaired : (x : List ℕ) → list_any (λ o. not (is_some o)) (map Some x) ≡ false
none_unpaired [] = refl
none_unpaired (c ∷ x) = none_unpaired x

pub lossless : (x : List ℕ) → map (λ o. unwrap_or o 0xFFFD) (map Some x) ≡ x
lossless [] = refl
lossless (c ∷ x) = ap (λ y. c ∷ y) (lossless x)

-- some unit is a lone surrogate
abbrev AnyLone : List (Option ℕ) → Bool
AnyLone os = list_any (λ o. not (is_some o)) os

lone_none : (u : ℕ) → (nat_le 0xD800 u && nat_lt u 0xE000) ≡ true → lone_unit_char u ≡ None
lone_none u e = rw e refl

lone_some : (u : ℕ) → (nat_le 0xD800 u && nat_lt u 0xE000) ≡ false → lone_unit_char u ≡ Some u
lone_some u e = rw e refl

-- units that spell a text
abbrev pub Spelled : List ℕ → Type 0
Spelled us = (x : List ℕ) × (all_scalars x ≡ true) × (units x ≡ us)

lone_unit : (u : ℕ) (us : List ℕ) → u < 2 ^ 16 → (nat_le 0xD800 u && nat_lt u 0xE000) ≡ false → Spelled us → Spelled (u ∷ us)
lone_unit u us lt e h =
    let small : nat_lt u 0x1_0000 ≡ true = grind (arith, nat_tests) in
    let ok : scalar u ≡ true = grind (arith, nat_tests) in
    (u ∷ h.0, rw (ok, h.1) refl, rw small (ap (λ xs. u ∷ xs) h.2))

not_small : (c : ℕ) → 0x1_0000 ≤ c → nat_lt c 0x1_0000 ≡ false
not_small c le = grind (arith, nat_tests)

pair_unit : (u v : ℕ) (us : List ℕ) → is_high_surrogate u ≡ true → is_low_surrogate v ≡ true → Spelled us → Spelled (u ∷ v ∷ us)
pair_unit u v us high low h =
    let p = is_pair u v high low in
    let c = surrogate_pair_char u v in
    let large : nat_lt c 0x1_0000 ≡ false = not_small c p.past in
    let ok : scalar c ≡ true = pair_scalar c p.past p.within in
    (c ∷ h.0, rw (ok, h.1) refl, rw (large, p.first, p.second, h.2) refl)

-- units without a lone surrogate spell a text
pub spelled : (us : List ℕ) → Below us → has_unpaired_surrogate us ≡ false → Spelled us
unfolding utf16_chars
spelled [] h e = ([], refl, refl)
spelled (u ∷ []) h e = by_test (nat_le 0xD800 u && nat_lt u 0xE000) refl
  where
    by_test : (b : Bool) → (nat_le 0xD800 u && nat_lt u 0xE000) ≡ b → Spelled (u ∷ [])
    by_test true is = let wrong : AnyLone (None ∷ []) ≡ false = rw is at e in absurd (true≢false wrong)
    by_test false is = lone_unit u [] h.0 is ([], refl, refl)
spelled (u ∷ v ∷ us) h e = by_pair (is_high_surrogate u && is_low_surrogate v) refl (λ k. spelled us h.1.1 k) (λ k. spelled (v ∷ us) h.1 k)
  where
    by_lone : (b : Bool) → (nat_le 0xD800 u && nat_lt u 0xE000) ≡ b → AnyLone (lone_unit_char u ∷ utf16_chars (v ∷ us)) ≡ false
        → (has_unpaired_surrogate (v ∷ us) ≡ false → Spelled (v ∷ us)) → Spelled (u ∷ v ∷ us)
    by_lone true is k rest =
        let wrong : AnyLone (None ∷ utf16_chars (v ∷ us)) ≡ false = subst (λ o. AnyLone (o ∷ utf16_chars (v ∷ us)) ≡ false) (lone_none u is) k in
        absurd (true≢false wrong)
    by_lone false is k rest =
        let good : AnyLone (Some u ∷ utf16_chars (v ∷ us)) ≡ false = subst (λ o. AnyLone (o ∷ utf16_chars (v ∷ us)) ≡ false) (lone_some u is) k in
        lone_unit u (v ∷ us) h.0 is (rest good)

    by_pair : (b : Bool) → (is_high_surrogate u && is_low_surrogate v) ≡ b → (has_unpaired_surrogate us ≡ false → Spelled us)
        → (has_unpaired_surrogate (v ∷ us) ≡ false → Spelled (v ∷ us)) → Spelled (u ∷ v ∷ us)
    by_pair true is two one =
        let p = both (is_high_surrogate u) (is_low_surrogate v) is in
        let k : AnyLone (Some (surrogate_pair_char u v) ∷ utf16_chars us) ≡ false = rw is at e in
        pair_unit u v us p.0 p.1 (two k)
    by_pair false is two one =
        let k : AnyLone (lone_unit_char u ∷ utf16_chars (v ∷ us)) ≡ false = rw is at e in
        by_lone (nat_le 0xD800 u && nat_lt u 0xE000) refl k one
