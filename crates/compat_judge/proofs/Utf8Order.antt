-- The bytes of UTF-8 order texts as their characters do, so texts are the same where their bytes are.
use Rattle.std.proofs.Common.{◌≡◌, ℕ, ◌+◌, ◌/◌, ◌<◌, ◌≤◌, Bool, true, false, nat_lt, List, [], ◌∷◌, ◌++◌, Ordering, Less, Equal, Greater, nat_cmp, refl, sym, ap, ◌∙◌, subst, arith}
use Rattle.std.specs.Cmp.Lexicographic.{slice_cmp}
use Rattle.std.specs.Ordering.{is_eq, ordering_reverse}
use Rattle.std.specs.Str.{bytes_eq, encode_utf8_all}
use Rattle.std.proofs.lemmas.Bool.{ltb-true, ltb-false}
use Rattle.std.proofs.lemmas.Bool.Decides.{nat_tests}
use Rattle.std.proofs.lemmas.Cmp.{nat_list_cmp_total, nat_cmp_total, tied_itself}
use Rattle.std.proofs.lemmas.Map.Text.{is_eq-slice_cmp}
use lib.Utf8.{encode, next}
use Rattle.aidl_schema.specs.Same.{same_text}

abbrev cmp : List ℕ → List ℕ → Ordering
cmp = slice_cmp nat_cmp

-- how a character is spelled
data Spelled (c : ℕ) : Type 0 where
  one : c < 128 → encode c ≡ c ∷ [] → Spelled c
  two : 128 ≤ c → c < 2048 → encode c ≡ (192 + c / 64) ∷ next c ∷ [] → Spelled c
  three : 2048 ≤ c → c < 65536 → encode c ≡ (224 + c / 4096) ∷ next (c / 64) ∷ next c ∷ [] → Spelled c
  four : 65536 ≤ c → encode c ≡ (240 + c / 262144) ∷ next (c / 4096) ∷ next (c / 64) ∷ next c ∷ [] → Spelled c

spelled : (c : ℕ) → Spelled c
unfolding encode
spelled c = by1 (nat_lt c 128) refl
  where
    by4 : (b : Bool) → nat_lt c 65536 ≡ b → nat_lt c 128 ≡ false → nat_lt c 2048 ≡ false → Spelled c
    by4 true e o t = three (ltb-false _ _ t) (ltb-true _ _ e) (rw (o, t, e) refl)
    by4 false e o t = four (ltb-false _ _ e) (rw (o, t, e) refl)

    by2 : (b : Bool) → nat_lt c 2048 ≡ b → nat_lt c 128 ≡ false → Spelled c
    by2 true e o = two (ltb-false _ _ o) (ltb-true _ _ e) (rw (o, e) refl)
    by2 false e o = by4 (nat_lt c 65536) refl o e

    by1 : (b : Bool) → nat_lt c 128 ≡ b → Spelled c
    by1 true e = one (ltb-true _ _ e) (rw e refl)
    by1 false e = by2 (nat_lt c 2048) refl e

lt_is : (a b : ℕ) → a < b → nat_cmp a b ≡ Less
lt_is a b lt = grind (arith, nat_tests)

tie_is : (a b : ℕ) → nat_cmp a b ≡ Equal → a ≡ b
tie_is a b e = grind (arith, nat_tests)

gt_is : (a b : ℕ) → nat_cmp a b ≡ Greater → b < a
gt_is a b e = grind (arith, nat_tests)

less_is : (a b : ℕ) → nat_cmp a b ≡ Less → a < b
less_is a b e = grind (arith, nat_tests)

below : (a b : ℕ) (xs ys : List ℕ) → a < b → cmp (a ∷ xs) (b ∷ ys) ≡ Less
below a b xs ys lt = rw (lt_is a b lt) refl

rises : (a b : ℕ) (xs ys : List ℕ) → a ≤ b → (a ≡ b → cmp xs ys ≡ Less) → cmp (a ∷ xs) (b ∷ ys) ≡ Less
rises a b xs ys le rest = by (nat_cmp a b) refl
  where
    by : (o : Ordering) → nat_cmp a b ≡ o → cmp (a ∷ xs) (b ∷ ys) ≡ Less
    by Less e = rw e refl
    by Equal e = rw e (rest (tie_is a b e))
    by Greater e = let lt = gt_is a b e in absurd (omega arith)

-- at the last byte
last : (c d : ℕ) (xs ys : List ℕ) → c < d → c / 64 ≡ d / 64 → cmp (next c ∷ xs) (next d ∷ ys) ≡ Less
last c d xs ys lt e = below (next c) (next d) xs ys (omega arith)

-- at one before it
more : (c d : ℕ) (xs ys : List ℕ) → c ≤ d → c / 64 ≡ d / 64 → (c ≡ d → cmp xs ys ≡ Less) → cmp (next c ∷ xs) (next d ∷ ys) ≡ Less
more c d xs ys le e rest = rises (next c) (next d) xs ys (omega arith) (λ same. rest (omega arith))

div_twice : (c : ℕ) → c / 4096 ≡ c / 64 / 64
div_twice c = omega arith

div_thrice : (c : ℕ) → c / 262144 ≡ c / 4096 / 64
div_thrice c = omega arith

div_le : (c d : ℕ) → c ≤ d → c / 64 ≤ d / 64
div_le c d le = omega arith

-- a lower character has lower bytes, whatever follows
char_less : (c d : ℕ) (xs ys : List ℕ) → c < d → cmp (encode c ++ xs) (encode d ++ ys) ≡ Less
char_less c d xs ys lt = by (spelled c) (spelled d)
  where
    by : Spelled c → Spelled d → cmp (encode c ++ xs) (encode d ++ ys) ≡ Less
    by (one c1 ce) (one d1 de) = rw (ce, de) (below c d xs ys lt)
    by (one c1 ce) (two d1 d2 de) = rw (ce, de) (below c (192 + d / 64) xs (next d ∷ ys) (omega arith))
    by (one c1 ce) (three d1 d2 de) = rw (ce, de) (below c (224 + d / 4096) xs (next (d / 64) ∷ next d ∷ ys) (omega arith))
    by (one c1 ce) (four d1 de) = rw (ce, de) (below c (240 + d / 262144) xs (next (d / 4096) ∷ next (d / 64) ∷ next d ∷ ys) (omega arith))
    by (two c1 c2 ce) (one d1 de) = absurd (omega arith)
    by (two c1 c2 ce) (two d1 d2 de) =
        rw (ce, de) (rises (192 + c / 64) (192 + d / 64) (next c ∷ xs) (next d ∷ ys) (omega (arith, div_le c d)) (λ e. last c d xs ys lt (omega arith)))
    by (two c1 c2 ce) (three d1 d2 de) = rw (ce, de) (below (192 + c / 64) (224 + d / 4096) (next c ∷ xs) (next (d / 64) ∷ next d ∷ ys) (omega arith))
    by (two c1 c2 ce) (four d1 de) = rw (ce, de) (below (192 + c / 64) (240 + d / 262144) (next c ∷ xs) (next (d / 4096) ∷ next (d / 64) ∷ next d ∷ ys) (omega arith))
    by (three c1 c2 ce) (one d1 de) = absurd (omega arith)
    by (three c1 c2 ce) (two d1 d2 de) = absurd (omega arith)
    by (three c1 c2 ce) (three d1 d2 de) =
        let le : c / 64 ≤ d / 64 = omega arith in
        let high : c / 4096 ≤ d / 4096 = omega arith in
        rw (ce, de) (rises (224 + c / 4096) (224 + d / 4096) (next (c / 64) ∷ next c ∷ xs) (next (d / 64) ∷ next d ∷ ys) (omega (arith, high))
        (λ e. let top : c / 4096 ≡ d / 4096 = omega arith in more (c / 64) (d / 64) (next c ∷ xs) (next d ∷ ys) le (sym (div_twice c) ∙ top ∙ div_twice d) (λ same. last c d xs ys lt same)))
    by (three c1 c2 ce) (four d1 de) =
        rw (ce, de) (below (224 + c / 4096) (240 + d / 262144) (next (c / 64) ∷ next c ∷ xs) (next (d / 4096) ∷ next (d / 64) ∷ next d ∷ ys) (omega arith))
    by (four c1 ce) (one d1 de) = absurd (omega arith)
    by (four c1 ce) (two d1 d2 de) = absurd (omega arith)
    by (four c1 ce) (three d1 d2 de) = absurd (omega arith)
    by (four c1 ce) (four d1 de) =
        let le : c / 64 ≤ d / 64 = omega arith in
        let mid : c / 4096 ≤ d / 4096 = omega arith in
        let high : c / 262144 ≤ d / 262144 = omega arith in
        rw (ce, de) (rises (240 + c / 262144) (240 + d / 262144) (next (c / 4096) ∷ next (c / 64) ∷ next c ∷ xs) (next (d / 4096) ∷ next (d / 64) ∷ next d ∷ ys) (omega (arith, high))
        (λ e. let top : c / 262144 ≡ d / 262144 = omega arith in
        more (c / 4096) (d / 4096) (next (c / 64) ∷ next c ∷ xs) (next (d / 64) ∷ next d ∷ ys) mid (sym (div_thrice c) ∙ top ∙ div_thrice d)
        (λ two. more (c / 64) (d / 64) (next c ∷ xs) (next d ∷ ys) le (sym (div_twice c) ∙ two ∙ div_twice d) (λ same. last c d xs ys lt same))))

-- what follows the same front decides
same_front : (p x y : List ℕ) → cmp (p ++ x) (p ++ y) ≡ cmp x y
same_front [] x y = refl
same_front (a ∷ p) x y = rw (tied_itself nat_cmp_total a) (same_front p x y)

nothing_less : (d : ℕ) (ys : List ℕ) → cmp [] (encode d ++ ys) ≡ Less
nothing_less d ys = by (spelled d)
  where
    by : Spelled d → cmp [] (encode d ++ ys) ≡ Less
    by (one d1 de) = rw de refl
    by (two d1 d2 de) = rw de refl
    by (three d1 d2 de) = rw de refl
    by (four d1 de) = rw de refl

turned : (x y : List ℕ) → cmp x y ≡ Less → cmp y x ≡ Greater
turned x y e = nat_list_cmp_total.antisymm y x ∙ ap ordering_reverse e

pub utf8-order : (x y : List ℕ) → slice_cmp nat_cmp (encode_utf8_all x) (encode_utf8_all y) ≡ slice_cmp nat_cmp x y
utf8-order [] [] = refl
utf8-order [] (d ∷ y) = nothing_less d (encode_utf8_all y)
utf8-order (c ∷ x) [] = turned [] (encode c ++ encode_utf8_all x) (nothing_less c (encode_utf8_all x))
utf8-order (c ∷ x) (d ∷ y) = by (nat_cmp c d) refl (utf8-order x y)
  where
    by : (o : Ordering) → nat_cmp c d ≡ o → cmp (encode_utf8_all x) (encode_utf8_all y) ≡ cmp x y → cmp (encode c ++ encode_utf8_all x) (encode d ++ encode_utf8_all y) ≡ cmp (c ∷ x) (d ∷ y)
    by Less e rest = rw e (char_less c d (encode_utf8_all x) (encode_utf8_all y) (less_is c d e))
    by Equal e rest =
        rw e (subst (λ z. cmp (encode c ++ encode_utf8_all x) (encode z ++ encode_utf8_all y) ≡ cmp x y) (tie_is c d e) (same_front (encode c) (encode_utf8_all x) (encode_utf8_all y) ∙ rest))
    by Greater e rest =
        rw e (turned (encode d ++ encode_utf8_all y) (encode c ++ encode_utf8_all x) (char_less d c (encode_utf8_all y) (encode_utf8_all x) (gt_is c d e)))

-- the same characters, the same bytes
pub same_encoded : (x y : List ℕ) → bytes_eq (encode_utf8_all x) (encode_utf8_all y) ≡ same_text x y
same_encoded x y = sym (is_eq-slice_cmp (encode_utf8_all x) (encode_utf8_all y)) ∙ ap is_eq (utf8-order x y) ∙ is_eq-slice_cmp x y
