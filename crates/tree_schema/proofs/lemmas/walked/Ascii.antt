-- Identifiers are ASCII and have no dot, so a canonical name is its own UTF-8, and no two names have one text.
use Rattle.std.proofs.Common.{◌≡◌, ◌<◌, ℕ, Bool, true, false, ◌&&◌, List, [], ◌∷◌, ◌++◌, encode_utf8_all, is_none, refl, sym, ap, ◌∙◌, subst, arith, append-nil, lit<}
use Rattle.std.specs.List.{list_all}
use Rattle.std.proofs.lemmas.Bool.Decides.{nat_tests}
use Rattle.std.proofs.lemmas.Str.{encodes-append, encode_ascii}
use Rattle.aidl_base.specs.declared.name.Ident.{Ident}
use Rattle.aidl_base.specs.Identifiers.{is_identifier, is_word_byte, is_letter, begins}
use Rattle.aidl_base.specs.Names.{dotted}
use Rattle.aidl_base.specs.Reserved.{reserved_of}
use Rattle.aidl_base.proofs.lemmas.Tests.{both}

-- the part is an identifier
abbrev pub is_identifier_part : Ident → Bool
is_identifier_part i = is_identifier i.0

word_byte : (b : ℕ) → is_word_byte b ≡ true → b < 128
word_byte b h = grind (arith, nat_tests)

word_byte_no_dot : is_word_byte 46 ≡ false
word_byte_no_dot = refl

parts_of : (w : List ℕ) → is_identifier w ≡ true → (begins is_letter w ≡ true) × (list_all is_word_byte w ≡ true)
parts_of w h = both (begins is_letter w) (list_all is_word_byte w) (both (begins is_letter w && list_all is_word_byte w) (is_none (reserved_of w)) h).0

word_bytes : (w : List ℕ) → is_identifier w ≡ true → list_all is_word_byte w ≡ true
word_bytes w h = (parts_of w h).1

plain : (w : List ℕ) → list_all is_word_byte w ≡ true → encode_utf8_all w ≡ w
plain [] h = refl
plain (b ∷ w) h =
    let two = both (is_word_byte b) (list_all is_word_byte w) h in
    ap (λ bs. bs ++ encode_utf8_all w) (encode_ascii b (word_byte b two.0)) ∙ ap (λ bs. b ∷ bs) (plain w two.1)

-- an identifier is its own UTF-8
pub plain-identifier : (w : List ℕ) → is_identifier w ≡ true → encode_utf8_all w ≡ w
plain-identifier w h = plain w (word_bytes w h)

-- the dot and what follows the first part
abbrev tailed : List Ident → List ℕ
tailed [] = []
tailed (j ∷ is) = 46 ∷ dotted (j ∷ is)

by_first : (i : Ident) (is : List Ident) → dotted (i ∷ is) ≡ i.0 ++ tailed is
by_first i [] = sym (append-nil i.0)
by_first i (j ∷ is) = refl

-- a canonical name is its own UTF-8
pub plain-dotted : (parts : List Ident) → list_all is_identifier_part parts ≡ true → encode_utf8_all (dotted parts) ≡ dotted parts
plain-dotted [] h = refl
plain-dotted (i ∷ []) h = plain-identifier i.0 (both (is_identifier_part i) true h).0
plain-dotted (i ∷ j ∷ is) h =
    let two = both (is_identifier_part i) (list_all is_identifier_part (j ∷ is)) h in
    encodes-append i.0 (46 ∷ dotted (j ∷ is))
    ∙ ap (λ bs. bs ++ encode_utf8_all (46 ∷ dotted (j ∷ is))) (plain-identifier i.0 two.0)
    ∙ ap (λ dot. i.0 ++ (dot ++ encode_utf8_all (dotted (j ∷ is)))) (encode_ascii 46 (lit< tt))
    ∙ ap (λ rest. i.0 ++ (46 ∷ rest)) (plain-dotted (j ∷ is) two.1)

no_dot : (b : ℕ) (bs cs : List ℕ) → is_word_byte b ≡ true → 46 ∷ cs ≡ b ∷ bs → ⊥
no_dot b bs cs h e = let same : 46 ≡ b = cc in let not : is_word_byte b ≡ false = subst (λ x. is_word_byte x ≡ false) same refl in cc

front : (a b : List ℕ) (us vs : List Ident) → list_all is_word_byte a ≡ true → list_all is_word_byte b ≡ true → a ++ tailed us ≡ b ++ tailed vs → (a ≡ b) × (tailed us ≡ tailed vs)
front [] [] us vs h k e = (refl, e)
front [] (y ∷ b) [] vs h k e = cc
front [] (y ∷ b) (u ∷ us) vs h k e = absurd (no_dot y (b ++ tailed vs) (dotted (u ∷ us)) (both _ _ k).0 e)
front (x ∷ a) [] us [] h k e = cc
front (x ∷ a) [] us (v ∷ vs) h k e = absurd (no_dot x (a ++ tailed us) (dotted (v ∷ vs)) (both _ _ h).0 (sym e))
front (x ∷ a) (y ∷ b) us vs h k e =
    let head : x ≡ y = cc in
    let rest : a ++ tailed us ≡ b ++ tailed vs = cc in
    let two = front a b us vs (both _ _ h).1 (both _ _ k).1 rest in
    (ap (λ z. z ∷ a) head ∙ ap (λ zs. y ∷ zs) two.0, two.1)

not_empty : (i : Ident) (is : List Ident) → is_identifier_part i ≡ true → [] ≡ dotted (i ∷ is) → ⊥
not_empty i is h e = by i.0 (parts_of i.0 h).0 (e ∙ by_first i is) where
  by : (w : List ℕ) → begins is_letter w ≡ true → [] ≡ w ++ tailed is → ⊥
  by [] b z = cc
  by (x ∷ w) b z = cc

-- names of one text are the same
pub dotted-injective : (a b : List Ident) → list_all is_identifier_part a ≡ true → list_all is_identifier_part b ≡ true → dotted a ≡ dotted b → a ≡ b
dotted-injective [] [] h k e = refl
dotted-injective [] (j ∷ b) h k e = absurd (not_empty j b (both _ _ k).0 e)
dotted-injective (i ∷ a) [] h k e = absurd (not_empty i a (both _ _ h).0 (sym e))
dotted-injective (i ∷ a) (j ∷ b) h k e =
    let two = front i.0 j.0 a b (word_bytes i.0 (both (is_identifier_part i) (list_all is_identifier_part a) h).0) (word_bytes j.0 (both (is_identifier_part j) (list_all is_identifier_part b) k).0) (sym (by_first i a) ∙ e ∙ by_first j b) in
    let head : i ≡ j = ap (λ t. let n : Ident = record { 0 = t } in n) two.0 in
    ap (λ n. n ∷ a) head ∙ ap (λ ns. j ∷ ns) (rest a b (both (is_identifier_part i) _ h).1 (both (is_identifier_part j) _ k).1 two.1 (dotted-injective a b)) where
      rest : (us vs : List Ident) → list_all is_identifier_part us ≡ true → list_all is_identifier_part vs ≡ true → tailed us ≡ tailed vs
          → (list_all is_identifier_part us ≡ true → list_all is_identifier_part vs ≡ true → dotted us ≡ dotted vs → us ≡ vs) → us ≡ vs
      rest [] [] p q t again = refl
      rest [] (v ∷ vs) p q t again = cc
      rest (u ∷ us) [] p q t again = cc
      rest (u ∷ us) (v ∷ vs) p q t again = again p q (cc)
