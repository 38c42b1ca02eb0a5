-- The order of texts, front by front.
use Rattle.std.proofs.Common.{◌≡◌, ℕ, suc, ◌-◌, ◌<◌, ◌≤◌, min, List, [], ◌∷◌, ◌++◌, length, take, drop, get_or, nat_cmp, Ordering, Less, Equal, Greater, refl, sym, ap, ◌∙◌, subst, arith, lit<, length-take, length-drop}
use Rattle.std.proofs.lemmas.List.{take-append-drop, append-nil, take_all}
use Rattle.std.specs.Cmp.Lexicographic.{slice_cmp}
use Rattle.std.specs.Ordering.{ordering_then, is_eq}
use Rattle.std.specs.Str.{encode_utf8_all}
use Rattle.std.proofs.lemmas.Cmp.{nat_cmp_total, tied_itself}
use Rattle.std.proofs.lemmas.Str.{encodes-append, encode_ascii}
use Rattle.std.proofs.lemmas.Map.Text.{is_eq-slice_cmp}
use Rattle.aidl_base.specs.declared.name.Ident.{Ident}
use Rattle.aidl_base.specs.Names.{dotted}
use Rattle.aidl_schema.specs.steps.Dots.{with_dots}
use Rattle.aidl_schema.proofs.lemmas.Sames.{same_text_is}

-- texts that tie are the same
pub tied : (x y : List ℕ) → slice_cmp nat_cmp x y ≡ Equal → x ≡ y
tied x y e = same_text_is x y (sym (is_eq-slice_cmp x y) ∙ ap is_eq e)

-- what follows the same front decides
pub same_front : (p x y : List ℕ) → slice_cmp nat_cmp (p ++ x) (p ++ y) ≡ slice_cmp nat_cmp x y
same_front [] x y = refl
same_front (a ∷ p) x y = rw (tied_itself nat_cmp_total a) (same_front p x y)

-- a front that differs decides, whatever follows it
by_first : (o c r s : Ordering) → ordering_then c r ≡ o → (r ≡ o → s ≡ o) → ordering_then c s ≡ o
by_first o Less r s e later = e
by_first o Greater r s e later = e
by_first o Equal r s e later = later e

pub front_decides : (p q x y : List ℕ) (o : Ordering) → length x ≤ length p → (length x < length p → y ≡ []) → slice_cmp nat_cmp p x ≡ o → (o ≡ Equal → ⊥)
    → slice_cmp nat_cmp (p ++ q) (x ++ y) ≡ o
front_decides [] q [] y o le ends e differs = absurd (differs (sym e))
front_decides [] q (b ∷ x) y o le ends e differs = absurd (omega arith)
front_decides (a ∷ p) q [] y o le ends e differs = let none : y ≡ [] = ends (omega arith) in rw none e
front_decides (a ∷ p) q (b ∷ x) y o le ends e differs =
    let shorter : length x < length p → y ≡ [] = λ lt. ends (omega arith) in
    by_first o (nat_cmp a b) (slice_cmp nat_cmp p x) (slice_cmp nat_cmp (p ++ q) (x ++ y)) e (λ h. front_decides p q x y o (omega arith) shorter h differs)

-- the same of the front of a text that is as long, or all of it
pub begins_otherwise : (p q text : List ℕ) (n : ℕ) (o : Ordering) → n ≡ min (length p) (length text) → slice_cmp nat_cmp p (take n text) ≡ o → (o ≡ Equal → ⊥) → slice_cmp nat_cmp (p ++ q) text ≡ o
begins_otherwise p q text n o is e differs =
    let long = length-take n text in
    let over = length-drop n text in
    let ends : length (take n text) < length p → drop n text ≡ [] = λ lt. empty (drop n text) (omega arith) in
    subst (λ t. slice_cmp nat_cmp (p ++ q) t ≡ o) (take-append-drop n text) (front_decides p q (take n text) (drop n text) o (omega arith) ends e differs)
  where
    empty : (xs : List ℕ) → length xs ≡ 0 → xs ≡ []
    empty [] z = refl
    empty (x ∷ xs) z = absurd (omega arith)

pub begins : (p text : List ℕ) (n : ℕ) → slice_cmp nat_cmp p (take n text) ≡ Equal → text ≡ p ++ drop n text
begins p text n e = sym (ap (λ front. front ++ drop n text) (tied p (take n text) e) ∙ take-append-drop n text)

-- the text of a name: its first part, and the others with a dot before each
pub encoded : (i : Ident) (is : List Ident) → encode_utf8_all (dotted (i ∷ is)) ≡ encode_utf8_all i.0 ++ with_dots is
encoded i [] = sym (append-nil (encode_utf8_all i.0))
encoded i (j ∷ is) =
    encodes-append i.0 (46 ∷ dotted (j ∷ is))
    ∙ ap (λ dot. encode_utf8_all i.0 ++ (dot ++ encode_utf8_all (dotted (j ∷ is)))) (encode_ascii 46 (lit< tt))
    ∙ ap (λ rest. encode_utf8_all i.0 ++ (46 ∷ rest)) (encoded j is)

-- a list with a first item
pub with_head : {X : Type 0} (xs : List X) (x : X) → 1 ≤ length xs → x ≡ get_or xs 0 x → xs ≡ x ∷ take (length xs - 1) (drop 1 xs)
with_head [] x le is = absurd (omega arith)
with_head (y ∷ xs) x le is = ap (λ z. z ∷ xs) (sym is) ∙ ap (λ zs. x ∷ zs) (sym (take_all (suc (length xs) - 1) xs (omega arith)))

-- the front of a name, and what comes of the rest
module _ (parts is : List Ident) (i : Ident) (front text : List ℕ) (whole : parts ≡ i ∷ is) (front_is : front ≡ encode_utf8_all i.0) where
  name_text : front ++ with_dots is ≡ encode_utf8_all (dotted parts)
  name_text = ap (λ x. x ++ with_dots is) front_is ∙ sym (encoded i is) ∙ ap (λ ps. encode_utf8_all (dotted ps)) (sym whole)

  pub name_on : (rest : List ℕ) (o : Ordering) → text ≡ front ++ rest → o ≡ slice_cmp nat_cmp (with_dots is) rest → o ≡ slice_cmp nat_cmp (encode_utf8_all (dotted parts)) text
  name_on rest o t h =
      h ∙ sym (same_front front (with_dots is) rest) ∙ ap (λ y. slice_cmp nat_cmp (front ++ with_dots is) y) (sym t) ∙ ap (λ p. slice_cmp nat_cmp p text) name_text

  pub name_ends : (o : Ordering) → ((more : List ℕ) → slice_cmp nat_cmp (front ++ more) text ≡ o) → o ≡ slice_cmp nat_cmp (encode_utf8_all (dotted parts)) text
  name_ends o h = sym (h (with_dots is)) ∙ ap (λ p. slice_cmp nat_cmp p text) name_text

  pub dots_on : (rest : List ℕ) (o : Ordering) → text ≡ (46 ∷ front) ++ rest → o ≡ slice_cmp nat_cmp (with_dots is) rest → o ≡ slice_cmp nat_cmp (with_dots parts) text
  dots_on rest o t h =
      h ∙ sym (same_front (46 ∷ front) (with_dots is) rest) ∙ ap (λ y. slice_cmp nat_cmp ((46 ∷ front) ++ with_dots is) y) (sym t)
      ∙ ap (λ p. slice_cmp nat_cmp p text) (ap (λ x. (46 ∷ x) ++ with_dots is) front_is ∙ ap with_dots (sym whole))
