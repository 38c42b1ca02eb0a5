-- Names are the same where their texts are.
use Rattle.std.proofs.Common.{◌≡◌, ℕ, Bool, true, false, ◌&&◌, List, [], ◌∷◌, map, refl, sym, ◌∙◌, ap}
use Rattle.std.specs.Str.{bytes_eq}
use Rattle.std.proofs.lemmas.Bool.{and_parts}
use Rattle.std.proofs.lemmas.Slice.Eq.{bytes_eq-Decides}
use Rattle.aidl_base.specs.declared.name.Ident.{Ident}
use Rattle.declared_names.specs.Names.{text, same}

self : (t : List ℕ) → bytes_eq t t ≡ true
self t = (bytes_eq-Decides t t).1 refl

pub same-texts : (a b : List Ident) → same a b ≡ true → map text a ≡ map text b
same-texts [] [] e = refl
same-texts [] (y ∷ ys) e = cc
same-texts (x ∷ xs) [] e = cc
same-texts (x ∷ xs) (y ∷ ys) e =
    let p = and_parts (bytes_eq (text x) (text y)) (same xs ys) e in
    let q : text x ≡ text y = (bytes_eq-Decides (text x) (text y)).0 p.0 in
    ap (λ (t : List ℕ). t ∷ map text xs) q ∙ ap (λ (ts : List (List ℕ)). text y ∷ ts) (same-texts xs ys p.1)

-- as lists of texts
abbrev eq : List (List ℕ) → List (List ℕ) → Bool
eq [] [] = true
eq [] (b ∷ bs) = false
eq (a ∷ more) [] = false
eq (a ∷ more) (b ∷ bs) = bytes_eq a b && eq more bs

same-eq : (a b : List Ident) → same a b ≡ eq (map text a) (map text b)
same-eq [] [] = refl
same-eq [] (y ∷ ys) = refl
same-eq (x ∷ xs) [] = refl
same-eq (x ∷ xs) (y ∷ ys) = ap (λ z. bytes_eq (text x) (text y) && z) (same-eq xs ys)

eq-self : (ts : List (List ℕ)) → eq ts ts ≡ true
eq-self [] = refl
eq-self (t ∷ ts) = rw (self t, eq-self ts) refl

pub same-self : (a : List Ident) → same a a ≡ true
same-self a = same-eq a a ∙ eq-self (map text a)

pub same-right : (a b c : List Ident) → same b c ≡ true → same a b ≡ same a c
same-right a b c e = same-eq a b ∙ ap (eq (map text a)) (same-texts b c e) ∙ sym (same-eq a c)

pub same-turned : (a b : List Ident) → same a b ≡ same b a
same-turned a b = go (same a b) refl (same b a) refl where
  go : (x : Bool) → same a b ≡ x → (y : Bool) → same b a ≡ y → x ≡ y
  go true p true q = refl
  go false p false q = refl
  go true p false q = let s = same-eq b a ∙ ap (λ (t : List (List ℕ)). eq t (map text a)) (sym (same-texts a b p)) ∙ eq-self (map text a) in cc
  go false p true q = let s = same-eq a b ∙ ap (λ (t : List (List ℕ)). eq t (map text b)) (sym (same-texts b a q)) ∙ eq-self (map text b) in cc
