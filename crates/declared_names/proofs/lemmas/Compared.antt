-- How names are compared.
use Rattle.std.proofs.Common.{◌≡◌, ◌≤◌, ◌<◌, suc, Bool, true, false, ◌&&◌, List, [], ◌∷◌, ◌++◌, length, take, drop, refl, sym, ◌∙◌, ap, arith, length-append, get_or, ◌-◌}
use Rattle.std.specs.Str.{bytes_eq}
use Rattle.aidl_base.specs.declared.name.Ident.{Ident}
use Rattle.declared_names.specs.Names.{text, same, last}

-- names of different lengths differ
pub same-lengths : (a b : List Ident) → (length a ≡ length b → ⊥) → same a b ≡ false
same-lengths [] [] h = absurd (h refl)
same-lengths [] (y ∷ ys) h = refl
same-lengths (x ∷ xs) [] h = refl
same-lengths (x ∷ xs) (y ∷ ys) h = rw (same-lengths xs ys (λ e. h (ap suc e))) (go (bytes_eq (text x) (text y))) where
  go : (b : Bool) → (b && false) ≡ false
  go true = refl
  go false = refl

-- a name that is shorter than the front isn't the front with more
pub same-short : (name front back : List Ident) → length name < length front → same name (front ++ back) ≡ false
same-short name front back h = same-lengths name (front ++ back) (λ e. let l = length-append front back in absurd (omega arith))

-- a name is joined of its front and its back
pub same-split : (name front back : List Ident) → length front ≤ length name → (same (take (length front) name) front && same (drop (length front) name) back) ≡ same name (front ++ back)
same-split name [] back h = refl
same-split [] (y ∷ ys) back h = absurd (omega arith)
same-split (x ∷ xs) (y ∷ ys) back h =
    let k : length ys ≤ length xs = omega arith in
    sym (go (bytes_eq (text x) (text y)) _ _) ∙ ap (λ b. bytes_eq (text x) (text y) && b) (same-split xs ys back k) where
      go : (a b c : Bool) → (a && (b && c)) ≡ ((a && b) && c)
      go true b c = refl
      go false b c = refl

and_split : (a b r : Bool) → (a && b) ≡ r → a ≡ true → b ≡ r
and_split true b r e h = e
and_split false b r e h = cc

and_not : (a b r : Bool) → (a && b) ≡ r → a ≡ false → false ≡ r
and_not true b r e h = cc
and_not false b r e h = e

pub same-front : (name front back : List Ident) → length front ≤ length name → same (take (length front) name) front ≡ true → same (drop (length front) name) back ≡ same name (front ++ back)
same-front name front back h e = and_split _ _ _ (same-split name front back h) e

pub same-not-front : (name front back : List Ident) → length front ≤ length name → same (take (length front) name) front ≡ false → false ≡ same name (front ++ back)
same-not-front name front back h e = and_not _ _ _ (same-split name front back h) e

-- the last part of a name
pub last-is : (name : List Ident) (x : Ident) → 1 ≤ length name → x ≡ get_or name (length name - 1) x → last name ≡ x ∷ []
last-is [] x le e = absurd (omega arith)
last-is (a ∷ []) x le e = ap (λ y. y ∷ []) (sym e)
last-is (a ∷ b ∷ more) x le e =
    let i : length (a ∷ b ∷ more) - 1 ≡ suc (length more) = omega arith in
    let j : length more ≡ length (b ∷ more) - 1 = omega arith in
    last-is (b ∷ more) x (omega arith) (e ∙ ap (λ k. get_or (a ∷ b ∷ more) k x) i ∙ ap (λ k. get_or (b ∷ more) k x) j)

pub same-last : (name : List Ident) (x part : Ident) (r : Bool) → 1 ≤ length name → x ≡ get_or name (length name - 1) x → r ≡ bytes_eq (text x) (text part) → r ≡ same (last name) (part ∷ [])
same-last name x part r le e q = q ∙ go (bytes_eq (text x) (text part)) ∙ ap (λ l. same l (part ∷ [])) (sym (last-is name x le e)) where
  go : (b : Bool) → b ≡ (b && true)
  go true = refl
  go false = refl

-- the last part, as what is left behind the others
pub last-drop : (name : List Ident) → 1 ≤ length name → drop (length name - 1) name ≡ last name
last-drop [] le = absurd (omega arith)
last-drop (a ∷ []) le = refl
last-drop (a ∷ b ∷ more) le =
    let i : length (a ∷ b ∷ more) - 1 ≡ suc (length more) = omega arith in
    let j : length more ≡ length (b ∷ more) - 1 = omega arith in
    ap (λ k. drop k (a ∷ b ∷ more)) i ∙ ap (λ k. drop k (b ∷ more)) j ∙ last-drop (b ∷ more) (omega arith)
