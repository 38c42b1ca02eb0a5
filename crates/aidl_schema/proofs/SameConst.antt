-- A constant is the same as itself alone.
use Rattle.std.proofs.Common.{◌≡◌, Bool, true, false, List, [], ◌∷◌, map, refl, sym, ap, ◌∙◌, subst}
use Rattle.std.proofs.lemmas.Bool.Decides.{Decides-int_eq}
use Rattle.aidl_base.specs.declared.constant.Const.{Const, out-Const, roll-Const, map-Const, ind-Const, fold-roll-Const, out-roll-Const}
use Rattle.aidl_base.specs.declared.constant.Const.TheOpen.{Const-F}
use Rattle.aidl_schema.specs.Same.{same_bool}
use Rattle.aidl_schema.specs.Broken.{pass_each, same_level, same_const}
use Rattle.aidl_schema.proofs.lemmas.Sames.{same_text_is, same_text_refl}
use Rattle.aidl_base.proofs.lemmas.Tests.{both}

same_bool_is : (a b : Bool) → same_bool a b ≡ true → a ≡ b
same_bool_is true true h = refl
same_bool_is true false h = cc
same_bool_is false true h = cc
same_bool_is false false h = refl

same_bool_self : (a : Bool) → same_bool a a ≡ true
same_bool_self true = refl
same_bool_self false = refl

each_is : {X : Type 0} (pr : X → Const) → ((x : X) (d : Const) → same_const (pr x) d ≡ true → pr x ≡ d)
    → (xs : List X) (ds : List Const) → pass_each (map same_const (map pr xs)) ds ≡ true → map pr xs ≡ ds
each_is pr is [] [] h = refl
each_is pr is [] (d ∷ ds) h = cc
each_is pr is (x ∷ xs) [] h = cc
each_is pr is (x ∷ xs) (d ∷ ds) h =
    let two = both (same_const (pr x) d) (pass_each (map same_const (map pr xs)) ds) h in
    ap (λ z. z ∷ map pr xs) (is x d two.0) ∙ ap (λ zs. d ∷ zs) (each_is pr is xs ds two.1)

level_is : {X : Type 0} (pr : X → Const) → ((x : X) (d : Const) → same_const (pr x) d ≡ true → pr x ≡ d)
    → (y : Const-F X) (z : Const-F Const) → same_level (map-Const Const (Const → Bool) same_const (map-Const X Const pr y)) z ≡ true → map-Const X Const pr y ≡ z
level_is pr is (Const-F.Truth a) (Const-F.Truth b) h = ap (λ b. Const-F.Truth b) (same_bool_is a b h)
level_is pr is (Const-F.Truth a) (Const-F.Number n) h = cc
level_is pr is (Const-F.Truth a) (Const-F.Text t) h = cc
level_is pr is (Const-F.Truth a) (Const-F.Members ds) h = cc
level_is pr is (Const-F.Number m) (Const-F.Truth b) h = cc
level_is pr is (Const-F.Number m) (Const-F.Number n) h = ap (λ n. Const-F.Number n) ((Decides-int_eq m n).0 h)
level_is pr is (Const-F.Number m) (Const-F.Text t) h = cc
level_is pr is (Const-F.Number m) (Const-F.Members ds) h = cc
level_is pr is (Const-F.Text s) (Const-F.Truth b) h = cc
level_is pr is (Const-F.Text s) (Const-F.Number n) h = cc
level_is pr is (Const-F.Text s) (Const-F.Text t) h = ap (λ t. Const-F.Text t) (same_text_is s t h)
level_is pr is (Const-F.Text s) (Const-F.Members ds) h = cc
level_is pr is (Const-F.Members xs) (Const-F.Truth b) h = cc
level_is pr is (Const-F.Members xs) (Const-F.Number n) h = cc
level_is pr is (Const-F.Members xs) (Const-F.Text t) h = cc
level_is pr is (Const-F.Members xs) (Const-F.Members ds) h = ap (λ ds. Const-F.Members ds) (each_is pr is xs ds h)

each_self : {X : Type 0} (pr : X → Const) → ((x : X) → same_const (pr x) (pr x) ≡ true) → (xs : List X) → pass_each (map same_const (map pr xs)) (map pr xs) ≡ true
each_self pr self [] = refl
each_self pr self (x ∷ xs) = rw (self x, each_self pr self xs) refl

level_self : {X : Type 0} (pr : X → Const) → ((x : X) → same_const (pr x) (pr x) ≡ true)
    → (y : Const-F X) → same_level (map-Const Const (Const → Bool) same_const (map-Const X Const pr y)) (map-Const X Const pr y) ≡ true
level_self pr self (Const-F.Truth a) = same_bool_self a
level_self pr self (Const-F.Number n) = (Decides-int_eq n n).1 refl
level_self pr self (Const-F.Text x) = same_text_refl x
level_self pr self (Const-F.Members xs) = each_self pr self xs

-- of a constant by its level
pub opened : (x : Const-F Const) (d : Const) → same_const (roll-Const x) d ≡ same_level (map-Const Const (Const → Bool) same_const x) (out-Const d)
opened x d = ap (λ (f : Const → Bool). f d) (fold-roll-Const (Const → Bool) (λ level c. same_level level (out-Const c)) x)

pub same_const_is : (c d : Const) → same_const c d ≡ true → c ≡ d
same_const_is c = ind-Const (λ c. (d : Const) → same_const c d ≡ true → c ≡ d) (λ x y e. subst (λ z. (d : Const) → same_const (roll-Const z) d ≡ true → roll-Const z ≡ d) e (λ d h. at_roll y d h)) c
  where
    at_roll : (y : Const-F ((c : Const) × ((d : Const) → same_const c d ≡ true → c ≡ d))) (d : Const)
        → same_const (roll-Const (map-Const ((c : Const) × ((d : Const) → same_const c d ≡ true → c ≡ d)) Const (λ s. s.0) y)) d ≡ true
        → roll-Const (map-Const ((c : Const) × ((d : Const) → same_const c d ≡ true → c ≡ d)) Const (λ s. s.0) y) ≡ d
    at_roll y d = ind-Const (λ d. same_const (roll-Const (map-Const ((c : Const) × ((d : Const) → same_const c d ≡ true → c ≡ d)) Const (λ s. s.0) y)) d ≡ true → roll-Const (map-Const ((c : Const) × ((d : Const) → same_const c d ≡ true → c ≡ d)) Const (λ s. s.0) y) ≡ d)
        (λ z w e h. ap (λ v. roll-Const v) (level_is (λ s. s.0) (λ s. s.1) y z
        (subst (λ v. same_level (map-Const Const (Const → Bool) same_const (map-Const ((c : Const) × ((d : Const) → same_const c d ≡ true → c ≡ d)) Const (λ s. s.0) y)) v ≡ true) (out-roll-Const z)
        (sym (opened (map-Const ((c : Const) × ((d : Const) → same_const c d ≡ true → c ≡ d)) Const (λ s. s.0) y) (roll-Const z)) ∙ h)))) d

pub same_const_self : (c : Const) → same_const c c ≡ true
same_const_self c = ind-Const (λ c. same_const c c ≡ true) (λ x y e. subst (λ z. same_const (roll-Const z) (roll-Const z) ≡ true) e
    (at_roll (map-Const ((c : Const) × (same_const c c ≡ true)) Const (λ s. s.0) y) (level_self (λ s. s.0) (λ s. s.1) y))) c
  where
    at_roll : (x : Const-F Const) → same_level (map-Const Const (Const → Bool) same_const x) x ≡ true → same_const (roll-Const x) (roll-Const x) ≡ true
    at_roll x h = opened x (roll-Const x) ∙ subst (λ v. same_level (map-Const Const (Const → Bool) same_const x) v ≡ true) (sym (out-roll-Const x)) h
