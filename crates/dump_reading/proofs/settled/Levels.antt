-- A constant is known by its level.
use Rattle.std.proofs.Common.{◌≡◌, ℤ, refl, sym, ap, subst, ◌∙◌}
use Rattle.aidl_base.specs.declared.constant.Const.{Const, out-Const, roll-Const, map-Const, ind-Const, out-roll-Const}
use Rattle.aidl_base.specs.declared.constant.Const.TheOpen.{Const-F}
use Rattle.aidl_base.specs.declared.constant.Const.TheVariants as constant

pub roll_out : (c : Const) → roll-Const (out-Const c) ≡ c
roll_out c = ind-Const (λ c. roll-Const (out-Const c) ≡ c) (λ x y e. subst (λ z. roll-Const (out-Const (roll-Const z)) ≡ roll-Const z) e (rolled (map-Const ((c : Const) × (roll-Const (out-Const c) ≡ c)) Const (λ s. s.0) y))) c where
  rolled : (x : Const-F Const) → roll-Const (out-Const (roll-Const x)) ≡ roll-Const x
  rolled x = ap (λ v. roll-Const v) (out-roll-Const x)

pub level_is : (c d : Const) → out-Const c ≡ out-Const d → c ≡ d
level_is c d e = sym (roll_out c) ∙ ap (λ v. roll-Const v) e ∙ roll_out d

pub out_number : (z : ℤ) → out-Const (constant.Number z) ≡ Const-F.Number z
unfolding out-Const denote.Hole.Carrier.out
out_number z = refl
