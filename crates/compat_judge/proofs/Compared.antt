-- Lists that are compared item by item.
use Rattle.std.proofs.Common.{◌≡◌, suc, Bool, true, false, ◌&&◌, List, [], ◌∷◌, map, length, refl, ap}
use Rattle.std.specs.Cmp.Lexicographic.{pointwise}
use Rattle.std.specs.Prelude.{◌≢◌}
use Rattle.aidl_base.specs.declared.constant.Const.{Const}
use Rattle.aidl_schema.specs.Broken.{pass_each}

and_false : (b : Bool) → (b && false) ≡ false
and_false true = refl
and_false false = refl

-- lists of different lengths aren't the same
pub pointwise-lengths : {X Y : Type 0} (f : X → Y → Bool) (xs : List X) (ys : List Y) → length xs ≢ length ys → pointwise f xs ys ≡ false
pointwise-lengths f [] [] ne = absurd (ne refl)
pointwise-lengths f [] (y ∷ ys) ne = refl
pointwise-lengths f (x ∷ xs) [] ne = refl
pointwise-lengths f (x ∷ xs) (y ∷ ys) ne = rw (pointwise-lengths f xs ys (λ e. ne (ap suc e))) (and_false (f x y))

pub pass_each-lengths : (f : Const → Const → Bool) (xs ys : List Const) → length xs ≢ length ys → pass_each (map f xs) ys ≡ false
pass_each-lengths f [] [] ne = absurd (ne refl)
pass_each-lengths f [] (y ∷ ys) ne = refl
pass_each-lengths f (x ∷ xs) [] ne = refl
pass_each-lengths f (x ∷ xs) (y ∷ ys) ne = rw (pass_each-lengths f xs ys (λ e. ne (ap suc e))) (and_false (f x y))
