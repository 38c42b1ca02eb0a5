-- Numbers side by side, of whatever width.
use Rattle.std.proofs.Common.{◌≡◌, ℤ, List, [], ◌∷◌, map, refl, ap}
use Rattle.aidl_values.specs.Data.{number, item}
use Rattle.aidl_values.specs.View.{items_of}

-- where each stands for a number
pub numbers_by : {X : Type 0} (f : X → ℤ) (xs : List X) → items_of (map number (map f xs)) ≡ items_of (map (λ x. number (f x)) xs)
numbers_by f [] = refl
numbers_by f (x ∷ xs) = ap (item (number (f x))) (numbers_by f xs)
