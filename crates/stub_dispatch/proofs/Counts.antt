-- How many items a list has.
use Rattle.std.proofs.Common.{◌≡◌, List, [], ◌∷◌, length, refl, arith}
use Rattle.aidl_values.specs.Data.{Data, count}
use Rattle.aidl_values.specs.View.{items_of}

pub count_items : (ds : List Data) → count (items_of ds) ≡ length ds
count_items [] = refl
count_items (d ∷ ds) = omega (arith, count_items ds)
