-- Shapes.
use Rattle.std.proofs.Common.{◌≡◌, false, ◌⊎◌, inl, inr, refl}
use Rattle.aidl_schema.specs.declared.schema.Shape.{Shape}
use Rattle.aidl_schema.specs.declared.schema.Shape.TheVariants as shape
use Rattle.aidl_schema.specs.Types.{is_one}

-- an array or a `List` is not one value
pub many : (s : Shape) → (s ≡ shape.Array) ⊎ (s ≡ shape.List) → is_one s ≡ false
many s (inl e) = rw e refl
many s (inr e) = rw e refl
