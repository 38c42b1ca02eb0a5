-- Raw bytes: the numbers that they are read as.
use Rattle.std.proofs.Common.{◌≡◌, ℕ, suc, ◌<◌, true, List, [], ◌∷◌, length, refl, sym, ap, ◌∙◌, subst, arith}
use Rattle.std.specs.Prelude.{FitsSigned}
use Rattle.std.specs.Int.{w8, cast_signed, cast_unsigned}
use Rattle.std.proofs.lemmas.Int.{ints, of_z-to_z}
use Rattle.aidl_schema.specs.declared.schema.Decl.{Decl}
use Rattle.aidl_schema.specs.declared.schema.AidlType.{AidlType}
use Rattle.aidl_schema.specs.Types.{form_of, is_one, elem}
use Rattle.aidl_schema.specs.Types as form
use Rattle.aidl_values.specs.Data.{count}
use Rattle.aidl_values.specs.HasType.{HaveType}
use Rattle.wire_model.specs.Spell.{raw_bytes}
use Rattle.wire_model.specs.ReadOf.{raw_items}
use Rattle.aidl_schema.specs.Constants.{in_range}
use Rattle.aidl_base.proofs.lemmas.Ranges.{fits_byte}
use Rattle.aidl_base.proofs.lemmas.Lists.{AreBytes}

-- Bytes are those of the numbers that they are read as.
pub bytes_of_items : (xs : List ℕ) → AreBytes xs → raw_bytes (raw_items xs) ≡ xs
bytes_of_items [] bytes = refl
bytes_of_items (x ∷ xs) bytes =
    let back : cast_unsigned w8 (cast_signed w8 x) ≡ x = of_z-to_z w8 x (bytes 0) in
    ap (λ y. y ∷ raw_bytes (raw_items xs)) back ∙ ap (λ ys. x ∷ ys) (bytes_of_items xs (λ i. bytes (suc i)))

pub count_of_items : (xs : List ℕ) → count (raw_items xs) ≡ length xs
count_of_items [] = refl
count_of_items (x ∷ xs) = ap suc (count_of_items xs)

signed_byte : (x : ℕ) → x < 256 → FitsSigned w8 (cast_signed w8 x)
signed_byte x lt = omega (arith, ints)

pub items_typed : (S : List Decl) (t : AidlType) → form_of S t.base ≡ form.byte → (xs : List ℕ) → AreBytes xs → HaveType S (elem S t) (raw_items xs)
items_typed S t byte [] bytes = tt
items_typed S t byte (x ∷ xs) bytes = ((refl, subst (λ f. in_range f (cast_signed w8 x) ≡ true) (sym byte) (fits_byte _ (signed_byte x (bytes 0)))), items_typed S t byte xs (λ i. bytes (suc i)))
