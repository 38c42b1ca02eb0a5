-- One element of those that are side by side.
use Rattle.std.proofs.Common.{◌≡◌, ℕ, zero, suc, ◌<◌, ℤ, to_z, of_z, FitsSigned, List, [], ◌∷◌, length, map, get_or, Some, slice_get, refl, sym, ap, ◌∙◌, arith}
use Rattle.std.specs.Option.{option_map}
use Rattle.std.specs.Int.{w64}
use Rattle.std.proofs.lemmas.Int.{to_z-of_z}
use Rattle.std.proofs.lemmas.Option.{slice_get-map, slice_get-get_or}
use Rattle.std.proofs.lemmas.List.{length-map}
use Rattle.aidl_values.specs.Data.{Data, number}

-- an item that an index gave, as it is seen
pub seen_at : {A : Type 0} (f : A → Data) (ds : List Data) (xs : List A) → ds ≡ map f xs → (i : ℕ) (x : A) → i < length ds → x ≡ get_or xs i x → slice_get ds i ≡ Some (f x)
seen_at f ds xs are i x lt is =
    let within : i < length xs = omega (arith, lt, ap length are, length-map xs f) in
    ap (λ es. slice_get es i) are ∙ slice_get-map f xs i ∙ ap (option_map f) (slice_get-get_or xs i x within ∙ ap (λ y. Some y) (sym is))

pub get_again : {A : Type 0} (xs : List A) (i : ℕ) (x : A) → get_or xs i x ≡ get_or xs i (get_or xs i x)
get_again [] i x = refl
get_again (y ∷ ys) zero x = refl
get_again (y ∷ ys) (suc i) x = get_again ys i x

pub number_at : (ds : List Data) (ns : List ℤ) → ds ≡ map number ns → (i : ℕ) (n : ℤ) → slice_get ns i ≡ Some n → FitsSigned w64 n → slice_get ds i ≡ Some (number (to_z w64 (of_z w64 n)))
number_at ds ns are i n is fits =
    ap (λ es. slice_get es i) are ∙ slice_get-map number ns i ∙ ap (option_map number) is ∙ ap (λ m. Some (number m)) (sym (to_z-of_z w64 n fits))
