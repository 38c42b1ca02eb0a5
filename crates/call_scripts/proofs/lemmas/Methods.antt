-- Methods and interfaces that names mean.
use Rattle.std.proofs.Common.{◌≡◌, ℕ, zero, suc, ◌<◌, Bool, true, false, List, [], ◌∷◌, length, Option, Some, None, slice_get, refl, sym, ap, ◌∙◌, arith}
use Rattle.std.specs.Prelude.{if◌then◌else◌, option_and_then}
use Rattle.std.specs.List.{position}
use Rattle.std.proofs.lemmas.Option.{get_or_from_slice_get}
use Rattle.std.proofs.lemmas.List.Quantifiers.{position-Some}
use Rattle.aidl_schema.specs.declared.schema.Decl.{Decl}
use Rattle.aidl_base.proofs.lemmas.Lists.{position_within}
use Rattle.aidl_schema.specs.Find.{interface_named, is_interface, number_of_name}

there : {X : Type 0} (xs : List X) (i : ℕ) → i < length xs → (x : X) × (slice_get xs i ≡ Some x)
there [] i lt = absurd (omega arith)
there (x ∷ xs) zero lt = (x, refl)
there (x ∷ xs) (suc i) lt = there xs i (omega arith)

-- what a look-up finds passes its test
pub found : {X : Type 0} (p : X → Bool) (xs : List X) (i : ℕ) → position p xs ≡ Some i → (x : X) × (slice_get xs i ≡ Some x) × (p x ≡ true)
found p xs i e =
    let at = there xs i (position_within p xs i e) in
    let test = position-Some p xs i at.0 e in
    (at.0, at.1, ap p (sym (get_or_from_slice_get xs i at.0 at.0 at.1)) ∙ test.1)

-- an interface that is found is found by its name
pub number-named : (S : List Decl) (name : List ℕ) (i : ℕ) → interface_named S name ≡ Some i → number_of_name S name ≡ Some i
number-named S name i = by (number_of_name S name) refl
  where
    chosen : (b : Bool) (n : ℕ) → (if b then Some n else None) ≡ Some i → n ≡ i
    chosen true n e = cc
    chosen false n e = cc

    by : (o : Option ℕ) → number_of_name S name ≡ o → option_and_then (λ n. if is_interface S n then Some n else None) o ≡ Some i → number_of_name S name ≡ Some i
    by None is e = cc
    by (Some n) is e = is ∙ ap Some (chosen (is_interface S n) n e)
