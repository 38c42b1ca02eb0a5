-- Faults as refusals.
use Rattle.std.proofs.Common.{◌≡◌, ℕ, List, String, Global, string_bytes, ap, subst}
use Rattle.json_values.specs.declared.fault.Fault.{Fault}
use Rattle.json_values.specs.declared.fault.Fault.TheVariants.{Refused}
use Rattle.call_scripts.specs.declared.refused.RefusedName.{RefusedName}
use Rattle.call_scripts.specs.Gives.{Fails}
use Rattle.call_scripts.specs.Refusal.{Judged, refuse}

-- a refusal by its place
pub same_refusal : {X : Type 0} (name : RefusedName) (a b : List ℕ) → a ≡ b → refuse {A = X} name a ≡ refuse name b
same_refusal name a b e = ap (λ at. refuse name at) e

-- what a fault says that is a refusal
pub fails_as : {X : Type 0} (f : Fault RefusedName) (name : RefusedName) (at : String Global) (answer : Judged X) → f ≡ Refused name at → Fails f answer → answer ≡ refuse name (string_bytes at)
fails_as f name at answer is fails = subst (λ g. Fails g answer) is fails
