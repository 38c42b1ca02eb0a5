-- What plans have for a method of their schema.
use Rattle.std.proofs.Common.{◌≡◌, ℕ, zero, suc, ◌+◌, ◌<◌, ◌≤◌, List, [], ◌∷◌, length, Option, Some, None, slice_get, refl, sym, ap, ◌∙◌, subst, arith}
use Rattle.std.proofs.lemmas.Option.{slice_get_within}
use Rattle.aidl_schema.specs.declared.schema.AidlType.{AidlType}
use Rattle.aidl_schema.specs.declared.schema.Arg.{Arg}
use Rattle.aidl_schema.specs.declared.schema.Decl.{Decl}
use Rattle.aidl_schema.specs.declared.schema.Method.{Method}
use Rattle.aidl_schema.specs.Find.{methods_at, methods_of_decl}
use Rattle.aidl_schema.specs.Holds.{AllHold}
use Rattle.aidl_schema.specs.Names.{methods_of}
use Rattle.marshal_plans.specs.declared.plans.PlanId.{PlanId}
use Rattle.marshal_plans.specs.declared.plans.Plans.{Plans}
use Rattle.marshal_plans.specs.Places.{IsMethod, StandsForResult}
use Rattle.marshal_plans.specs.Standing.{StandFor}
use Rattle.wire_model.specs.Calls.{arguments, arguments_of, method_at, result_of, result_type}
use Rattle.wire_model.specs.MethodOf.{method_of}
use Rattle.stub_dispatch.specs.Planned.{ArePlansOf}
use Rattle.stub_dispatch.specs.steps.Arguments.{ArePlanned, IsPlanned, IsResultOf, IsResultPlanned}

there_at : {X : Type 0} (xs : List X) (k : ℕ) → k < length xs → (x : X) × (slice_get xs k ≡ Some x)
there_at [] k lt = absurd (omega arith)
there_at (x ∷ xs) zero lt = (x, refl)
there_at (x ∷ xs) (suc k) lt = there_at xs k (omega arith)

-- a method that is there
method_there : (S : List Decl) (i m : ℕ) → m < length (methods_at S i) → (w : Method) × IsMethod S i m w × (method_at (method_of S i m) ≡ Some w)
method_there S i m lt = by (slice_get S i) refl
  where
    by : (o : Option Decl) → slice_get S i ≡ o → (w : Method) × IsMethod S i m w × (method_at (method_of S i m) ≡ Some w)
    by None e = absurd (let l : m < length (methods_of_decl None) = subst (λ o. m < length (methods_of_decl o)) e lt in omega arith)
    by (Some d) e =
        let l : m < length (methods_of d.kind) = subst (λ o. m < length (methods_of_decl o)) e lt in
        let found = there_at (methods_of d.kind) m l in
        (found.0, (d, e, found.1), ap (λ o. slice_get (methods_of_decl o) m) e ∙ found.1)

module _ (S : List Decl) (extra types : List AidlType) (plans : Plans) (stand : StandFor S extra types plans) (i m : ℕ) (w : Method) (is : IsMethod S i m w) where
  one : length w.args ≤ 255 → (k : ℕ) (a : Arg) → slice_get w.args k ≡ Some a → IsPlanned plans S i m k a
  one few k a at = record {
    few = omega (arith, few, slice_get_within w.args k a at);
    there = (S, extra, types, stand, w, is, a, at);
    stands = λ id h. (extra, types, stand, h S extra types stand w is a at);
  }

  each : length w.args ≤ 255 → (k : ℕ) (rest : List Arg) → ((j : ℕ) (a : Arg) → slice_get rest j ≡ Some a → slice_get w.args (k + j) ≡ Some a) → ArePlanned plans S i m k rest
  each few k [] h = tt
  each few k (a ∷ rest) h =
      let here : k + 0 ≡ k = omega arith in (
        one few k a (subst (λ q. slice_get w.args q ≡ Some a) here (h 0 a refl)),
        each few (k + 1) rest (λ j b e. let next : k + suc j ≡ (k + 1) + j = omega arith in subst (λ q. slice_get w.args q ≡ Some b) next (h (suc j) b e)),
      )

  result_is : (t : Option AidlType) (id : Option PlanId) → StandsForResult types t id → IsResultOf plans S t id
  result_is None None h = tt
  result_is None (Some id) h = h
  result_is (Some t) None h = h
  result_is (Some t) (Some id) h = (extra, types, stand, h)

  result_planned : IsResultPlanned plans S i m w.result
  result_planned = record { there = (S, extra, types, stand, w, is); stands = λ id h. result_is w.result id (h S extra types stand w is) }

pub planned_arguments : (S : List Decl) (plans : Plans) → ArePlansOf plans S → AllHold S → (i m : ℕ) → m < length (methods_at S i) → ArePlanned plans S i m 0 (arguments (method_of S i m))
planned_arguments S plans stand all i m lt =
    let found = method_there S i m lt in
    let w = found.0 in
    let few = (all i found.1.0 found.1.1).few_arguments m w found.1.2 in
    subst (λ o. ArePlanned plans S i m 0 (arguments_of o)) (sym found.2) (each S stand.0 stand.1 plans stand.2 i m w found.1 few 0 w.args (λ j a e. let z : j ≡ 0 + j = omega arith in subst (λ q. slice_get w.args q ≡ Some a) z e))

pub planned_result : (S : List Decl) (plans : Plans) → ArePlansOf plans S → (i m : ℕ) → m < length (methods_at S i) → IsResultPlanned plans S i m (result_type (method_of S i m))
planned_result S plans stand i m lt =
    let found = method_there S i m lt in
    subst (λ o. IsResultPlanned plans S i m (result_of o)) (sym found.2) (result_planned S stand.0 stand.1 plans stand.2 i m found.0 found.1)
