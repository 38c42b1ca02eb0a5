use Rattle.std.proofs.Common.{◌≡◌, Ok, Some, None, length, refl, sym, ap, subst, ◌∙◌, rules}
use Rattle.std.proofs.lemmas.Option.{slice_get_read}
use Rattle.aidl_values.specs.Data.{Data}
use Rattle.json_values.specs.Refusal.{Answer}
use Rattle.json_values.specs.steps.Gives.{Fails}
use Rattle.json_values.specs.steps.Tables.{enumerator_place}
use Rattle.json_values.proofs.Places.{enumerator_lies, enumerator_missing, enumerator_placed}
use Rattle.json_values.proofs.enumerators.read_enumerator.Goals as goal

pub returns-in-Some-clause-gives : goal.returns-in-Some-clause-gives
returns-in-Some-clause-gives c =
    let es = c.args.enumerators.now in
    let s = c.args.name.now in
    let i = c.in-Some.place in
    let e = c.index-enumerators-place.result in
    let placed : Some i ≡ enumerator_place s es = sym c.in-Some.is ∙ c.in_ok-place.ensures.place in
    enumerator_placed s es i e placed (slice_get_read es (length es) i e refl (enumerator_lies s es i placed) c.index-enumerators-place.is) ∙ ap Ok (sym c.value_of.ensures)

pub returns-in-None-clause-gives : goal.returns-in-None-clause-gives
returns-in-None-clause-gives c =
    let es = c.args.enumerators.now in
    let s = c.args.name.now in
    let none : None ≡ enumerator_place s es = sym c.in-None.is ∙ c.in_ok-place.ensures.place in
    subst (λ (a : Answer Data). Fails c.refused.result a) (sym (enumerator_missing s es none)) (search rules)
