use Rattle.std.proofs.Common.{◌≤◌, length, map, ap, ◌∙◌, arith}
use Rattle.std.proofs.lemmas.List.{take_all}
use Rattle.aidl_values.proofs.lemmas.Views.{fields_whole, view_of_rec}
use Rattle.aidl_values.specs.Data.{rec}
use Rattle.aidl_values.specs.View.{items_of, view}
use Rattle.aidl_values.specs.declared.value.Fields.TheVariants.{Whole}
use Rattle.witness_search.specs.steps.Records.{parts}
use Rattle.witness_search.proofs.RecordParts.{length_parts, parts_are}
use Rattle.witness_search.proofs.fields.with_value.Goals as goal

pub returns : goal.returns
returns c =
    let S = c.args.schema.now.decls in
    let le : length (parts S c.args.high c.args.position c.args.fields.now) ≤ c.loop-i.i = omega (arith, length_parts S c.args.high c.args.position c.args.fields.now, c.loop-i-test.false) in
    view_of_rec (Whole c.from_vec.result) ∙ ap (λ ds. rec (items_of ds)) (fields_whole c.from_vec.result)
    ∙ ap rec (ap (λ vs. items_of (map view vs)) c.from_vec.ensures
    ∙ ap items_of (c.loop-i.invariant ∙ take_all c.loop-i.i (parts S c.args.high c.args.position c.args.fields.now) le)
    ∙ parts_are S c.args.high c.args.position c.args.fields.now)
