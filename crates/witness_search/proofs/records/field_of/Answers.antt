use Rattle.std.proofs.Common.{ap, ◌∙◌}
use Rattle.witness_search.specs.steps.Fields.{field_by_bytes}
use Rattle.witness_search.proofs.FieldRows.{field_cut}
use Rattle.witness_search.proofs.records.field_of.Goals as goal

pub returns-clause-is : goal.returns-clause-is
returns-clause-is c =
    let old = c.args.pair.now.old in
    let new = c.args.pair.now.new in
    c.field_by_bytes.ensures.is ∙ ap (field_by_bytes c.args.members old new) c.as_str.ensures.bytes ∙ field_cut c.args.members old new c.args.place.now
