use Rattle.std.proofs.Common.{sym}
use Rattle.parcel_explain.proofs.lemmas.Statuses.{parts_end}
use Rattle.parcel_commands.proofs.Endings.{same_exit, same_verdict}
use Rattle.parcel_commands.specs.Refusals.{known_types}
use Rattle.parcel_commands.proofs.laws.law_explain_exits.Goals as goal

pub returns : goal.returns
returns c =
    let S = c.args.schema.now.decls in
    let b = c.args.parcel.now in
    same_exit S b (known_types S c.args.types.now) (λ ts. sym (same_verdict S ts b (parts_end S ts b)))
