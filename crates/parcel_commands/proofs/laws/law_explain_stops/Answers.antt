use Rattle.parcel_commands.proofs.Endings.{ends_so, same_verdict}
use Rattle.parcel_commands.proofs.laws.law_explain_stops.Goals as goal

pub returns-clause-ends : goal.returns-clause-ends
returns-clause-ends c = ends_so c.args.schema.now.decls c.args.types.now c.args.parcel.now c.law_parts.ensures.ends

pub returns-clause-verdict : goal.returns-clause-verdict
returns-clause-verdict c = same_verdict c.args.schema.now.decls c.args.types.now c.args.parcel.now c.law_parts.ensures.ends
