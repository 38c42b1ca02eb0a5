use Rattle.parcel_explain.proofs.lemmas.Joins.{parts_join}
use Rattle.parcel_explain.proofs.lemmas.Statuses.{parts_before, parts_end, parts_status}
use Rattle.parcel_explain.proofs.laws.law_parts.Goals as goal

pub returns-clause-joined : goal.returns-clause-joined
returns-clause-joined c = parts_join c.args.schema.now.decls c.args.types.now c.args.b.now

pub returns-clause-stops : goal.returns-clause-stops
returns-clause-stops c = parts_status c.args.schema.now.decls c.args.types.now c.args.b.now

pub returns-clause-last : goal.returns-clause-last
returns-clause-last c = parts_before c.args.schema.now.decls c.args.types.now c.args.b.now

pub returns-clause-ends : goal.returns-clause-ends
returns-clause-ends c = parts_end c.args.schema.now.decls c.args.types.now c.args.b.now
