use Rattle.parcel_commands.proofs.Planned.{planned}
use Rattle.parcel_commands.proofs.encoding.parcel_of.Goals as goal

pub length_of-length-requires-clause-planned : goal.length_of-length-requires-clause-planned
length_of-length-requires-clause-planned c = planned c.args.schema.now.decls c.args.types.now c.in_ok-plans.plans c.in_ok-plans.ensures

pub put_values-requires-clause-planned : goal.put_values-requires-clause-planned
put_values-requires-clause-planned c = planned c.args.schema.now.decls c.args.types.now c.in_ok-plans.plans c.in_ok-plans.ensures
