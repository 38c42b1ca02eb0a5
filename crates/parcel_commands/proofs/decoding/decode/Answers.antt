use Rattle.parcel_commands.proofs.Planned.{planned}
use Rattle.parcel_commands.proofs.decoding.decode.Goals as goal

pub push_items-verdict-requires : goal.push_items-verdict-requires
push_items-verdict-requires c = planned c.args.schema.now.decls c.as_slice-types.result.now c.in_ok-plans.plans c.in_ok-plans.ensures
