use Rattle.std.proofs.Common.{◌≡◌, drop}
use Rattle.aidl_values.specs.View.{views}
use Rattle.compat_witness.specs.Sides.{projected_arguments}
use Rattle.witness_calls.specs.steps.Collected.{with_seen}
use Rattle.witness_calls.proofs.arguments.project_arguments.Given as goal

-- what is seen so far, and what is seen of the arguments that are left
abbrev pub invariant-loop-k : goal.invariant-loop-k
invariant-loop-k l =
    with_seen l.seen.items (projected_arguments l.ends.sender.now (drop l.k l.sent) l.ends.receiver.now (drop l.k l.wanted) (views (drop l.k l.values)))
    ≡ projected_arguments l.ends.sender.now l.sent l.ends.receiver.now l.wanted (views l.values)
