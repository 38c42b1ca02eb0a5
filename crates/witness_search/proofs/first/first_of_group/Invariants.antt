use Rattle.std.proofs.Common.{drop, Option}
use Rattle.std.specs.List.{flat_map}
use Rattle.witness_search.specs.Asked.{group_seen}
use Rattle.witness_search.specs.steps.First.{IsFirst}
use Rattle.witness_search.specs.declared.shown.Witness.{Witness}
use Rattle.witness_search.specs.steps.Requests.{requests_of}
use Rattle.witness_search.proofs.first.first_of_group.Given as goal

-- what is first of those that are left is first of all
abbrev pub invariant-loop-reach : goal.invariant-loop-reach
invariant-loop-reach l = (r : Option Witness) → IsFirst l.pair.old l.pair.new (flat_map (requests_of l.group.back l.values) (drop l.reach-index l.methods)) r
    → IsFirst l.pair.old l.pair.new (group_seen l.pair.old l.pair.new l.group) r
