use Rattle.std.proofs.Common.{◌≡◌, drop, true, Option, [], ◌∷◌}
use Rattle.std.specs.List.{flat_map}
use Rattle.witness_search.specs.steps.First.{IsFirst}
use Rattle.witness_search.specs.declared.shown.Witness.{Witness}
use Rattle.witness_search.specs.steps.Requests.{request_of}
use Rattle.witness_search.specs.steps.Trials.{AllShort}
use Rattle.witness_search.proofs.first.try_method.Given as goal

-- what is first of those that are left is first of all; and where none so far is too long and none of those that are left, none is
abbrev pub invariant-loop-value : goal.invariant-loop-value
invariant-loop-value l =
    ((r : Option Witness) → IsFirst l.pair.old l.pair.new (flat_map (λ v. request_of l.back l.reach v ∷ []) (drop l.value-index l.values)) r
    → IsFirst l.pair.old l.pair.new (flat_map (λ v. request_of l.back l.reach v ∷ []) l.values) r)
    × (l.all_short ≡ true → AllShort l.pair.old l.pair.new (flat_map (λ v. request_of l.back l.reach v ∷ []) (drop l.value-index l.values))
    → AllShort l.pair.old l.pair.new (flat_map (λ v. request_of l.back l.reach v ∷ []) l.values))
