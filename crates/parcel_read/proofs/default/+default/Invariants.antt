use Rattle.std.proofs.Common.{◌≡◌, ◌+◌, ◌*◌, take, map}
use Rattle.aidl_values.specs.View.{view}
use Rattle.parcel_read.specs.steps.PlanDefault.{entry_default, plan_default_parts}
use Rattle.parcel_read.proofs.default.+default.Given as goal

abbrev pub decreases-default_within : goal.decreases-default_within
decreases-default_within l = 4 * l.levels + 3

abbrev pub decreases-default_of_item : goal.decreases-default_of_item
decreases-default_of_item l = 4 * l.levels + 2

abbrev pub decreases-initials : goal.decreases-initials
decreases-initials l = 4 * l.levels + 1

abbrev pub decreases-alternative_of : goal.decreases-alternative_of
decreases-alternative_of l = 4 * l.levels + 1

abbrev pub decreases-initial : goal.decreases-initial
decreases-initial l = 4 * l.levels

abbrev pub invariant-initials-loop-field : goal.invariant-initials-loop-field
invariant-initials-loop-field l = map view l.values.items ≡ map (λ g. entry_default (λ u. plan_default_parts l.levels l.plans u) g) (take l.field-index l.fields)
