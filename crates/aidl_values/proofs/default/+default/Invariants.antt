use Rattle.std.proofs.Common.{◌≡◌, ◌+◌, ◌*◌, take, map}
use Rattle.aidl_values.specs.Default.{initial_by}
use Rattle.aidl_values.specs.steps.Levels.{zero_parts}
use Rattle.aidl_values.specs.View.{view}
use Rattle.aidl_values.proofs.default.+default.Given as goal

abbrev pub decreases-default_within : goal.decreases-default_within
decreases-default_within l = 5 * l.levels + 4

abbrev pub decreases-default_by : goal.decreases-default_by
decreases-default_by l = 5 * l.levels + 3

abbrev pub decreases-default_of_form : goal.decreases-default_of_form
decreases-default_of_form l = 5 * l.levels + 2

abbrev pub decreases-initials : goal.decreases-initials
decreases-initials l = 5 * l.levels + 1

abbrev pub decreases-initial : goal.decreases-initial
decreases-initial l = 5 * l.levels

abbrev pub invariant-initials-loop-field : goal.invariant-initials-loop-field
invariant-initials-loop-field l = map view l.values.items ≡ map (λ f. initial_by (λ u. zero_parts l.levels l.schema.decls u) f) (take l.field-index l.fields)
