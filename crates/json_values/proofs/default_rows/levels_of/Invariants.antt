use Rattle.std.proofs.Common.{◌≡◌, take, map}
use Rattle.aidl_values.specs.View.{view}
use Rattle.json_values.specs.steps.Defaults.{level_of}
use Rattle.json_values.proofs.default_rows.levels_of.Given as goal

abbrev pub invariant-loop-value : goal.invariant-loop-value
invariant-loop-value l = l.levels.items ≡ map level_of (map view (take l.value-index l.values))
