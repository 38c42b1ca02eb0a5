use Rattle.std.proofs.Common.{◌≡◌, take, map}
use Rattle.aidl_values.specs.Sound.{initial_in}
use Rattle.aidl_values.specs.View.{view}
use Rattle.json_values.proofs.default_rows.initials_of.Given as goal

abbrev pub invariant-loop-field : goal.invariant-loop-field
invariant-loop-field l = map view l.values.items ≡ map (initial_in l.schema.decls) (take l.field-index l.fields)
