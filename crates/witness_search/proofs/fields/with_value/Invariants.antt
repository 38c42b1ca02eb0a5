use Rattle.std.proofs.Common.{◌≡◌, take, map}
use Rattle.aidl_values.specs.View.{view}
use Rattle.witness_search.specs.steps.Records.{parts}
use Rattle.witness_search.proofs.fields.with_value.Given as goal

-- the values of the fields before
abbrev pub invariant-loop-i : goal.invariant-loop-i
invariant-loop-i l = map view l.values.items ≡ take l.i (parts l.schema.decls l.high l.position l.fields)
