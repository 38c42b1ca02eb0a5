use Rattle.std.proofs.Common.{◌≡◌, ℤ, drop}
use Rattle.std.specs.Option.{option_map}
use Rattle.std.specs.Ordering.{int_eq}
use Rattle.indexmap.specs.IndexMap.{get}
use Rattle.json_writing.specs.Json.{json_among, json_named}
use Rattle.json_writing.proofs.value_table.ValueTable.new.Given as goal

-- the enumerators from i on
abbrev pub invariant-loop-i : goal.invariant-loop-i
invariant-loop-i l = (n : ℤ) → json_named (option_map (λ name. name.now) (get int_eq l.names n)) n ≡ json_among (drop l.i l.enumerators) n
