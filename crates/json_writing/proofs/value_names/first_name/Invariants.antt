use Rattle.std.proofs.Common.{◌≡◌, drop}
use Rattle.json_writing.specs.Json.{json_among}
use Rattle.json_writing.proofs.value_names.first_name.Given as goal

-- what is left decides
abbrev pub invariant-loop-enumerator : goal.invariant-loop-enumerator
invariant-loop-enumerator l = json_among (drop l.enumerator-index l.enumerators) l.n ≡ json_among l.enumerators l.n
