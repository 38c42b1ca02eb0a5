use Rattle.std.proofs.Common.{◌≡◌, drop}
use Rattle.std.specs.List.{fold}
use Rattle.declared_names.specs.Marks.{with_part}
use Rattle.declared_names.proofs.marking.with_parts.Given as goal

abbrev pub invariant-loop-part : goal.invariant-loop-part
invariant-loop-part l = fold with_part l.all (drop l.part-index l.parts) ≡ fold with_part l.mark l.parts
