use Rattle.std.proofs.Common.{◌≡◌, drop}
use Rattle.std.specs.List.{fold}
use Rattle.declared_names.specs.Names.{text}
use Rattle.declared_names.specs.Marks.{with_byte}
use Rattle.declared_names.proofs.marking.with_part.Given as goal

abbrev pub invariant-loop-byte : goal.invariant-loop-byte
invariant-loop-byte l = fold with_byte l.all (drop l.byte-index l.byte-items) ≡ fold with_byte l.mark (text l.part)
