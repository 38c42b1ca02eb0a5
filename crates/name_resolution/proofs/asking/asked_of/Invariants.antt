use Rattle.std.proofs.Common.{map}
use Rattle.declared_names.specs.Entries.{entry_of}
use Rattle.name_resolution.specs.Asked.{AreRight}
use Rattle.name_resolution.proofs.asking.asked_of.Given as goal

-- the answers so far are right
abbrev pub invariant-loop-f : goal.invariant-loop-f
invariant-loop-f l = AreRight l.imports (map entry_of l.declarations) l.asked
