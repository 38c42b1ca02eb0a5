use Rattle.std.proofs.Common.{map}
use Rattle.declared_names.specs.Entries.{entry_of}
use Rattle.name_resolution.specs.Asked.{AreRight}
use Rattle.name_resolution.proofs.asking.ask_in.Given as goal

-- the answers so far are right
abbrev pub invariant-loop-name : goal.invariant-loop-name
invariant-loop-name l = AreRight l.names (map entry_of l.declared) l.asked
