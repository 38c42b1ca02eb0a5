use Rattle.std.proofs.Common.{take}
use Rattle.std.specs.List.{flat_map}
use Rattle.growing.specs.Grows.{Grows}
use Rattle.run_command.specs.Trace.{trace_line}
use Rattle.run_command.proofs.pieces.push_trace.Given as goal

-- the text has the lines of the first parcels more
abbrev pub invariant-loop-entry : goal.invariant-loop-entry
invariant-loop-entry l = Grows l.fn.text l.text (flat_map trace_line (take l.entry-index l.carried))
