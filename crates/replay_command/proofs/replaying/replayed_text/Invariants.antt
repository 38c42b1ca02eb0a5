use Rattle.std.proofs.Common.{◌≡◌, ◌≤◌, ◌+◌, ◌++◌, true, length, string_bytes}
use Rattle.run_command.specs.CallLines.{lines_of}
use Rattle.replay_command.specs.Replaying.{replayed_text}
use Rattle.replay_command.proofs.replaying.replayed_text.Given as goal

-- what is printed so far, and then what is printed of the lines that are left, is all
abbrev pub invariant-loop-side : goal.invariant-loop-side
invariant-loop-side l = record {
  all : l.text.is_whole ≡ true → string_bytes l.text.text ++ replayed_text l.schema.decls l.interface l.number (lines_of l.rest) ≡ replayed_text l.schema.decls l.interface 1 (lines_of l.trace);
  same : l.printer ≡ l.schema.decls;
  few : l.number + length l.rest ≤ length l.trace + 1;
}

abbrev pub decreases-loop-side : goal.decreases-loop-side
decreases-loop-side l = length l.rest
