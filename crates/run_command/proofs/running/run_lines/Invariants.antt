use Rattle.std.proofs.Common.{◌≡◌, ℕ, ◌≤◌, ◌+◌, true, List, length, Option}
use Rattle.aidl_outside.specs.Told.{Adds}
use Rattle.run_command.specs.CallLines.{lines_of}
use Rattle.run_command.specs.Projected.{projected_text}
use Rattle.run_command.specs.Running.{lines_course}
use Rattle.tool_frame.specs.Courses.{Went, seen_alone}
use Rattle.wire_model.specs.Outcome.{OneFollows}
use Rattle.run_command.proofs.running.run_lines.Given as goal

-- so far the lines went well, up to those that are left; over a faithful link what is left to put completes what was put; the printers
-- stay those of both sides
abbrev pub invariant-loop-rest : goal.invariant-loop-rest
invariant-loop-rest g l = record {
  went : Went (lines_course l.session.profile l.session.client l.session.server l.session.trace 1 (lines_of l.fn.calls))
      (lines_course l.session.profile l.session.client l.session.server l.session.trace l.number (lines_of l.rest))
      (seen_alone g.K.Sink.told g.K.Sink.fault_record g.L.Link.log g.L.Link.is_faithful g.L.Link.fault_record l.fn.sink l.fn.link)
      (seen_alone g.K.Sink.told g.K.Sink.fault_record g.L.Link.log g.L.Link.is_faithful g.L.Link.fault_record l.sink l.link);
  completes : OneFollows l.session.client l.session.server → g.L.Link.is_faithful l.fn.link ≡ true
      → (later : Option (List ℕ)) → Adds (g.K.Sink.told l.sink) later (projected_text l.session.profile l.session.client l.session.server l.session.trace l.number (lines_of l.rest))
      → Adds (g.K.Sink.told l.fn.sink) later (projected_text l.session.profile l.session.client l.session.server l.session.trace 1 (lines_of l.fn.calls));
  client : l.printers.client ≡ l.session.client;
  server : l.printers.server ≡ l.session.server;
  few : l.number + length l.rest ≤ length l.fn.calls + 1;
}

abbrev pub decreases-loop-rest : goal.decreases-loop-rest
decreases-loop-rest g l = length l.rest
