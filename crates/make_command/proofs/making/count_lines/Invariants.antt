use Rattle.std.proofs.Common.{◌≤◌, ◌+◌, length}
use Rattle.make_command.specs.Making.{counted_course}
use Rattle.make_command.specs.Tally.{Counts, nothing}
use Rattle.make_command.specs.steps.Steps.{with_link}
use Rattle.run_command.specs.CallLines.{lines_of}
use Rattle.tool_frame.specs.Course.{Course}
use Rattle.tool_frame.specs.Courses.{Went}
use Rattle.tool_frame.specs.Seen.{Seen}
use Rattle.make_command.proofs.making.count_lines.Given as goal

-- so far the lines went well and were counted, up to those that are left; and at most as many were counted as the text has bytes before these
abbrev pub invariant-loop-rest : goal.invariant-loop-rest
invariant-loop-rest g l = record {
  went : (others : Seen) (last : Counts → Course) → Went (counted_course l.client l.server last nothing (lines_of l.fn.calls))
      (counted_course l.client l.server last l.tally (lines_of l.rest))
      (with_link g.L.Link.log g.L.Link.is_faithful g.L.Link.fault_record others l.fn.link)
      (with_link g.L.Link.log g.L.Link.is_faithful g.L.Link.fault_record others l.link);
  few : l.tally.lines + length l.rest ≤ length l.fn.calls;
}

abbrev pub decreases-loop-rest : goal.decreases-loop-rest
decreases-loop-rest g l = length l.rest
