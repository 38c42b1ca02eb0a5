use Rattle.std.proofs.Common.{◌≡◌, ◌≤◌, drop, max}
use Rattle.aidl_syntax.specs.Measures.{nesting_from, run_from}
use Rattle.aidl_parser.proofs.limits.measured.Given as goal

-- what is left decides
abbrev pub invariant-loop-t : goal.invariant-loop-t
invariant-loop-t l = record {
  nesting : max l.nesting (nesting_from l.opened l.closed (drop l.t-index l.tokens)) ≡ nesting_from 0 0 l.tokens;
  opened : l.opened ≤ l.t-index;
  closed : l.closed ≤ l.t-index;
  run : max l.longest (run_from l.run (drop l.t-index l.tokens)) ≡ run_from 0 l.tokens;
  within : l.run ≤ l.t-index;
}
