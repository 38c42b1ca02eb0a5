use Rattle.std.proofs.Common.{◌≡◌, ◌<◌, ◌≤◌, length, map}
use Rattle.aidl_parser.specs.steps.Parts.{with_items}
use Rattle.aidl_parser.specs.steps.Repeats.{many_by}
use Rattle.aidl_parser.proofs.lists.many.Given as goal

-- what was read, and then what is still read, is all
abbrev pub invariant-rounds : goal.invariant-rounds
invariant-rounds g l = record {
  read : with_items (map g.T.Part.seen l.all) (many_by l.rounds l.repeat (g.T.Part.read l.fuel) l.rest) ≡ with_items (map g.T.Part.seen l.fn.items) (many_by l.fuel l.repeat (g.T.Part.read l.fuel) l.tokens);
  enough : length l.rest < l.rounds;
  left : length l.rest ≤ length l.tokens;
}

abbrev pub decreases-rounds : goal.decreases-rounds
decreases-rounds g l = l.rounds
