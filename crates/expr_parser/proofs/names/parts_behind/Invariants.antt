use Rattle.std.proofs.Common.{◌≡◌, ◌≤◌, [], ◌∷◌, length, true}
use Rattle.expr_parser.specs.Reading.{names, with_names}
use Rattle.expr_parser.proofs.names.parts_behind.Given as goal

-- what was read, and then what is still read, is all
abbrev pub invariant-loop-t : goal.invariant-loop-t
invariant-loop-t l = record {
  read : with_names l.items.items (names true l.rest) ≡ with_names (l.fn.part ∷ []) (names true l.tokens);
  left : length l.rest ≤ length l.tokens;
}

abbrev pub decreases-loop-t : goal.decreases-loop-t
decreases-loop-t l = length l.rest
