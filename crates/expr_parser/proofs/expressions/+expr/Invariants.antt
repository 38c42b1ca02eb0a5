use Rattle.std.proofs.Common.{◌≡◌, ◌+◌, ◌*◌, ◌<◌, ◌≤◌, length}
use Rattle.aidl_syntax.specs.Trees.{expr_of}
use Rattle.expr_parser.specs.Levels.{rank}
use Rattle.expr_parser.specs.Reading.{climb, expr}
use Rattle.expr_parser.proofs.expressions.+expr.Given as goal

abbrev pub decreases-expr : goal.decreases-expr
decreases-expr l = 8 * l.fuel

abbrev pub decreases-operand : goal.decreases-operand
decreases-operand l = 8 * l.fuel + 3

abbrev pub decreases-by_symbol : goal.decreases-by_symbol
decreases-by_symbol l = 8 * l.fuel + 1

abbrev pub decreases-climb : goal.decreases-climb
decreases-climb l = 8 * l.fuel + 1

-- what is left decides
abbrev pub invariant-climb-loop-t : goal.invariant-climb-loop-t
invariant-climb-loop-t l = record {
  all : climb (λ k us. expr l.fuel k us) l.rounds (rank l.least) (expr_of l.tree) l.rest ≡ climb (λ k us. expr l.fuel k us) l.fuel (rank l.least) (expr_of l.fn.first) l.tokens;
  enough : length l.rest < l.rounds;
  left : length l.rest ≤ length l.tokens;
}

abbrev pub decreases-climb-loop-t : goal.decreases-climb-loop-t
decreases-climb-loop-t l = l.rounds
