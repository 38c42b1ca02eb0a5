use Rattle.const_eval.specs.TreeViews.{files_of}
use Rattle.const_eval.proofs.Progress.{IsSettled}
use Rattle.const_eval.proofs.eval.in_turn.Given as goal

abbrev pub invariant-loop-number : goal.invariant-loop-number
invariant-loop-number l = IsSettled (files_of l.tree) l.order l.number-index l.outcomes.items
