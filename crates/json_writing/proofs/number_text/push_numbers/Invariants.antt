use Rattle.std.proofs.Common.{false, drop, map}
use Rattle.json_writing.specs.steps.Completes.{Completes}
use Rattle.json_writing.specs.steps.Numbers.{row_of_texts}
use Rattle.json_writing.proofs.number_text.push_numbers.Given as goal

-- what is left completes the text
abbrev pub invariant-loop-number : goal.invariant-loop-number
invariant-loop-number g l = Completes l.fn.text l.text (row_of_texts l.later (map g.I.Integer.text (drop l.number-index l.numbers))) (row_of_texts false (map g.I.Integer.text l.numbers))
