use Rattle.std.proofs.Common.{◌*◌, true, drop, map}
use Rattle.json_writing.specs.steps.Completes.{Completes}
use Rattle.json_writing.specs.steps.Numbers.{row_of_texts, text_of_byte}
use Rattle.json_writing.proofs.number_text.push_twos.Given as goal

-- what is left completes the text
abbrev pub invariant-loop-i : goal.invariant-loop-i
invariant-loop-i l = Completes l.fn.text l.text (row_of_texts true (map text_of_byte (drop (2 * l.i) l.bytes))) (row_of_texts true (map text_of_byte l.bytes))
