use Rattle.std.proofs.Common.{true, drop, map}
use Rattle.json_writing.specs.steps.Completes.{Completes}
use Rattle.json_writing.specs.steps.Numbers.{row_of_texts, text_of_byte}
use Rattle.json_writing.proofs.number_text.push_few.Given as goal

-- what is left completes the text
abbrev pub invariant-loop-byte : goal.invariant-loop-byte
invariant-loop-byte l = Completes l.fn.text l.text (row_of_texts true (map text_of_byte (drop l.byte-index l.bytes))) (row_of_texts true (map text_of_byte l.bytes))
