use Rattle.std.proofs.Common.{◌≡◌, length}
use Rattle.json_writing.specs.steps.Numbers.{AreByteTexts}
use Rattle.json_writing.proofs.byte_texts.texts_of_bytes.Given as goal

-- the texts so far
abbrev pub invariant-loop-byte : goal.invariant-loop-byte
invariant-loop-byte l = record { many : length l.texts.items ≡ l.byte; texts : AreByteTexts 0 l.texts.items }
