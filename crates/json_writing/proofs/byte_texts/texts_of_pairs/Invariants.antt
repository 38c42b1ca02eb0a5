use Rattle.std.proofs.Common.{◌≡◌, length}
use Rattle.json_writing.specs.steps.Numbers.{ArePairTexts}
use Rattle.json_writing.proofs.byte_texts.texts_of_pairs.Given as goal

-- the texts so far
abbrev pub invariant-loop-pair : goal.invariant-loop-pair
invariant-loop-pair l = record { many : length l.pairs.items ≡ l.pair; texts : ArePairTexts 0 l.pairs.items }
