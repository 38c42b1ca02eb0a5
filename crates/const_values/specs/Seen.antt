-- What the code's operands and answers stand for.
use Rattle.std.specs.Prelude.{◌≡◌, ℕ, List, Result, Ok, Err, ⊤}
use Rattle.const_values.specs.declared.fault.ConstFault.{ConstFault}
use Rattle.const_values.specs.declared.fault.EvalFault.{EvalFault}
use Rattle.const_values.specs.declared.fault.EvalFault.TheVariants as eval
use Rattle.const_values.specs.declared.operand.Operand.{Operand}
use Rattle.const_values.specs.declared.operand.Operand.TheVariants.{Truth, Number, Character, Text}
use Rattle.const_values.specs.declared.operand.Words.{Words}
use Rattle.const_values.specs.declared.operand.Words.TheVariants.{Borrowed, Joined}
use Rattle.const_values.specs.Operands as operand

-- a text, wherever it lies
abbrev pub words_of : Words → List ℕ
words_of (Borrowed text) = text.now
words_of (Joined text) = text

abbrev pub seen : Operand → operand.Operand
seen (Truth b) = operand.truth b
seen (Number width z) = operand.number width z
seen (Character code) = operand.character code
seen (Text words) = operand.text (words_of words)

-- an answer that takes no memory
abbrev pub answer : Result Operand ConstFault → Result operand.Operand ConstFault
answer (Ok x) = Ok (seen x)
answer (Err fault) = Err fault

-- The answer is seen as the one that is meant, or memory was wanted.
abbrev pub Answers : {X Y : Type 0} → (X → Y) → Result X EvalFault → Result Y ConstFault → Type 0
Answers view (Ok x) meant = meant ≡ Ok (view x)
Answers view (Err (eval.Fault fault)) meant = meant ≡ Err fault
Answers view (Err eval.OutOfMemory) meant = ⊤

-- the same of an operand
abbrev pub Gives : Result Operand EvalFault → Result operand.Operand ConstFault → Type 0
Gives = Answers seen
