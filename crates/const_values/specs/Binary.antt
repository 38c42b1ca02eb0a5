-- What an operator makes of the operands around it (own, after AOSP, "AIDL language").
use Rattle.std.specs.Prelude.{ℕ, ℤ, Bool, List, Result, Ok, Err}
use Rattle.std.specs.Bool.{beq}
use Rattle.std.specs.Ordering.{int_eq}
use Rattle.const_values.specs.declared.width.Width.{Width}
use Rattle.const_values.specs.declared.fault.ConstFault.{ConstFault}
use Rattle.const_values.specs.declared.fault.ConstFault.TheVariants.{Mismatch}
use Rattle.const_values.specs.Operands.{Operand}
use Rattle.const_values.specs.Operands as operand
use Rattle.const_values.specs.declared.operator.Arithmetic.TheVariants.{Add}
use Rattle.const_values.specs.declared.operator.BinaryOperator.{BinaryOperator}
use Rattle.const_values.specs.declared.operator.BinaryOperator.TheVariants.{Arithmetic, Bitwise, Shift, Order}
use Rattle.const_values.specs.declared.operator.BinaryOperator.TheVariants.{Equality, Connective}
use Rattle.const_values.specs.Arithmetic.{arithmetic_of}
use Rattle.const_values.specs.Bitwise.{bitwise_of}
use Rattle.const_values.specs.Comparisons.{order_of, equality_of, connective_of}
use Rattle.const_values.specs.Shifts.{shift_of}
use Rattle.const_values.specs.Texts.{joined}
use Rattle.const_values.specs.Widths.{wider}

-- Of two numbers. The result has the wider width, and that of the left one where it is a shift.
abbrev pub of_numbers : BinaryOperator → Width → ℤ → Width → ℤ → Result Operand ConstFault
of_numbers (Arithmetic operator) left a right b = arithmetic_of operator (wider left right) a b
of_numbers (Bitwise operator) left a right b = Ok (bitwise_of operator (wider left right) a b)
of_numbers (Shift operator) left a right b = shift_of operator left a b
of_numbers (Order operator) left a right b = Ok (operand.truth (order_of operator a b))
of_numbers (Equality operator) left a right b = Ok (operand.truth (equality_of operator (int_eq a b)))
of_numbers (Connective operator) left a right b = Err Mismatch

-- of two truth values
abbrev pub of_truths : BinaryOperator → Bool → Bool → Result Operand ConstFault
of_truths (Equality operator) a b = Ok (operand.truth (equality_of operator (beq a b)))
of_truths (Connective operator) a b = Ok (operand.truth (connective_of operator a b))
of_truths _ a b = Err Mismatch

-- of two texts
abbrev pub of_texts : BinaryOperator → List ℕ → List ℕ → Result Operand ConstFault
of_texts (Arithmetic Add) a b = joined a b
of_texts _ a b = Err Mismatch

-- of any two operands: of two kinds, or of two characters, there is none
abbrev pub value_of : BinaryOperator → Operand → Operand → Result Operand ConstFault
value_of operator (operand.number left a) (operand.number right b) = of_numbers operator left a right b
value_of operator (operand.truth a) (operand.truth b) = of_truths operator a b
value_of operator (operand.text a) (operand.text b) = of_texts operator a b
value_of operator _ _ = Err Mismatch
