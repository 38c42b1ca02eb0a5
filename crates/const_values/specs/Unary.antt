-- What an operator makes of the operand after it (own, after AOSP, "AIDL language").
use Rattle.std.specs.Prelude.{ℤ, neg_ℤ, Bool, not, Result, Ok, Err}
use Rattle.const_values.specs.declared.width.Width.{Width}
use Rattle.const_values.specs.declared.fault.ConstFault.{ConstFault}
use Rattle.const_values.specs.declared.fault.ConstFault.TheVariants as fault
use Rattle.const_values.specs.Operands.{Operand}
use Rattle.const_values.specs.Operands as operand
use Rattle.const_values.specs.declared.operator.UnaryOperator.{UnaryOperator}
use Rattle.const_values.specs.declared.operator.UnaryOperator.TheVariants.{Plus, Minus, Complement, Not}
use Rattle.const_values.specs.Arithmetic.{in_width}
use Rattle.const_values.specs.Bitwise.{complement}

-- `+`, `-` and `~` take a number
abbrev pub of_number : UnaryOperator → Width → ℤ → Result Operand ConstFault
of_number Plus width z = Ok (operand.number width z)
of_number Minus width z = in_width width (neg_ℤ z)
of_number Complement width z = Ok (complement width z)
of_number Not width z = Err fault.Mismatch

-- `!` takes a truth value
abbrev pub of_truth : UnaryOperator → Bool → Result Operand ConstFault
of_truth Not b = Ok (operand.truth (not b))
of_truth _ b = Err fault.Mismatch

-- the operator of any operand
abbrev pub value_of : UnaryOperator → Operand → Result Operand ConstFault
value_of operator (operand.number width z) = of_number operator width z
value_of operator (operand.truth b) = of_truth operator b
value_of operator _ = Err fault.Mismatch
