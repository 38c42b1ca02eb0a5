-- Whole numbers, and where they leave their width (own, after AOSP, "AIDL language").
use Rattle.std.specs.Prelude.{ℤ, pos, ◌+ℤ◌, ◌-ℤ◌, ◌*ℤ◌, int_div, if◌then◌else◌, Result, Ok, Err}
use Rattle.std.specs.Ordering.{int_eq}
use Rattle.const_values.specs.declared.width.Width.{Width}
use Rattle.const_values.specs.declared.fault.ConstFault.{ConstFault}
use Rattle.const_values.specs.declared.fault.ConstFault.TheVariants.{Overflow, DivideByZero}
use Rattle.const_values.specs.Operands.{Operand, number}
use Rattle.const_values.specs.declared.operator.Arithmetic.{Arithmetic}
use Rattle.const_values.specs.declared.operator.Arithmetic.TheVariants.{Add, Subtract, Multiply, Divide, Remainder}
use Rattle.const_values.specs.Widths.{is_within}

-- the number itself, where it lies in the width
abbrev pub in_width : Width → ℤ → Result Operand ConstFault
in_width width z = if is_within width z then Ok (number width z) else Err Overflow

-- an answer for a divisor that is not 0
abbrev pub unless_zero : ℤ → Result Operand ConstFault → Result Operand ConstFault
unless_zero divisor answer = if int_eq divisor (pos 0) then Err DivideByZero else answer

-- `/` rounds towards zero, and `a % b` is `a - (a / b) * b`
abbrev pub arithmetic_of : Arithmetic → Width → ℤ → ℤ → Result Operand ConstFault
arithmetic_of Add width a b = in_width width (a +ℤ b)
arithmetic_of Subtract width a b = in_width width (a -ℤ b)
arithmetic_of Multiply width a b = in_width width (a *ℤ b)
arithmetic_of Divide width a b = unless_zero b (in_width width (int_div a b))
arithmetic_of Remainder width a b = unless_zero b (in_width width (a -ℤ int_div a b *ℤ b))
