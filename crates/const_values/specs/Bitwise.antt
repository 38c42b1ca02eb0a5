-- Operators on two's complement bits (own, after AOSP, "AIDL language").
use Rattle.std.specs.Prelude.{ℤ}
use Rattle.std.specs.Int as int
use Rattle.std.specs.Int.{int_bit_and, int_bit_or, int_bit_xor, int_bit_not}
use Rattle.const_values.specs.declared.width.Width.{Width}
use Rattle.const_values.specs.Operands.{Operand, number}
use Rattle.const_values.specs.declared.operator.Bitwise.{Bitwise}
use Rattle.const_values.specs.declared.operator.Bitwise.TheVariants.{And, Or, ExclusiveOr}
use Rattle.const_values.specs.Widths.{form_of}

-- the number whose bits are those of both, of either, or of one alone
abbrev pub on_bits : Bitwise → int.Width → ℤ → ℤ → ℤ
on_bits And form a b = int_bit_and form a b
on_bits Or form a b = int_bit_or form a b
on_bits ExclusiveOr form a b = int_bit_xor form a b

-- `& | ^` of two numbers of a width
abbrev pub bitwise_of : Bitwise → Width → ℤ → ℤ → Operand
bitwise_of operator width a b = number width (on_bits operator (form_of width) a b)

-- `~` of a number of a width
abbrev pub complement : Width → ℤ → Operand
complement width z = number width (int_bit_not (form_of width) z)
