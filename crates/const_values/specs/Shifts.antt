-- Shifts of two's complement bits (own, after AOSP, "AIDL language").
use Rattle.std.specs.Prelude.{ℕ, ℤ, pos, int_le, int_lt, unsigned_abs, ◌&&◌, if◌then◌else◌, Result, Ok, Err}
use Rattle.std.specs.Int.{int_shl, int_shr}
use Rattle.const_values.specs.declared.width.Width.{Width}
use Rattle.const_values.specs.declared.fault.ConstFault.{ConstFault}
use Rattle.const_values.specs.declared.fault.ConstFault.TheVariants.{BadShift}
use Rattle.const_values.specs.Operands.{Operand, number}
use Rattle.const_values.specs.declared.operator.Shift.{Shift}
use Rattle.const_values.specs.declared.operator.Shift.TheVariants.{Left, Right}
use Rattle.const_values.specs.Widths.{form_of, bit_count}

-- `<<` drops the bits that leave the width. `>>` repeats the sign: it divides by a power of two and rounds down.
abbrev pub shifted : Shift → Width → ℤ → ℕ → Operand
shifted Left width a places = number width (int_shl (form_of width) a places)
shifted Right width a places = number width (int_shr a places)

-- by 0 places or more, and by fewer than the width has bits
abbrev pub shift_of : Shift → Width → ℤ → ℤ → Result Operand ConstFault
shift_of operator width a places =
    if int_le (pos 0) places && int_lt places (pos (bit_count width))
    then Ok (shifted operator width a (unsigned_abs places))
    else Err BadShift
