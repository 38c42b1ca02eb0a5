-- What a literal is as an operand (own, after AOSP, "AIDL language").
use Rattle.std.specs.Prelude.{ℕ, nat_le, Bool, true, false, if◌then◌else◌, Option, Some, None}
use Rattle.std.specs.Int.{cast_signed}
use Rattle.aidl_base.specs.declared.reserved.Reserved.TheVariants as word
use Rattle.aidl_syntax.specs.declared.token.TokenKind.{TokenKind}
use Rattle.aidl_syntax.specs.declared.token.TokenKind.TheVariants as kind
use Rattle.const_values.specs.declared.width.Width.{Width}
use Rattle.const_values.specs.declared.width.Width.TheVariants.{Narrow, Wide}
use Rattle.const_values.specs.Operands.{Operand}
use Rattle.const_values.specs.Operands as operand
use Rattle.const_values.specs.Widths.{form_of}

-- the number whose two's complement in a width is this
abbrev pub of_bits : Width → ℕ → Operand
of_bits width bits = operand.number width (cast_signed (form_of width) bits)

-- the greatest literal without suffix that is narrow: 0xffffffff of the hexadecimal ones
abbrev pub narrow_limit : Bool → ℕ
narrow_limit true = 4294967295
narrow_limit false = 2147483647

-- A number with the suffix is wide.
abbrev pub number_of : Bool → Bool → ℕ → Operand
number_of hexadecimal true bits = of_bits Wide bits
number_of hexadecimal false bits = of_bits (if nat_le bits (narrow_limit hexadecimal) then Narrow else Wide) bits

-- the operand that a token is
abbrev pub literal_of : TokenKind → Option Operand
literal_of (kind.Number bits hexadecimal long) = Some (number_of hexadecimal long bits)
literal_of (kind.Character code) = Some (operand.character code)
literal_of (kind.Str text) = Some (operand.text text)
literal_of (kind.Word word.True) = Some (operand.truth true)
literal_of (kind.Word word.False) = Some (operand.truth false)
literal_of _ = None
