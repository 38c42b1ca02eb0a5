-- What a wanted type makes of an operand (own).
use Rattle.std.specs.Prelude.{ℕ, ℤ, pos, Bool, false, ◌==◌, if◌then◌else◌, List, Option, Some, None, Result, Ok, Err}
use Rattle.aidl_base.specs.declared.constant.Const.{Const}
use Rattle.aidl_base.specs.declared.constant.Const.TheVariants as value
use Rattle.aidl_base.specs.declared.range.Range.{Range}
use Rattle.aidl_base.specs.declared.range.Range.TheVariants as range
use Rattle.aidl_base.specs.Ranges.{is_in}
use Rattle.const_values.specs.declared.fault.ConstFault.{ConstFault}
use Rattle.const_values.specs.declared.fault.ConstFault.TheVariants.{Mismatch, DoesNotFit}
use Rattle.const_values.specs.Operands.{Operand}
use Rattle.const_values.specs.Operands as operand
use Rattle.const_values.specs.declared.wanted.Wanted.{Wanted}
use Rattle.const_values.specs.declared.wanted.Wanted.TheVariants as wanted

-- boolean takes a truth value
abbrev pub truth_for : Wanted → Bool → Result Const ConstFault
truth_for wanted.Boolean b = Ok (value.Truth b)
truth_for _ b = Err Mismatch

-- a number, where it lies in the range
abbrev pub in_range : Range → ℤ → Result Const ConstFault
in_range r z = if is_in r z then Ok (value.Number z) else Err DoesNotFit

-- the named enumerator is one of this enum
abbrev pub is_of_enum : ℕ → Option ℕ → Bool
is_of_enum enum None = false
is_of_enum enum (Some named) = named == enum

-- byte, int and long take a number inside their range, an enum the number of an enumerator of its own that is named
abbrev pub number_for : Wanted → Option ℕ → ℤ → Result Const ConstFault
number_for wanted.Byte named z = in_range range.Byte z
number_for wanted.Int named z = in_range range.Int z
number_for wanted.Long named z = in_range range.Long z
number_for (wanted.Enum enum) named z = if is_of_enum enum named then Ok (value.Number z) else Err Mismatch
number_for _ named z = Err Mismatch

-- char takes a character, which is the number of its code
abbrev pub character_for : Wanted → ℕ → Result Const ConstFault
character_for wanted.Character code = Ok (value.Number (pos code))
character_for _ code = Err Mismatch

-- String takes a text
abbrev pub text_for : Wanted → List ℕ → Result Const ConstFault
text_for wanted.Text text = Ok (value.Text text)
text_for _ text = Err Mismatch

-- The value of the wanted type. `named` is the enum of whose enumerator the expression is the name, without
-- parentheses, where it is one.
abbrev pub fitted : Wanted → Option ℕ → Operand → Result Const ConstFault
fitted w named (operand.truth b) = truth_for w b
fitted w named (operand.number width z) = number_for w named z
fitted w named (operand.character code) = character_for w code
fitted w named (operand.text text) = text_for w text
