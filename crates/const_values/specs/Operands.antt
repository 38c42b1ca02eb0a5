-- What an expression is (own, after AOSP, "AIDL language").
use Rattle.std.specs.Prelude.{ℕ, ℤ, Bool, List, IsTrue, ⊤}
use Rattle.const_values.specs.declared.width.Width.{Width}
use Rattle.const_values.specs.Widths.{is_within}

-- a truth value, a number of a width, a character by its code, or a text
pub data Operand : Type 0 where
  truth : Bool → Operand
  number : Width → ℤ → Operand
  character : ℕ → Operand
  text : List ℕ → Operand

-- a number lies in its width
abbrev pub IsWithin : Operand → Type 0
IsWithin (number width z) = IsTrue (is_within width z)
IsWithin (truth b) = ⊤
IsWithin (character c) = ⊤
IsWithin (text x) = ⊤
