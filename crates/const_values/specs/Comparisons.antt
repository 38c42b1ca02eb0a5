-- Operators that give a truth value (own, after AOSP, "AIDL language").
use Rattle.std.specs.Prelude.{ℤ, int_lt, int_le, Bool, not, ◌&&◌, ◌||◌}
use Rattle.const_values.specs.declared.operator.Order.{Order}
use Rattle.const_values.specs.declared.operator.Order.TheVariants.{Less, Greater, LessEqual, GreaterEqual}
use Rattle.const_values.specs.declared.operator.Equality.{Equality}
use Rattle.const_values.specs.declared.operator.Equality.TheVariants.{Equal, NotEqual}
use Rattle.const_values.specs.declared.operator.Connective.{Connective}
use Rattle.const_values.specs.declared.operator.Connective.TheVariants.{And, Or}

-- the order of whole numbers
abbrev pub order_of : Order → ℤ → ℤ → Bool
order_of Less a b = int_lt a b
order_of Greater a b = int_lt b a
order_of LessEqual a b = int_le a b
order_of GreaterEqual a b = int_le b a

-- `==` of two values that are the same or not, and `!=`
abbrev pub equality_of : Equality → Bool → Bool
equality_of Equal same = same
equality_of NotEqual same = not same

-- both, or one of two
abbrev pub connective_of : Connective → Bool → Bool → Bool
connective_of And a b = a && b
connective_of Or a b = a || b
