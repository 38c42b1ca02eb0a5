-- Which symbols are operators (AOSP, "AIDL language", constant expressions).
use Rattle.std.specs.Prelude.{Option, Some, None}
use Rattle.aidl_syntax.specs.declared.token.Symbol.{Symbol}
use Rattle.aidl_syntax.specs.declared.token.Symbol.TheVariants as mark
use Rattle.const_values.specs.declared.operator.UnaryOperator.{UnaryOperator}
use Rattle.const_values.specs.declared.operator.UnaryOperator.TheVariants as unary
use Rattle.const_values.specs.declared.operator.BinaryOperator.{BinaryOperator}
use Rattle.const_values.specs.declared.operator.BinaryOperator.TheVariants as binary
use Rattle.const_values.specs.declared.operator.Arithmetic.TheVariants as arithmetic
use Rattle.const_values.specs.declared.operator.Bitwise.TheVariants as bitwise
use Rattle.const_values.specs.declared.operator.Shift.TheVariants as shift
use Rattle.const_values.specs.declared.operator.Order.TheVariants as order
use Rattle.const_values.specs.declared.operator.Equality.TheVariants as equality
use Rattle.const_values.specs.declared.operator.Connective.TheVariants as connective

-- before an operand
abbrev pub unary_operator : Symbol → Option UnaryOperator
unary_operator mark.Plus = Some unary.Plus
unary_operator mark.Minus = Some unary.Minus
unary_operator mark.Tilde = Some unary.Complement
unary_operator mark.Bang = Some unary.Not
unary_operator _ = None

-- between operands
abbrev pub binary_operator : Symbol → Option BinaryOperator
binary_operator mark.Plus = Some (binary.Arithmetic arithmetic.Add)
binary_operator mark.Minus = Some (binary.Arithmetic arithmetic.Subtract)
binary_operator mark.Star = Some (binary.Arithmetic arithmetic.Multiply)
binary_operator mark.Slash = Some (binary.Arithmetic arithmetic.Divide)
binary_operator mark.Percent = Some (binary.Arithmetic arithmetic.Remainder)
binary_operator mark.And = Some (binary.Bitwise bitwise.And)
binary_operator mark.Or = Some (binary.Bitwise bitwise.Or)
binary_operator mark.Caret = Some (binary.Bitwise bitwise.ExclusiveOr)
binary_operator mark.ShiftLeft = Some (binary.Shift shift.Left)
binary_operator mark.ShiftRight = Some (binary.Shift shift.Right)
binary_operator mark.Less = Some (binary.Order order.Less)
binary_operator mark.Greater = Some (binary.Order order.Greater)
binary_operator mark.LessEqual = Some (binary.Order order.LessEqual)
binary_operator mark.GreaterEqual = Some (binary.Order order.GreaterEqual)
binary_operator mark.EqualEqual = Some (binary.Equality equality.Equal)
binary_operator mark.NotEqual = Some (binary.Equality equality.NotEqual)
binary_operator mark.AndAnd = Some (binary.Connective connective.And)
binary_operator mark.OrOr = Some (binary.Connective connective.Or)
binary_operator _ = None
