-- What an expression is, by what names mean (own, after AOSP, "AIDL language").
use Rattle.std.specs.Prelude.{Option, Some, None, Result, Ok, Err}
use Rattle.aidl_base.specs.Results.{◌>>=◌}
use Rattle.aidl_syntax.specs.declared.tree.DottedTree.{DottedTree}
use Rattle.aidl_syntax.specs.Trees.{Expr, literal, name, group, unary, binary}
use Rattle.const_values.specs.declared.fault.ConstFault.{ConstFault}
use Rattle.const_values.specs.declared.fault.ConstFault.TheVariants.{Mismatch}
use Rattle.const_values.specs.declared.operator.UnaryOperator.{UnaryOperator}
use Rattle.const_values.specs.declared.operator.BinaryOperator.{BinaryOperator}
use Rattle.const_values.specs.Operands.{Operand}
use Rattle.const_values.specs.Literals.{literal_of}
use Rattle.const_values.specs.Symbols.{unary_operator, binary_operator}
use Rattle.const_values.specs.Unary as one
use Rattle.const_values.specs.Binary as two

-- A token that is no literal, and a symbol that is no operator, stand in no tree of a file; they are of another kind.
abbrev pub or_mismatch : Option Operand → Result Operand ConstFault
or_mismatch None = Err Mismatch
or_mismatch (Some x) = Ok x

-- an operator before its operand
abbrev pub before : Option UnaryOperator → Operand → Result Operand ConstFault
before None a = Err Mismatch
before (Some operator) a = one.value_of operator a

-- an operator between its operands
abbrev pub between : Option BinaryOperator → Operand → Operand → Result Operand ConstFault
between None a b = Err Mismatch
between (Some operator) a b = two.value_of operator a b

-- once the left operand is known
abbrev pub then_right : Option BinaryOperator → Result Operand ConstFault → Operand → Result Operand ConstFault
then_right operator right a = right >>= (λ b. between operator a b)

-- What an expression is: the left operand before the right one, and the operands before the operator, so both sides
-- of `&&` and `||`. The first fault in this order is that of the whole.
abbrev pub evaluated : (DottedTree → Result Operand ConstFault) → Expr → Result Operand ConstFault
evaluated meaning (literal offset token) = or_mismatch (literal_of token.kind)
evaluated meaning (name offset dotted) = meaning dotted
evaluated meaning (group offset a) = evaluated meaning a
evaluated meaning (unary offset symbol a) = evaluated meaning a >>= before (unary_operator symbol)
evaluated meaning (binary offset symbol a b) =
    evaluated meaning a >>= then_right (binary_operator symbol) (evaluated meaning b)
