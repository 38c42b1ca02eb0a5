-- Expressions, and what they initialize. For each part and the terminal that it begins with: what is expected
-- behind it.
use Rattle.std.specs.Prelude.{List, [], ◌∷◌, Option, Some, None}
use Rattle.parse_places.specs.declared.terminal.Terminal.{Terminal}
use Rattle.parse_places.specs.declared.terminal.Terminal.TheVariants as terminal
use Rattle.parse_places.specs.declared.expected.Part.TheVariants as part
use Rattle.parse_places.specs.declared.expected.Expected.{Expected}
use Rattle.parse_places.specs.declared.expected.Expected.TheVariants.{Many, MaybeTrailing, Once, Token}

-- unary
abbrev pub operand_row : Terminal → Option (List Expected)
operand_row terminal.Name = Some (Many part.DotName ∷ [])
operand_row terminal.Number = Some []
operand_row terminal.Literal = Some []
operand_row terminal.OpenParen = Some (Once part.Expression ∷ Token terminal.CloseParen ∷ [])
operand_row terminal.Sign = Some (Once part.Operand ∷ [])
operand_row terminal.PlusOrMinus = Some (Once part.Operand ∷ [])
operand_row _ = None

-- an operator, and the operand behind it
abbrev pub operation_row : Terminal → Option (List Expected)
operation_row terminal.Less = Some (Once part.Operand ∷ [])
operation_row terminal.Greater = Some (Once part.Operand ∷ [])
operation_row terminal.PlusOrMinus = Some (Once part.Operand ∷ [])
operation_row terminal.Operator = Some (Once part.Operand ∷ [])
operation_row _ = None

-- expr: an operand and the operations behind it
abbrev pub expression_row : Terminal → Option (List Expected)
expression_row terminal.Name = Some (Many part.DotName ∷ Many part.Operation ∷ [])
expression_row terminal.Number = Some (Many part.Operation ∷ [])
expression_row terminal.Literal = Some (Many part.Operation ∷ [])
expression_row terminal.OpenParen = Some (Once part.Expression ∷ Token terminal.CloseParen ∷ Many part.Operation ∷ [])
expression_row terminal.Sign = Some (Once part.Operand ∷ Many part.Operation ∷ [])
expression_row terminal.PlusOrMinus = Some (Once part.Operand ∷ Many part.Operation ∷ [])
expression_row _ = None

-- init = expr | "{" [expr {"," expr} [","]] "}"
abbrev pub initializer_row : Terminal → Option (List Expected)
initializer_row terminal.OpenBrace = Some (MaybeTrailing part.Expression ∷ Token terminal.CloseBrace ∷ [])
initializer_row c = expression_row c

-- "=" init
abbrev pub initial_row : Terminal → Option (List Expected)
initial_row terminal.Equal = Some (Once part.Initializer ∷ [])
initial_row _ = None

-- "=" expr
abbrev pub value_row : Terminal → Option (List Expected)
value_row terminal.Equal = Some (Once part.Expression ∷ [])
value_row _ = None

-- "=" number
abbrev pub id_row : Terminal → Option (List Expected)
id_row terminal.Equal = Some (Token terminal.Number ∷ [])
id_row _ = None
