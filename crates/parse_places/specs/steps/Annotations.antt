-- Annotations. For each part and the terminal that it begins with: what is expected behind it.
use Rattle.std.specs.Prelude.{List, [], ◌∷◌, Option, Some, None}
use Rattle.parse_places.specs.declared.terminal.Terminal.{Terminal}
use Rattle.parse_places.specs.declared.terminal.Terminal.TheVariants as terminal
use Rattle.parse_places.specs.declared.expected.Part.TheVariants as part
use Rattle.parse_places.specs.declared.expected.Expected.{Expected}
use Rattle.parse_places.specs.declared.expected.Expected.TheVariants.{Many, Maybe, MaybeListed, Once, Token}
use Rattle.parse_places.specs.steps.Expressions.{initializer_row}

-- "@" ident ["(" [param {"," param}] ")"]
abbrev pub annotation_row : Terminal → Option (List Expected)
annotation_row terminal.At = Some (Token terminal.Name ∷ Maybe part.Parameters ∷ [])
annotation_row _ = None

-- "(" [param {"," param}] ")"
abbrev pub parameters_row : Terminal → Option (List Expected)
parameters_row terminal.OpenParen = Some (MaybeListed part.Parameter ∷ Token terminal.CloseParen ∷ [])
parameters_row _ = None

-- param = [ident "="] init
abbrev pub parameter_row : Terminal → Option (List Expected)
parameter_row terminal.Name = Some (Maybe part.ParameterRest ∷ [])
parameter_row c = initializer_row c

-- what follows the identifier that begins a parameter: "=" init, or the rest of an expression
abbrev pub parameter_rest_row : Terminal → Option (List Expected)
parameter_rest_row terminal.Equal = Some (Once part.Initializer ∷ [])
parameter_rest_row terminal.Dot = Some (Token terminal.Name ∷ Many part.DotName ∷ Many part.Operation ∷ [])
parameter_rest_row terminal.Less = Some (Once part.Operand ∷ Many part.Operation ∷ [])
parameter_rest_row terminal.Greater = Some (Once part.Operand ∷ Many part.Operation ∷ [])
parameter_rest_row terminal.PlusOrMinus = Some (Once part.Operand ∷ Many part.Operation ∷ [])
parameter_rest_row terminal.Operator = Some (Once part.Operand ∷ Many part.Operation ∷ [])
parameter_rest_row _ = None
