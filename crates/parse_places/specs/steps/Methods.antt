-- Members of interfaces. For each part and the terminal that it begins with: what is expected behind it.
use Rattle.std.specs.Prelude.{List, [], ◌∷◌, Option, Some, None}
use Rattle.parse_places.specs.declared.terminal.Terminal.{Terminal}
use Rattle.parse_places.specs.declared.terminal.Terminal.TheVariants as terminal
use Rattle.parse_places.specs.declared.expected.Part.TheVariants as part
use Rattle.parse_places.specs.declared.expected.Expected.{Expected}
use Rattle.parse_places.specs.declared.expected.Expected.TheVariants.{Many, Maybe, MaybeListed, Once, Token}
use Rattle.parse_places.specs.steps.Declarations.{constant_row}

-- ["in" | "out" | "inout"] annots type ident
abbrev pub argument_rest_row : Terminal → Option (List Expected)
argument_rest_row terminal.Way = Some (Many part.Annotation ∷ Once part.Type ∷ Token terminal.Name ∷ [])
argument_rest_row terminal.Name =
    Some (Many part.DotName ∷ Maybe part.Element ∷ Maybe part.Array ∷ Token terminal.Name ∷ [])
argument_rest_row _ = None

-- arg = annots ["in" | "out" | "inout"] annots type ident
abbrev pub argument_row : Terminal → Option (List Expected)
argument_row terminal.At =
    Some (Token terminal.Name ∷ Maybe part.Parameters ∷ Many part.Annotation ∷ Once part.ArgumentRest ∷ [])
argument_row c = argument_rest_row c

-- (type | "void") ident "(" [arg {"," arg}] ")" ["=" number] ";"
abbrev pub method_row : Terminal → Option (List Expected)
method_row terminal.Void = Some (Token terminal.Name ∷ Token terminal.OpenParen ∷ MaybeListed part.Argument
    ∷ Token terminal.CloseParen ∷ Maybe part.Id ∷ Token terminal.Semicolon ∷ [])
method_row terminal.Name =
    Some (Many part.DotName ∷ Maybe part.Element ∷ Maybe part.Array ∷ Token terminal.Name ∷ Token terminal.OpenParen
    ∷ MaybeListed part.Argument ∷ Token terminal.CloseParen ∷ Maybe part.Id ∷ Token terminal.Semicolon ∷ [])
method_row _ = None

-- what follows "oneway": an interface or a method
abbrev pub oneway_rest_row : Terminal → Option (List Expected)
oneway_rest_row terminal.Interface = Some (Token terminal.Name ∷ Token terminal.OpenBrace
    ∷ Many part.InterfaceMember ∷ Token terminal.CloseBrace ∷ [])
oneway_rest_row c = method_row c

-- method | constant | decl, behind annotations
abbrev pub interface_member_rest_row : Terminal → Option (List Expected)
interface_member_rest_row terminal.Oneway = Some (Once part.OnewayRest ∷ [])
interface_member_rest_row terminal.Void = method_row terminal.Void
interface_member_rest_row terminal.Name = method_row terminal.Name
interface_member_rest_row c = constant_row c

-- imember = method | constant | decl
abbrev pub interface_member_row : Terminal → Option (List Expected)
interface_member_row terminal.At =
    Some (Token terminal.Name ∷ Maybe part.Parameters ∷ Many part.Annotation ∷ Once part.InterfaceMemberRest ∷ [])
interface_member_row c = interface_member_rest_row c
