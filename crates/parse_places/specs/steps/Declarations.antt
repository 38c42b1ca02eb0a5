-- Declarations and their members. For each part and the terminal that it begins with: what is expected behind it.
use Rattle.std.specs.Prelude.{List, [], ◌∷◌, Option, Some, None}
use Rattle.parse_places.specs.declared.terminal.Terminal.{Terminal}
use Rattle.parse_places.specs.declared.terminal.Terminal.TheVariants as terminal
use Rattle.parse_places.specs.declared.expected.Part.TheVariants as part
use Rattle.parse_places.specs.declared.expected.Expected.{Expected}
use Rattle.parse_places.specs.declared.expected.Expected.TheVariants.{CommasTrailing, Many, Maybe, Once, Token}

-- enumerator = ident ["=" expr]
abbrev pub enumerator_row : Terminal → Option (List Expected)
enumerator_row terminal.Name = Some (Maybe part.Value ∷ [])
enumerator_row _ = None

-- parcelable | union | enum | interface
abbrev pub body_row : Terminal → Option (List Expected)
body_row terminal.Parcelable =
    Some (Token terminal.Name ∷ Token terminal.OpenBrace ∷ Many part.Member ∷ Token terminal.CloseBrace ∷ [])
body_row terminal.Union =
    Some (Token terminal.Name ∷ Token terminal.OpenBrace ∷ Many part.Member ∷ Token terminal.CloseBrace ∷ [])
body_row terminal.Enum = Some (Token terminal.Name ∷ Token terminal.OpenBrace ∷ Once part.Enumerator
    ∷ CommasTrailing part.Enumerator ∷ Token terminal.CloseBrace ∷ [])
body_row terminal.Interface = Some (Token terminal.Name ∷ Token terminal.OpenBrace ∷ Many part.InterfaceMember
    ∷ Token terminal.CloseBrace ∷ [])
body_row terminal.Oneway = Some (Token terminal.Interface ∷ Token terminal.Name ∷ Token terminal.OpenBrace
    ∷ Many part.InterfaceMember ∷ Token terminal.CloseBrace ∷ [])
body_row _ = None

-- constant | decl, behind annotations
abbrev pub constant_row : Terminal → Option (List Expected)
constant_row terminal.Const = Some (Once part.Type ∷ Token terminal.Name ∷ Token terminal.Equal
    ∷ Once part.Expression ∷ Token terminal.Semicolon ∷ [])
constant_row c = body_row c

-- field | constant | decl, behind annotations
abbrev pub member_rest_row : Terminal → Option (List Expected)
member_rest_row terminal.Name = Some (Many part.DotName ∷ Maybe part.Element ∷ Maybe part.Array
    ∷ Token terminal.Name ∷ Maybe part.Initial ∷ Token terminal.Semicolon ∷ [])
member_rest_row c = constant_row c

-- member = field | constant | decl
abbrev pub member_row : Terminal → Option (List Expected)
member_row terminal.At =
    Some (Token terminal.Name ∷ Maybe part.Parameters ∷ Many part.Annotation ∷ Once part.MemberRest ∷ [])
member_row c = member_rest_row c
