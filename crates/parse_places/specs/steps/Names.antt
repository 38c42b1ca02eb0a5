-- Names: packages, imports and types. For each part and the terminal that it begins with: what is expected behind it.
use Rattle.std.specs.Prelude.{List, [], ◌∷◌, Option, Some, None}
use Rattle.parse_places.specs.declared.terminal.Terminal.{Terminal}
use Rattle.parse_places.specs.declared.terminal.Terminal.TheVariants as terminal
use Rattle.parse_places.specs.declared.expected.Part.TheVariants as part
use Rattle.parse_places.specs.declared.expected.Expected.{Expected}
use Rattle.parse_places.specs.declared.expected.Expected.TheVariants.{Many, Maybe, Token}

-- "package" dotted ";"
abbrev pub package_row : Terminal → Option (List Expected)
package_row terminal.Package = Some (Token terminal.Name ∷ Many part.DotName ∷ Token terminal.Semicolon ∷ [])
package_row _ = None

-- "import" dotted ";"
abbrev pub import_row : Terminal → Option (List Expected)
import_row terminal.Import = Some (Token terminal.Name ∷ Many part.DotName ∷ Token terminal.Semicolon ∷ [])
import_row _ = None

-- "." ident
abbrev pub dot_name_row : Terminal → Option (List Expected)
dot_name_row terminal.Dot = Some (Token terminal.Name ∷ [])
dot_name_row _ = None

-- dotted ["<" dotted ">"] ["[" "]"]
abbrev pub type_row : Terminal → Option (List Expected)
type_row terminal.Name = Some (Many part.DotName ∷ Maybe part.Element ∷ Maybe part.Array ∷ [])
type_row _ = None

-- "<" dotted ">"
abbrev pub element_row : Terminal → Option (List Expected)
element_row terminal.Less = Some (Token terminal.Name ∷ Many part.DotName ∷ Token terminal.Greater ∷ [])
element_row _ = None

-- "[" "]"
abbrev pub array_row : Terminal → Option (List Expected)
array_row terminal.OpenBracket = Some (Token terminal.CloseBracket ∷ [])
array_row _ = None
