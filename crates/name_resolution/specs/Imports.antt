-- What names mean through the imports of a file.
use Rattle.std.specs.Prelude.{List, Option}
use Rattle.aidl_base.specs.declared.name.Ident.{Ident}
use Rattle.aidl_syntax.specs.declared.tree.DottedTree.{DottedTree}
use Rattle.name_resolution.specs.declared.meaning.Resolved.{Resolved}
use Rattle.declared_names.specs.Declarations.{Entry}
use Rattle.name_resolution.specs.Resolution.{first_declared, imported}
use Rattle.aidl_syntax.specs.Sources.{Source}

-- through imports: the first of the names that they make of it which is declared
abbrev pub meant_through : List DottedTree → List Entry → List Ident → Option Resolved
meant_through imports entries name = first_declared entries (imported imports name)

-- through those of a file
abbrev pub meant_in : Source → List Entry → List Ident → Option Resolved
meant_in file = meant_through file.tree.imports
