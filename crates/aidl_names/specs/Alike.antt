-- What is looked for among imports.
use Rattle.std.specs.Prelude.{Bool, List}
use Rattle.aidl_base.specs.declared.name.Ident.{Ident}
use Rattle.aidl_syntax.specs.declared.tree.DottedTree.{DottedTree}
use Rattle.declared_names.specs.Names.{same, last}

-- an import has the last part of a name
abbrev pub is_alike : List Ident → DottedTree → Bool
is_alike name i = same (last i.name.0) (last name)
