-- How a declaration is seen that is found.
use Rattle.aidl_syntax.specs.Trees.{decl_of}
use Rattle.declared_names.specs.declared.found.Found.{Found}
use Rattle.declared_names.specs.Declarations.{Entry}

abbrev pub entry_of : Found → Entry
entry_of f = record { name = f.name.0; file = f.file; outer = f.outer; tree = decl_of f.tree.now }
