-- The ends of declared names, by marks that are made from the back.
use Rattle.std.specs.Prelude.{ℕ, List, [], ◌∷◌, ◌++◌}
use Rattle.aidl_base.specs.declared.name.Ident.{Ident}
use Rattle.aidl_syntax.specs.declared.tree.DottedTree.{DottedTree}
use Rattle.declared_names.specs.declared.ends.End.{End}
use Rattle.declared_names.specs.Marks.{with_part, mark_of}
use Rattle.declared_names.specs.Declarations.{Entry}
use Rattle.declared_names.specs.Numbered.{in_each}

-- the mark of a name from its back, so that those of all its ends are made in one walk
abbrev pub mark_back : List Ident → ℕ
mark_back [] = 0
mark_back (a ∷ rest) = with_part (mark_back rest) a

-- the ends of a name, the shortest first
abbrev pub ends_in : ℕ → List Ident → List End
ends_in owner [] = []
ends_in owner (a ∷ rest) = ends_in owner rest ++ record { owner = owner; mark = mark_back (a ∷ rest) } ∷ []

-- those of the names of declarations
abbrev pub ends_of : List Entry → List End
ends_of entries = in_each (λ owner e. ends_in owner e.name) 0 entries

-- the mark of the whole name of an import
abbrev pub mark_of_import : DottedTree → ℕ
mark_of_import i = mark_of i.name.0
