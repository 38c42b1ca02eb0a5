-- Whether an import stands at a place of some.
use Rattle.std.specs.Prelude.{ℕ, Bool, false, List, Option, Some, None}
use Rattle.std.specs.Borrow.{Bor}
use Rattle.std.specs.List.{slice_get}
use Rattle.aidl_base.specs.declared.name.Ident.{Ident}
use Rattle.aidl_syntax.specs.declared.tree.DottedTree.{DottedTree}
use Rattle.declared_names.specs.Names.{same}

-- the import with that number is there and has the name
abbrev pub is_at_number : List (Bor DottedTree) → ℕ → List Ident → Bool
is_at_number imports number name = elim (slice_get imports number) [ None ↦ false | Some i ↦ same i.now.name.0 name ]

abbrev pub is_at : List (Bor DottedTree) → Option ℕ → List Ident → Bool
is_at imports None name = false
is_at imports (Some number) name = is_at_number imports number name
