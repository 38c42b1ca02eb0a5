-- How often marks stand in lists.
use Rattle.std.specs.Prelude.{ℕ, nat_eq, nat_lt, Bool, false, length, List, [], ◌∷◌, map, Some, None}
use Rattle.std.specs.List.{filter, slice_get}
use Rattle.aidl_base.specs.declared.name.Ident.{Ident}
use Rattle.aidl_syntax.specs.declared.tree.DottedTree.{DottedTree}
use Rattle.declared_names.specs.Marks.{mark_of, mark_of_last}

-- at how many places
abbrev pub times : ℕ → List ℕ → ℕ
times mark marks = length (filter (nat_eq mark) marks)

-- at fewer than another one in another list
abbrev pub is_rarer : ℕ → List ℕ → ℕ → List ℕ → Bool
is_rarer mark marks other others = nat_lt (times mark marks) (times other others)

-- at two places and more
abbrev pub is_twice : ℕ → List ℕ → Bool
is_twice mark marks = nat_lt 1 (times mark marks)

-- that of a name's first part as the last one of imports
abbrev pub is_shared : List DottedTree → List Ident → Bool
is_shared imports [] = false
is_shared imports (first ∷ rest) = is_twice (mark_of (first ∷ [])) (map mark_of_last imports)

-- of the imports of the file with a number
abbrev pub is_shared_in : List (List DottedTree) → ℕ → List Ident → Bool
is_shared_in all file name = elim (slice_get all file) [ None ↦ false | Some imports ↦ is_shared imports name ]
