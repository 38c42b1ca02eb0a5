-- The table of what stands in each declaration, as the code builds it.
use Rattle.std.specs.Prelude.{◌≡◌, ℕ, ◌<◌, List, [], map, length, ◌++◌, slice_get, Option, Some, None}
use Rattle.std.specs.Prelude.{if◌then◌else◌, ◌∷◌, is_none}
use Rattle.std.specs.List.{filter, enumerate_from}
use Rattle.aidl_schema.specs.declared.schema.Decl.{Decl}
use Rattle.aidl_schema.specs.Names.{is_inside}
use Rattle.api_dump.specs.Declarations.{inside}
use Rattle.api_dump.specs.Dump.{File, file_of, placed}

abbrev pub row_of : Option (List ℕ) → List ℕ
row_of None = []
row_of (Some row) = row

-- the row of a number
abbrev pub row_at : List (List ℕ) → ℕ → List ℕ
row_at rows n = row_of (slice_get rows n)

-- the numbers, from one on, of declarations inside one
abbrev pub inside_from : ℕ → List Decl → ℕ → List ℕ
inside_from i xs n = map (λ x. x.0) (filter (λ x. is_inside n x.1.outer) (enumerate_from i xs))

-- A table has the row of each declaration.
abbrev pub IsTable : List Decl → List (List ℕ) → Type 0
IsTable S rows = (n : ℕ) → n < length S → row_at rows n ≡ inside S n

-- With the rows of what is still to come, it is the table.
abbrev pub IsTableFrom : ℕ → List Decl → List Decl → List (List ℕ) → Type 0
IsTableFrom i later S rows = (n : ℕ) → n < length S → row_at rows n ++ inside_from i later n ≡ inside S n

-- one number, where a declaration is inside another
abbrev pub one_inside : ℕ → Option ℕ → ℕ → List ℕ
one_inside i outer n = if is_inside n outer then i ∷ [] else []

-- A number is added to the row of one declaration, where there is one, and other rows stay.
abbrev pub IsAdded : ℕ → Option ℕ → List (List ℕ) → List (List ℕ) → Type 0
IsAdded i outer old new = (n : ℕ) → n < length old → row_at new n ≡ row_at old n ++ one_inside i outer n

-- the files with that of a declaration, where it stands in no other
abbrev pub with_file : List Decl → ℕ × Decl → List File → List File
with_file S x files = if is_none x.1.outer then placed files (file_of S x) else files
