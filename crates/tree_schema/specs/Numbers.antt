-- The order of a schema's declarations: by the bytes of their canonical names (own). And the number that each has
-- there.
use Rattle.std.specs.Prelude.{ℕ, nat_eq, Bool, List, [], ◌∷◌, Option}
use Rattle.std.specs.Cmp.Lexicographic.{slice_cmp}
use Rattle.std.specs.List.{fold, enumerate_from, position_from}
use Rattle.std.specs.Ordering.{nat_cmp, match_ordering}
use Rattle.std.specs.Str.{encode_utf8_all}
use Rattle.std.specs.declared.cmp.Ordering.{Ordering}
use Rattle.aidl_base.specs.Names.{dotted}
use Rattle.declared_names.specs.Declarations.{Entry}

-- a declaration with its number in the trees
abbrev pub Numbered : Type 0
Numbered = ℕ × Entry

-- the bytes of a canonical name
abbrev pub bytes_of : Entry → List ℕ
bytes_of e = encode_utf8_all (dotted e.name)

abbrev pub order : Numbered → Numbered → Ordering
order x y = slice_cmp nat_cmp (bytes_of x.1) (bytes_of y.1)

-- A declaration at its place among others. It would stand for another with its name; that none has an earlier one's
-- is E2.
abbrev pub put : List Numbered → Numbered → List Numbered
put [] x = x ∷ []
put (y ∷ more) x = match_ordering (order x y) (x ∷ y ∷ more) (x ∷ more) (y ∷ put more x)

-- the declarations in the order of a schema
unfoldable pub sorted : List Entry → List Numbered
sorted entries = fold put [] (enumerate_from 0 entries)

abbrev pub has_number : ℕ → Numbered → Bool
has_number number x = nat_eq x.0 number

-- the number in the schema of the declaration that has a number in the trees
abbrev pub number_of : List Entry → ℕ → Option ℕ
number_of entries number = position_from (has_number number) 0 (sorted entries)
