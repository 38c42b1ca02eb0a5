-- What an item depends on: the items that its names mean, and for an enumerator without an expression the one before it
-- (own, after AOSP, "AIDL language", "Constants").
use Rattle.std.specs.Prelude.{ℕ, zero, suc, Bool, true, false, if◌then◌else◌, List, [], ◌∷◌, ◌++◌, length, Option}
use Rattle.std.specs.Prelude.{Some, None, is_none}
use Rattle.std.specs.List.{cons_option, filter_map, list_any, slice_get}
use Rattle.aidl_base.specs.declared.name.Ident.{Ident}
use Rattle.aidl_syntax.specs.declared.tree.DottedTree.{DottedTree}
use Rattle.aidl_syntax.specs.Trees.{Expr, offset_of, Constant, Enumerator}
use Rattle.aidl_syntax.specs.Walks.{in_expr}
use Rattle.aidl_syntax.specs.Members.{Member}
use Rattle.aidl_syntax.specs.Members.Member.{constant, enumerator}
use Rattle.name_resolution.specs.declared.meaning.Resolved.{Resolved}
use Rattle.name_resolution.specs.declared.meaning.Resolved.TheVariants.{Declared}
use Rattle.declared_names.specs.Called.{called}
use Rattle.aidl_syntax.specs.Sources.{Source}
use Rattle.declared_names.specs.Declarations.{Entry, declarations}
use Rattle.name_resolution.specs.Resolution.{resolved, or_else}
use Rattle.const_items.specs.Items.{Item, Written, written, first, after, items, number_at, place_of}

-- a constant or an enumerator, with the numbers of its file and of the declaration that has it
pub data Target : Type 0 where
  of_constant : ℕ → ℕ → Constant → Target
  of_enumerator : ℕ → ℕ → Enumerator → Target

-- what a member of a declaration is in an expression
abbrev pub target_of : ℕ → ℕ → Member → Option Target
target_of file number (constant c) = Some (of_constant file number c)
target_of file number (enumerator x) = Some (of_enumerator file number x)
target_of file number _ = None

abbrev pub target_if : ℕ → ℕ → Option Member → Option Target
target_if file number None = None
target_if file number (Some m) = target_of file number m

-- the constant or enumerator of that name in the declaration with that number
abbrev pub member_at : List Entry → ℕ → Ident → Option Target
member_at entries number name =
    elim (slice_get entries number) [ None ↦ None | Some e ↦ target_if e.file number (called e name) ]

abbrev pub is_enumerator : Option Target → Bool
is_enumerator (Some (of_enumerator file number x)) = true
is_enumerator _ = false

abbrev pub only_enumerators : Option Target → Option Target
only_enumerators t = if is_enumerator t then t else None

abbrev pub only_constants : Option Target → Option Target
only_constants t = if is_enumerator t then None else t

-- the constant of that name of the innermost declaration, from one on outwards, that has one; over at most so many
-- levels
abbrev pub constant_around : List Entry → ℕ → Ident → Option ℕ → Option Target
constant_around entries zero name scope = None
constant_around entries (suc levels) name None = None
constant_around entries (suc levels) name (Some number) = elim (slice_get entries number) [
  | None ↦ None
  | Some e ↦ or_else (only_constants (member_at entries number name)) (constant_around entries levels name e.outer)
]

-- in an enumerator's expression an enumerator of the same enum
abbrev pub enumerator_beside : List Entry → Item → Ident → Option Target
enumerator_beside entries x name = if x.enumerates then only_enumerators (member_at entries x.scope name) else None

-- a name of one part: in an enumerator's expression an enumerator of the same enum, else a constant around
abbrev pub target_of_part : List Entry → Item → Ident → Option Target
target_of_part entries x name =
    or_else (enumerator_beside entries x name) (constant_around entries (length entries) name (Some x.scope))

-- a constant or enumerator of a declared type
abbrev pub member_of : List Entry → Ident → Option Resolved → Option Target
member_of entries name (Some (Declared number)) = member_at entries number name
member_of entries name _ = None

-- The last part is a member of what the parts before it, behind some, mean as a type.
abbrev pub target_behind : List Source → Item → List Ident → Ident → List Ident → Option Target
target_behind files x before name [] = member_of (declarations files) name (resolved files x.file x.scope before)
target_behind files x before name (next ∷ more) = target_behind files x (before ++ name ∷ []) next more

-- what a name in the expression of an item means
abbrev pub target_by : List Source → Item → List Ident → Option Target
target_by files x [] = None
target_by files x (name ∷ []) = target_of_part (declarations files) x name
target_by files x (name ∷ next ∷ more) = target_behind files x (name ∷ []) next more

abbrev pub target : List Source → Item → DottedTree → Option Target
target files x d = target_by files x d.name.0

-- the names in an expression, in the order of the file
abbrev pub names_of : Expr → List DottedTree
names_of e = in_expr (λ t. []) (λ d. d ∷ []) e

-- the names in what is written
abbrev pub names_in : Written → List DottedTree
names_in (written e) = names_of e
names_in first = []
names_in (after place) = []

-- one of some names in an item has no meaning
abbrev pub is_unknown_among : List Source → Item → List DottedTree → Bool
is_unknown_among files x names = list_any (λ d. is_none (target files x d)) names

-- a name in its expression has no meaning
abbrev pub has_unknown_name : List Source → Item → Bool
has_unknown_name files x = is_unknown_among files x (names_in x.value)

-- the number among items of that which a constant or an enumerator is
abbrev pub number_among : List Item → Option Target → Option ℕ
number_among xs None = None
number_among xs (Some (of_constant file number c)) = number_at xs file (offset_of c.value)
number_among xs (Some (of_enumerator file number x)) = number_at xs file (place_of x)

abbrev pub number_of : List Source → Option Target → Option ℕ
number_of files t = number_among (items files) t

-- the number among items of the enumerator before one without an expression
abbrev pub before_among : List Item → Item → Written → List ℕ
before_among xs x (after place) = cons_option (number_at xs x.file place) []
before_among xs x _ = []

abbrev pub number_before : List Source → Item → Written → List ℕ
number_before files x w = before_among (items files) x w

-- the numbers of what some names in an item mean
abbrev pub numbers_of : List Source → Item → List DottedTree → List ℕ
numbers_of files x names = filter_map (λ d. number_of files (target files x d)) names

-- what an item depends on, by numbers
abbrev pub depends_on : List Source → Item → List ℕ
depends_on files x = numbers_of files x (names_in x.value) ++ number_before files x x.value

abbrev pub next_of : List Source → Option Item → List ℕ
next_of files None = []
next_of files (Some x) = depends_on files x

-- what the item with a number depends on
abbrev pub next : List Source → ℕ → List ℕ
next files n = next_of files (slice_get (items files) n)
