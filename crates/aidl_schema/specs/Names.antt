-- Names of declarations and of their members: the first two rules of a valid schema (own; identifiers: AOSP, "AIDL
-- language").
use Rattle.std.specs.Prelude.{ℕ, Bool, true, false, not, ◌&&◌, ◌==◌, List, [], ◌∷◌, ◌++◌, map, codes, Option, Some}
use Rattle.std.specs.Prelude.{None, slice_get}
use Rattle.std.specs.Cmp.Lexicographic.{slice_cmp}
use Rattle.std.specs.List.{filter, list_all, list_any, enumerate_from}
use Rattle.std.specs.Ordering.{is_lt, nat_cmp}
use Rattle.std.specs.Str.{encode_utf8_all}
use Rattle.aidl_base.specs.declared.name.Ident.{Ident}
use Rattle.aidl_base.specs.Identifiers.{is_identifier}
use Rattle.aidl_base.specs.Names.{dotted}
use Rattle.aidl_schema.specs.declared.schema.Decl.{Decl}
use Rattle.aidl_schema.specs.declared.schema.Enumerator.{Enumerator}
use Rattle.aidl_schema.specs.declared.schema.Method.{Method}
use Rattle.aidl_schema.specs.declared.schema.Kind.{Kind}
use Rattle.aidl_schema.specs.declared.schema.Kind.TheVariants.{Interface, Enum}
use Rattle.aidl_schema.specs.Containment.{fields_of}
use Rattle.aidl_schema.specs.Same.{same_text, same_idents}

-- no item is the same as one after it
abbrev pub are_distinct : {X : Type 0} → (X → X → Bool) → List X → Bool
are_distinct same [] = true
are_distinct same (x ∷ xs) = not (list_any (λ y. same x y) xs) && are_distinct same xs

-- the first text is before the other in the order of bytes
abbrev pub is_before : List ℕ → List ℕ → Bool
is_before x y = is_lt (slice_cmp nat_cmp x y)

-- each text is before every later one: they are sorted and distinct
abbrev pub are_ascending : List (List ℕ) → Bool
are_ascending [] = true
are_ascending (x ∷ xs) = list_all (λ y. is_before x y) xs && are_ascending xs

abbrev pub are_identifiers : List (List ℕ) → Bool
are_identifiers = list_all is_identifier

-- the last part of a canonical name
abbrev pub last_part : List Ident → List ℕ
last_part [] = []
last_part (i ∷ []) = i.0
last_part (i ∷ j ∷ is) = last_part (j ∷ is)

-- a canonical name without its last part
abbrev pub without_last : List Ident → List Ident
without_last [] = []
without_last (i ∷ []) = []
without_last (i ∷ j ∷ is) = i ∷ without_last (j ∷ is)

-- What no declaration is called: the built-in types, the list word, and the names that are left out.
abbrev pub type_words : List (List ℕ)
type_words = codes "boolean" ∷ codes "byte" ∷ codes "char" ∷ codes "int" ∷ codes "long" ∷ codes "String" ∷ codes "List"
    ∷ codes "float" ∷ codes "double" ∷ codes "IBinder" ∷ codes "FileDescriptor" ∷ codes "ParcelFileDescriptor"
    ∷ codes "ParcelableHolder" ∷ codes "Map" ∷ codes "CharSequence" ∷ []

-- one of these names
abbrev pub is_type_word : List ℕ → Bool
is_type_word x = list_any (λ w. same_text w x) type_words

-- a name's bytes in UTF-8
abbrev pub bytes_of : Ident → List ℕ
bytes_of i = encode_utf8_all i.0

-- at least one part
abbrev pub has_part : List Ident → Bool
has_part [] = false
has_part (i ∷ is) = true

-- The name has at least one part, its parts are identifiers, and the last is no word for a type (E2).
abbrev pub is_name : List Ident → Bool
is_name parts = has_part parts && (are_identifiers (map (λ i. i.0) parts) && not (is_type_word (last_part parts)))

-- a declaration that may hold others
abbrev pub may_enclose : Kind → Bool
may_enclose (Enum b es) = false
may_enclose _ = true

-- the declaration may hold others, and has the name without its last part
abbrev pub encloses : Option Decl → List Ident → Bool
encloses None parts = false
encloses (Some e) parts = may_enclose e.kind && same_idents e.name.0 (without_last parts)

-- `outer` is None, or the number of a declaration that encloses the name.
abbrev pub is_outer : List Decl → Option ℕ → List Ident → Bool
is_outer S None parts = true
is_outer S (Some n) parts = encloses (slice_get S n) parts

-- the text of a declaration's canonical name
abbrev pub name_of : Decl → List ℕ
name_of d = dotted d.name.0

-- Rule 1. The canonical names are sorted by bytes and distinct, each is a name, and `outer`, where there is one, is a
-- declaration that encloses it.
unfoldable pub has_names : List Decl → Bool
has_names S = are_ascending (map name_of S) && list_all (λ d. is_name d.name.0 && is_outer S d.outer d.name.0) S

-- the methods of an interface
abbrev pub methods_of : Kind → List Method
methods_of (Interface ms) = ms
methods_of _ = []

-- the enumerators of an enum
abbrev pub enumerators_of : Kind → List Enumerator
enumerators_of (Enum b es) = es
enumerators_of _ = []

-- directly inside the declaration of this number
abbrev pub is_inside : ℕ → Option ℕ → Bool
is_inside n None = false
is_inside n (Some m) = m == n

-- the declarations directly inside that of this number
abbrev pub nested_in : List Decl → ℕ → List Decl
nested_in S n = filter (λ e. is_inside n e.outer) S

abbrev pub field_names : Kind → List (List ℕ)
field_names k = map (λ f. f.name.0) (fields_of k)

abbrev pub method_names : Kind → List (List ℕ)
method_names k = map (λ m. m.name.0) (methods_of k)

abbrev pub enumerator_names : Kind → List (List ℕ)
enumerator_names k = map (λ e. e.name.0) (enumerators_of k)

abbrev pub constant_names : Decl → List (List ℕ)
constant_names d = map (λ c. c.name.0) d.constants

abbrev pub argument_names : Method → List (List ℕ)
argument_names m = map (λ a. a.name.0) m.args

-- the names of the members: of fields, methods, enumerators, constants and nested declarations
abbrev pub member_names : List Decl → ℕ → Decl → List (List ℕ)
member_names S n d = field_names d.kind ++ (method_names d.kind
    ++ (enumerator_names d.kind ++ (constant_names d ++ map (λ e. last_part e.name.0) (nested_in S n))))

-- distinct identifiers
abbrev pub are_names : List (List ℕ) → Bool
are_names names = are_distinct same_text names && are_identifiers names

-- a test of each declaration with its number
abbrev pub each_numbered : (ℕ → Decl → Bool) → List Decl → Bool
each_numbered test S = list_all (λ x. test x.0 x.1) (enumerate_from 0 S)

-- The members of a declaration have distinct identifiers as names, and so have the arguments of a method (E2). The
-- constants are sorted by name.
abbrev pub has_member_names : List Decl → ℕ → Decl → Bool
has_member_names S n d = are_names (member_names S n d)
    && (list_all (λ m. are_names (argument_names m)) (methods_of d.kind) && are_ascending (constant_names d))

-- Rule 2. The names inside each declaration.
unfoldable pub has_members : List Decl → Bool
has_members S = each_numbered (λ n d. has_member_names S n d) S
