-- The check rules of the names stage: the spots in files that break them.
use Rattle.std.specs.Prelude.{ℕ, Bool, true, false, not, ◌&&◌, ◌||◌, List, [], ◌∷◌, ◌++◌, map, codes, Option, Some}
use Rattle.std.specs.Prelude.{None, is_some, is_none, if◌then◌else◌}
use Rattle.std.specs.List.{filter, flat_map, list_any, slice_get}
use Rattle.std.specs.Str.{bytes_eq, encode_utf8_all}
use Rattle.aidl_base.specs.declared.breach.Breach.{Breach}
use Rattle.aidl_base.specs.declared.name.Ident.{Ident}
use Rattle.aidl_syntax.specs.declared.tree.NameTree.{NameTree}
use Rattle.aidl_syntax.specs.declared.tree.DottedTree.{DottedTree}
use Rattle.aidl_syntax.specs.Trees.{Body}
use Rattle.aidl_syntax.specs.Trees.Body.{parcelable, union, enum, interface}
use Rattle.aidl_syntax.specs.Members.{Member, members, body, declared_name, member_name}
use Rattle.aidl_syntax.specs.Members.Member.{field, constant, method, enumerator, nested}
use Rattle.name_resolution.specs.declared.meaning.Resolved.{Resolved}
use Rattle.name_resolution.specs.declared.meaning.Resolved.TheVariants.{Builtin, ListWord, LeftOut, Declared}
use Rattle.declared_names.specs.Names.{text, same, last, parts_of}
use Rattle.declared_names.specs.Numbered.{in_each, after_earlier}
use Rattle.declared_names.specs.TypeNames.{type_names}
use Rattle.aidl_syntax.specs.Sources.{Source}
use Rattle.declared_names.specs.Declarations.{Entry, declarations}
use Rattle.name_resolution.specs.Resolution.{meaning_of_word, number_of, resolved}

-- a breach of a rule in a file, at an offset
abbrev pub breach : ℕ → ℕ → ℕ → Breach
breach rule file offset = record { rule = rule; file = file; offset = offset }

-- the number of a file, and an offset in it
abbrev pub Spot : Type 0
Spot = ℕ × ℕ

-- the spots at which the files of a tree break a rule
abbrev pub Rule : Type 0
Rule = List Source → List Spot

-- the breaches of a rule at spots
abbrev pub breaches_at : ℕ → List Spot → List Breach
breaches_at rule spots = map (λ s. breach rule s.0 s.1) spots

-- WrongFile

-- each part of the package with `/`, and the name with `.aidl`
abbrev pub path_of : List Ident → Ident → List ℕ
path_of «package» name = flat_map (λ part. text part ++ codes "/") «package» ++ text name ++ codes ".aidl"

abbrev pub is_wrong_file : Source → Bool
is_wrong_file s = not
    (bytes_eq (encode_utf8_all s.path) (path_of (parts_of s.tree.«package») (declared_name s.tree.declared).name))

abbrev pub wrong_file : ℕ → Source → List Spot
wrong_file file s = if is_wrong_file s then (file, 0) ∷ [] else []

abbrev pub WrongFile : Rule
WrongFile files = in_each wrong_file 0 files

-- Duplicate

-- a member or argument has the name of an earlier one
abbrev pub is_named_again : List NameTree → NameTree → Bool
is_named_again before n = list_any (λ m. bytes_eq (text n.name) (text m.name)) before

abbrev pub repeated : ℕ → List NameTree → List Spot
repeated file names = map (λ n. (file, n.offset)) (after_earlier is_named_again [] names)

-- the names of the arguments of a method
abbrev pub argument_names : Member → List NameTree
argument_names (method m) = map (λ a. a.name) m.args
argument_names (field f) = []
argument_names (constant c) = []
argument_names (enumerator e) = []
argument_names (nested d) = []

abbrev pub repeated_inside : Entry → List Spot
repeated_inside e = repeated e.file (map member_name (members (body e.tree)))
    ++ flat_map (λ m. repeated e.file (argument_names m)) (members (body e.tree))

-- a declaration has the canonical name of an earlier one, or the name of a built-in type, the list word or a
-- left-out name
abbrev pub is_taken : List Entry → Entry → Bool
is_taken before e =
    list_any (λ d. same d.name e.name) before || is_some (meaning_of_word (text (declared_name e.tree).name))

abbrev pub taken : List Entry → List Spot
taken entries = map (λ e. (e.file, (declared_name e.tree).offset)) (after_earlier is_taken [] entries)

-- an import differs from an earlier one with the same last part
abbrev pub is_other_import : List DottedTree → DottedTree → Bool
is_other_import before i = list_any (λ d. same (last d.name.0) (last i.name.0) && not (same d.name.0 i.name.0)) before

abbrev pub other_imports : ℕ → Source → List Spot
other_imports file s = map (λ i. (file, i.offset)) (after_earlier is_other_import [] s.tree.imports)

abbrev pub Duplicate : Rule
Duplicate files = flat_map repeated_inside (declarations files) ++ taken (declarations files)
    ++ in_each other_imports 0 files

-- UnknownImport

abbrev pub unknown_imports : List Entry → ℕ → Source → List Spot
unknown_imports entries file s =
    map (λ i. (file, i.offset)) (filter (λ i. is_none (number_of entries i.name.0)) s.tree.imports)

abbrev pub UnknownImport : Rule
UnknownImport files = in_each (unknown_imports (declarations files)) 0 files

-- The names of types.

-- the names of types in a tree that pass a test of the file, the innermost declaration around and the name
abbrev pub types_in : (ℕ → ℕ → List Ident → Bool) → ℕ → Entry → List Spot
types_in test number e = map (λ d. (e.file, d.offset))
    (filter (λ d. test e.file number d.name.0) (flat_map type_names (members (body e.tree))))

abbrev pub types_where : (ℕ → ℕ → List Ident → Bool) → Rule
types_where test files = in_each (types_in test) 0 (declarations files)

-- UnknownType

abbrev pub is_unknown : Option Resolved → Bool
is_unknown r = is_none r

abbrev pub UnknownType : Rule
UnknownType files = types_where (λ file scope name. is_unknown (resolved files file scope name)) files

-- LeftOutType

abbrev pub is_interface_body : Body → Bool
is_interface_body (parcelable ms) = false
is_interface_body (union ms) = false
is_interface_body (enum es) = false
is_interface_body (interface oneway ms) = true

abbrev pub is_interface : List Entry → ℕ → Bool
is_interface entries number =
    elim (slice_get entries number) [ None ↦ false | Some e ↦ is_interface_body (body e.tree) ]

abbrev pub is_left_out : List Entry → Option Resolved → Bool
is_left_out entries None = false
is_left_out entries (Some (Builtin b)) = false
is_left_out entries (Some ListWord) = false
is_left_out entries (Some LeftOut) = true
is_left_out entries (Some (Declared number)) = is_interface entries number

abbrev pub LeftOutType : Rule
LeftOutType files =
    types_where (λ file scope name. is_left_out (declarations files) (resolved files file scope name)) files
