-- What a name means (AOSP, "AIDL language", "Types"; the order of the candidates: own).
use Rattle.std.specs.Prelude.{ℕ, zero, suc, if◌then◌else◌, List, [], ◌∷◌, ◌++◌, map, length, codes, Option, Some, None}
use Rattle.std.specs.List.{slice_get, filter, position_from}
use Rattle.std.specs.Str.{bytes_eq}
use Rattle.aidl_base.specs.declared.name.Ident.{Ident}
use Rattle.aidl_syntax.specs.declared.tree.DottedTree.{DottedTree}
use Rattle.name_resolution.specs.declared.meaning.BuiltinName.TheVariants as built_in
use Rattle.name_resolution.specs.declared.meaning.Resolved.{Resolved}
use Rattle.name_resolution.specs.declared.meaning.Resolved.TheVariants.{Builtin, ListWord, LeftOut, Declared}
use Rattle.declared_names.specs.Names.{text, same, last, parts_of}
use Rattle.aidl_syntax.specs.Sources.{Source}
use Rattle.declared_names.specs.Declarations.{Entry, declarations}

-- Names with a meaning of their own.

abbrev pub left_out : List (List ℕ)
left_out = codes "float" ∷ codes "double" ∷ codes "IBinder" ∷ codes "FileDescriptor" ∷ codes "ParcelFileDescriptor"
    ∷ codes "ParcelableHolder" ∷ codes "Map" ∷ codes "CharSequence" ∷ []

abbrev pub left_out_words : List (List ℕ × Resolved)
left_out_words = map (λ word. (word, LeftOut)) left_out

-- the built-in types, the list word and the left-out names
abbrev pub meaning_words : List (List ℕ × Resolved)
meaning_words = (codes "boolean", Builtin built_in.Boolean) ∷ (codes "byte", Builtin built_in.Byte)
    ∷ (codes "char", Builtin built_in.Char)
    ∷ (codes "int", Builtin built_in.Int) ∷ (codes "long", Builtin built_in.Long)
    ∷ (codes "String", Builtin built_in.Text) ∷ (codes "List", ListWord)
    ∷ left_out_words

-- the meaning of the first of these words that the text is
abbrev pub meaning_in : List (List ℕ × Resolved) → List ℕ → Option Resolved
meaning_in [] text = None
meaning_in (w ∷ words) text = if bytes_eq text w.0 then Some w.1 else meaning_in words text

unfoldable pub meaning_of_word : List ℕ → Option Resolved
meaning_of_word text = meaning_in meaning_words text

-- a name of one part that is one of these means that
abbrev pub own_meaning : List Ident → Option Resolved
own_meaning [] = None
own_meaning (a ∷ []) = meaning_of_word (text a)
own_meaning (a ∷ b ∷ more) = None

-- Declared names.

-- the number of the first declaration with that canonical name
abbrev pub number_of : List Entry → List Ident → Option ℕ
number_of entries name = position_from (λ e. same e.name name) 0 entries

-- the canonical names of a declaration and of those that enclose it, from inside out, over at most so many levels
abbrev pub enclosing : List Entry → ℕ → Option ℕ → List (List Ident)
enclosing entries zero scope = []
enclosing entries (suc levels) None = []
enclosing entries (suc levels) (Some number) =
    elim (slice_get entries number) [ None ↦ [] | Some e ↦ e.name ∷ enclosing entries levels e.outer ]

-- the imports whose last part is the name's first part, with the name's other parts
abbrev pub imported : List DottedTree → List Ident → List (List Ident)
imported imports [] = []
imported imports (a ∷ rest) = map (λ i. i.name.0 ++ rest) (filter (λ i. same (last i.name.0) (a ∷ [])) imports)

-- What a name may stand for in a file, below the declaration `scope`, in order: the name itself; each enclosing
-- declaration's name with it; each import that ends in its first part, with its other parts; the package with it.
abbrev pub candidates : List Entry → Source → ℕ → List Ident → List (List Ident)
candidates entries file scope name =
    name ∷ map (λ around. around ++ name) (enclosing entries (length entries) (Some scope))
    ++ imported file.tree.imports name ++ (parts_of file.tree.«package» ++ name) ∷ []

-- the first of some names that is declared
abbrev pub first_declared : List Entry → List (List Ident) → Option Resolved
first_declared entries [] = None
first_declared entries (c ∷ more) =
    elim (number_of entries c) [ None ↦ first_declared entries more | Some number ↦ Some (Declared number) ]

-- what stands first, or else what stands second
abbrev pub or_else : {A : Type 0} → Option A → Option A → Option A
or_else None other = other
or_else (Some x) other = Some x

-- what a name means in a file, by its own or as a declaration
abbrev pub meaning_in_file : List Entry → Source → ℕ → List Ident → Option Resolved
meaning_in_file entries file scope name =
    or_else (own_meaning name) (first_declared entries (candidates entries file scope name))

-- what a name means in the file with that number, below the declaration with the number `scope`
abbrev pub resolved : List Source → ℕ → ℕ → List Ident → Option Resolved
resolved files number scope name =
    elim (slice_get files number) [ None ↦ None | Some file ↦ meaning_in_file (declarations files) file scope name ]
