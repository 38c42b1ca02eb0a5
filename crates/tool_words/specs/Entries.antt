-- TYPES and its entries (own).
use Rattle.std.specs.Prelude.{ℕ, ◌-◌, Bool, true, false, ◌&&◌, nat_le, if◌then◌else◌, List, [], ◌∷◌, length, take}
use Rattle.std.specs.Prelude.{drop, Option, Some, None, codes, bytes_eq}
use Rattle.std.specs.List.{list_all}
use Rattle.aidl_base.specs.Identifiers.{is_identifier}
use Rattle.tool_words.specs.declared.entry.Form.{Form}
use Rattle.tool_words.specs.declared.entry.Form.TheVariants as form
use Rattle.tool_words.specs.Cut.{cut_at}
use Rattle.tool_words.specs.Paths.{is_path}

-- An entry: a name, alone, as an array or in a `List`, and whether it may be null.
pub record Entry : Type 0 where
  pub name : List ℕ
  pub form : Form
  pub nullable : Bool

-- the text without so many of its last bytes
abbrev pub without_last : ℕ → List ℕ → List ℕ
without_last n text = take (length text - n) text

abbrev pub ends_with : List ℕ → List ℕ → Bool
ends_with text end = bytes_eq (drop (length text - length end) text) end

-- `N`, `N[]` or `List<N>`
abbrev pub shaped : List ℕ → Bool → Entry
shaped text nullable =
    if ends_with text (codes "[]") then record { name = without_last 2 text; form = form.Array; nullable = nullable }
    else if bytes_eq (take 5 text) (codes "List<") && ends_with text (codes ">")
    then record { name = drop 5 (without_last 1 text); form = form.List; nullable = nullable }
    else record { name = text; form = form.One; nullable = nullable }

-- with an optional `?` at its end
abbrev pub entry_of : List ℕ → Entry
entry_of text = if ends_with text (codes "?") then shaped (without_last 1 text) true else shaped text false

-- identifiers with dots between them
abbrev pub is_dotted : List ℕ → Bool
is_dotted name = list_all is_identifier (cut_at 46 name)

-- the name in an entry is dotted
abbrev pub is_formed : List ℕ → Bool
is_formed text = is_dotted (entry_of text).name

-- TYPES, cut at its commas
abbrev pub entries_of : List ℕ → List (List ℕ)
entries_of types = cut_at 44 types

-- at most 255 entries
abbrev pub are_few : List ℕ → Bool
are_few types = nat_le (length (entries_of types)) 255

-- every entry is well formed
abbrev pub are_formed : List ℕ → Bool
are_formed types = list_all is_formed (entries_of types)

unfoldable pub are_types : List ℕ → Bool
are_types types = are_few types && are_formed types

-- exactly TYPES and a path
abbrev pub types_and_file : List (List ℕ) → Option (List ℕ × List ℕ)
types_and_file [] = None
types_and_file (types ∷ []) = None
types_and_file (types ∷ file ∷ []) = if are_types types && is_path file then Some (types, file) else None
types_and_file (types ∷ file ∷ word ∷ words) = None
