-- Names of which was asked before what they mean through the imports of a file.
use Rattle.std.specs.Prelude.{◌≡◌, ℕ, nat_eq, Bool, true, false, ◌&&◌, if◌then◌else◌, List, map, Option, Some, None}
use Rattle.std.specs.List.{slice_get}
use Rattle.aidl_base.specs.declared.name.Ident.{Ident}
use Rattle.aidl_syntax.specs.declared.tree.DottedTree.{DottedTree}
use Rattle.name_resolution.specs.declared.asked.Answer.{Answer}
use Rattle.name_resolution.specs.declared.asked.Known.{Known}
use Rattle.name_resolution.specs.declared.asked.Known.TheVariants.{Unasked, Means}
use Rattle.name_resolution.specs.declared.meaning.Resolved.{Resolved}
use Rattle.declared_names.specs.Names.{same}
use Rattle.declared_names.specs.Declarations.{Entry}
use Rattle.name_resolution.specs.Imports.{meant_through}

-- what a name means through the imports of the file with a number
abbrev pub means : List (List DottedTree) → List Entry → ℕ → List Ident → Option Resolved
means all es file name = elim (slice_get all file) [ None ↦ None | Some imports ↦ meant_through imports es name ]

-- each answer is what its name means
abbrev pub AreRight : List (List DottedTree) → List Entry → List Answer → Type 0
AreRight all es answers = map (λ a. a.meaning) answers ≡ map (λ a. means all es a.file a.name.now.name.0) answers

-- where a meaning is known, it is this one
abbrev pub Knows : Option Resolved → Known → Type 0
Knows meaning Unasked = Unit {0}
Knows meaning (Means m) = m ≡ meaning

-- what an answer says of a name in a file
abbrev pub said : Answer → ℕ → List Ident → Known
said a file name = if nat_eq a.file file && same a.name.now.name.0 name then Means a.meaning else Unasked

-- what the answer at a place says
abbrev pub said_at_number : List Answer → ℕ → ℕ → List Ident → Known
said_at_number answers place file name = elim (slice_get answers place) [ None ↦ Unasked | Some a ↦ said a file name ]

abbrev pub said_at : List Answer → Option ℕ → ℕ → List Ident → Known
said_at answers None file name = Unasked
said_at answers (Some place) file name = said_at_number answers place file name

-- an answer says so, or none was found
abbrev pub IsSaid : List Answer → ℕ → List Ident → Known → Type 0
IsSaid answers file name known = (place : Option ℕ) × (known ≡ said_at answers place file name)

-- a meaning is known
abbrev pub is_told : Known → Bool
is_told Unasked = false
is_told (Means m) = true
