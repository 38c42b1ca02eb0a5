-- Which versions are whole: those whose `.hash` says what their files are, by either recipe (own).
use Rattle.std.specs.Prelude.{ℕ, ◌||◌, Bool, false, if◌then◌else◌, List, [], ◌∷◌, Option, Some, None, bytes_eq}
use Rattle.api_hash.specs.declared.hashing.Recipe.TheVariants.{One, Two}
use Rattle.api_hash.specs.HashText.{hash_text}
use Rattle.api_versions.specs.declared.version.Version.{Version}
use Rattle.api_versions.specs.declared.whole.Torn.{Torn}

-- the text that `.hash` is to have: that of the second recipe, which ties it to the version's number
abbrev pub defined : Version → List ℕ
defined v = hash_text v.files (Two v.number)

-- `.hash` is there and is a text
abbrev pub is_kept : Option (List ℕ) → List ℕ → Bool
is_kept None text = false
is_kept (Some kept) text = bytes_eq kept text

-- its `.hash` has the text of the second recipe
abbrev pub is_current : Version → Bool
is_current v = is_kept v.kept (defined v)

-- its `.hash` has the text of either recipe
abbrev pub is_whole : Version → Bool
is_whole v = is_kept v.kept (hash_text v.files One) || is_current v

-- of a version that isn't whole: what is kept, and the whole defined text
abbrev pub torn_of : Version → Torn
torn_of v = record { version = v.number; kept = v.kept; text = defined v }

-- the least version that isn't whole, if any
abbrev pub first_torn : List Version → Option Torn
first_torn [] = None
first_torn (v ∷ vs) = if is_whole v then first_torn vs else Some (torn_of v)
