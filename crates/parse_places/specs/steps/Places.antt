-- The place of a syntax fault, by a stack of what is expected.
use Rattle.std.specs.Prelude.{ℕ, ◌+◌, if◌then◌else◌, List, [], ◌∷◌, Option, Some, None}
use Rattle.aidl_syntax.specs.declared.token.Token.{Token}
use Rattle.parse_places.specs.declared.expected.Expected.{Expected}
use Rattle.parse_places.specs.declared.expected.Expected.TheVariants.{Once, Maybe, Many}
use Rattle.parse_places.specs.declared.expected.Part.TheVariants as part
use Rattle.parse_places.specs.steps.Terminals.{terminal_of}
use Rattle.parse_places.specs.steps.Moves.{step, ends}

-- file = ["package" dotted ";"] {"import" dotted ";"} annots (parcelable | union | enum | interface)
abbrev pub whole : List Expected
whole = Maybe part.Package ∷ Many part.Import ∷ Many part.Annotation ∷ Once part.Body ∷ []

-- the place of a token that the stack doesn't go on with, or else of those after it
abbrev pub place_or : ℕ → Option (List Expected) → (List Expected → Option ℕ) → Option ℕ
place_or place None go = Some place
place_or place (Some stack) go = go stack

-- the place at which some tokens stop the stack, where so many stand before them
unfoldable pub place_from : ℕ → List Token → List Expected → Option ℕ
place_from place [] stack = if ends stack then None else Some place
place_from place (t ∷ ts) stack = place_or place (step stack (terminal_of t.kind)) (place_from (place + 1) ts)
