-- How the stack of what is expected, the next on top, moves on by a terminal.
use Rattle.std.specs.Prelude.{Bool, true, false, if◌then◌else◌, List, [], ◌∷◌, ◌++◌, Option, Some, None}
use Rattle.std.specs.List.{list_all}
use denote.Enum.Bare.{sameb}
use Rattle.parse_places.specs.contracts.terminal.Terminal as terminals
use Rattle.parse_places.specs.declared.terminal.Terminal.{Terminal}
use Rattle.parse_places.specs.declared.terminal.Terminal.TheVariants as terminal
use Rattle.parse_places.specs.declared.expected.Expected.{Expected}
use Rattle.parse_places.specs.declared.expected.Expected.TheVariants.{Token, Once, Maybe, Many, Commas, MaybeListed}
use Rattle.parse_places.specs.declared.expected.Expected.TheVariants.{CommasTrailing, MaybeTrailing}
use Rattle.parse_places.specs.steps.Rows.{row}

unfoldable pub same_terminal : Terminal → Terminal → Bool
same_terminal = sameb terminals.the_type

-- what is expected, and one more thing behind it
abbrev pub and_then : Option (List Expected) → Expected → Option (List Expected)
and_then None e = None
and_then (Some es) e = Some (es ++ e ∷ [])

-- what is expected, where the terminal is a comma
abbrev pub behind_comma : Expected → Terminal → Option (List Expected)
behind_comma e c = if same_terminal c terminal.Comma then Some (e ∷ []) else None

-- what is expected behind a terminal, where what was expected begins with it
unfoldable pub moves : Expected → Terminal → Option (List Expected)
moves (Token wanted) c = if same_terminal wanted c then Some [] else None
moves (Once x) c = row x c
moves (Maybe x) c = row x c
moves (Many x) c = and_then (row x c) (Many x)
moves (Commas x) c = and_then (behind_comma (Once x) c) (Commas x)
moves (MaybeListed x) c = and_then (row x c) (Commas x)
moves (CommasTrailing x) c = behind_comma (MaybeTrailing x) c
moves (MaybeTrailing x) c = and_then (row x c) (CommasTrailing x)

-- what is expected may be left out
unfoldable pub skips : Expected → Bool
skips (Token wanted) = false
skips (Once x) = false
skips (Maybe x) = true
skips (Many x) = true
skips (Commas x) = true
skips (MaybeListed x) = true
skips (CommasTrailing x) = true
skips (MaybeTrailing x) = true

-- a move where there is one; else what may be left out is, and the rest of the stack moves
abbrev pub move_or_skip : Option (List Expected) → Bool → List Expected → Option (List Expected)
    → Option (List Expected)
move_or_skip (Some es) skipped stack rest = Some (es ++ stack)
move_or_skip None true stack rest = rest
move_or_skip None false stack rest = None

-- the stack behind a terminal, where the stack goes on with it
unfoldable pub step : List Expected → Terminal → Option (List Expected)
step [] c = None
step (e ∷ stack) c = move_or_skip (moves e c) (skips e) stack (step stack c)

-- all that is expected may be left out
unfoldable pub ends : List Expected → Bool
ends stack = list_all skips stack
