-- What must not follow: so that a terminal with which what may be left out begins never stands behind it.
use Rattle.std.proofs.Common.{Bool, true, false, ◌&&◌, ◌||◌, not, List, [], ◌∷◌, Option, Some, None, is_some}
use Rattle.std.specs.List.{list_all}
use Rattle.parse_places.specs.declared.terminal.Terminal.{Terminal}
use Rattle.parse_places.specs.declared.terminal.Terminal.TheVariants as terminal
use Rattle.parse_places.specs.declared.expected.Part.{Part}
use Rattle.parse_places.specs.declared.expected.Part.TheVariants as part
use Rattle.parse_places.specs.declared.expected.Expected.{Expected}
use Rattle.parse_places.specs.declared.expected.Expected.TheVariants.{Token, Once, Maybe, Many, Commas, MaybeListed, CommasTrailing, MaybeTrailing}
use Rattle.parse_places.specs.steps.Rows.{row}
use Rattle.parse_places.specs.steps.Moves.{moves, skips}

abbrev goes_on_name : Terminal → Bool
goes_on_name terminal.Dot = true
goes_on_name _ = false

abbrev goes_on_type : Terminal → Bool
goes_on_type terminal.Dot = true
goes_on_type terminal.Less = true
goes_on_type terminal.OpenBracket = true
goes_on_type _ = false

abbrev goes_on_expression : Terminal → Bool
goes_on_expression terminal.Dot = true
goes_on_expression terminal.Less = true
goes_on_expression terminal.Greater = true
goes_on_expression terminal.PlusOrMinus = true
goes_on_expression terminal.Operator = true
goes_on_expression _ = false

abbrev is_equal : Terminal → Bool
is_equal terminal.Equal = true
is_equal _ = false

abbrev is_paren : Terminal → Bool
is_paren terminal.OpenParen = true
is_paren _ = false

abbrev is_comma : Terminal → Bool
is_comma terminal.Comma = true
is_comma _ = false

abbrev or_equal : Terminal → Bool
or_equal c = is_equal c || goes_on_expression c

abbrev nothing : Terminal → Bool
nothing c = false

-- the terminals that must not follow a part, since it could go on with them
abbrev goes_on : Part → Terminal → Bool
goes_on part.Type = goes_on_type
goes_on part.Operand = goes_on_name
goes_on part.Operation = goes_on_name
goes_on part.Expression = goes_on_expression
goes_on part.Initializer = goes_on_expression
goes_on part.Initial = goes_on_expression
goes_on part.Value = goes_on_expression
goes_on part.Annotation = is_paren
goes_on part.Parameter = or_equal
goes_on part.ParameterRest = goes_on_expression
goes_on part.Enumerator = or_equal
goes_on _ = nothing

abbrev begins : Part → Terminal → Bool
begins x c = is_some (row x c)

-- the terminals that must not follow what is expected
unfoldable pub refuses : Expected → Terminal → Bool
refuses (Token wanted) c = false
refuses (Once x) c = goes_on x c
refuses (Maybe x) c = goes_on x c || begins x c
refuses (Many x) c = goes_on x c || begins x c
refuses (Commas x) c = goes_on x c || is_comma c
refuses (MaybeListed x) c = goes_on x c || (begins x c || is_comma c)
refuses (CommasTrailing x) c = goes_on x c || (begins x c || is_comma c)
refuses (MaybeTrailing x) c = goes_on x c || (begins x c || is_comma c)

-- what is expected somewhere
unfoldable pub proper : Expected → Bool
proper (Token wanted) = true
proper (Once x) = true
proper (Maybe part.Package) = true
proper (Maybe part.Parameters) = true
proper (Maybe part.ParameterRest) = true
proper (Maybe part.Element) = true
proper (Maybe part.Array) = true
proper (Maybe part.Initial) = true
proper (Maybe part.Value) = true
proper (Maybe part.Id) = true
proper (Maybe x) = false
proper (Many part.Import) = true
proper (Many part.DotName) = true
proper (Many part.Annotation) = true
proper (Many part.Member) = true
proper (Many part.InterfaceMember) = true
proper (Many part.Operation) = true
proper (Many x) = false
proper (Commas part.Parameter) = true
proper (Commas part.Argument) = true
proper (Commas x) = false
proper (MaybeListed part.Parameter) = true
proper (MaybeListed part.Argument) = true
proper (MaybeListed x) = false
proper (CommasTrailing part.Expression) = true
proper (CommasTrailing part.Enumerator) = true
proper (CommasTrailing x) = false
proper (MaybeTrailing part.Expression) = true
proper (MaybeTrailing part.Enumerator) = true
proper (MaybeTrailing x) = false

abbrev pub terminals : List Terminal
terminals = terminal.Name ∷ terminal.Number ∷ terminal.Literal ∷ terminal.Package ∷ terminal.Import ∷ terminal.Interface ∷ terminal.Parcelable ∷ terminal.Union ∷ terminal.Enum ∷ terminal.Const
    ∷ terminal.Oneway ∷ terminal.Way ∷ terminal.Void ∷ terminal.OpenBrace ∷ terminal.CloseBrace ∷ terminal.OpenParen ∷ terminal.CloseParen ∷ terminal.OpenBracket ∷ terminal.CloseBracket ∷ terminal.Less
    ∷ terminal.Greater ∷ terminal.Comma ∷ terminal.Semicolon ∷ terminal.Equal ∷ terminal.Dot ∷ terminal.At ∷ terminal.Sign ∷ terminal.PlusOrMinus ∷ terminal.Operator ∷ []

-- a terminal may come first: with it something of the list begins, or all of it may be left out and the terminal isn't one that must not follow
unfoldable pub may_begin : List Expected → (Terminal → Bool) → Terminal → Bool
may_begin [] refused c = not (refused c)
may_begin (e ∷ es) refused c = is_some (moves e c) || (skips e && may_begin es refused c)

unfoldable pub apart : Expected → List Expected → (Terminal → Bool) → Bool
apart e es refused = list_all (λ c. not (refuses e c && may_begin es refused c)) terminals

-- each of the list is expected somewhere, and what may come behind it isn't what must not follow it
unfoldable pub fits : List Expected → (Terminal → Bool) → Bool
fits [] refused = true
fits (e ∷ es) refused = proper e && (apart e es refused && fits es refused)

unfoldable pub fits_maybe : Option (List Expected) → (Terminal → Bool) → Bool
fits_maybe None refused = true
fits_maybe (Some es) refused = fits es refused

-- what may be left out isn't before a terminal with which it begins
unfoldable pub guards : Expected → Terminal → Bool
guards e c = not (skips e && is_some (moves e c)) || refuses e c

-- a row of the table is right
unfoldable pub right : Expected → Bool
right e = list_all (λ c. guards e c && fits_maybe (moves e c) (refuses e)) terminals
