-- The symbols (AOSP, "AIDL language", as far as the profile goes).
use Rattle.std.specs.Prelude.{ℕ, ◌&&◌, if◌then◌else◌, ◌==◌, List, [], ◌∷◌, Option, Some, None}
use Rattle.aidl_syntax.specs.declared.token.Symbol.{Symbol}
use Rattle.aidl_syntax.specs.declared.token.Symbol.TheVariants as mark

-- the symbols of one byte, by its code
abbrev pub singles : List (ℕ × Symbol)
singles =
    (123, mark.OpenBrace)  -- {
    ∷ (125, mark.CloseBrace)  -- }
    ∷ (40, mark.OpenParen)  -- (
    ∷ (41, mark.CloseParen)  -- )
    ∷ (91, mark.OpenBracket)  -- [
    ∷ (93, mark.CloseBracket)  -- ]
    ∷ (60, mark.Less)  -- <
    ∷ (62, mark.Greater)  -- >
    ∷ (44, mark.Comma)  -- ,
    ∷ (59, mark.Semicolon)  -- ;
    ∷ (61, mark.Equal)  -- =
    ∷ (46, mark.Dot)  -- .
    ∷ (64, mark.At)  -- @
    ∷ (43, mark.Plus)  -- +
    ∷ (45, mark.Minus)  -- -
    ∷ (42, mark.Star)  -- *
    ∷ (47, mark.Slash)  -- /
    ∷ (37, mark.Percent)  -- %
    ∷ (38, mark.And)  -- &
    ∷ (124, mark.Or)  -- |
    ∷ (94, mark.Caret)  -- ^
    ∷ (126, mark.Tilde)  -- ~
    ∷ (33, mark.Bang)  -- !
    ∷ []

-- the symbols of two bytes
abbrev pub doubles : List (ℕ × ℕ × Symbol)
doubles =
    (60, 60, mark.ShiftLeft)  -- <<
    ∷ (62, 62, mark.ShiftRight)  -- >>
    ∷ (60, 61, mark.LessEqual)  -- <=
    ∷ (62, 61, mark.GreaterEqual)  -- >=
    ∷ (61, 61, mark.EqualEqual)  -- ==
    ∷ (33, 61, mark.NotEqual)  -- !=
    ∷ (38, 38, mark.AndAnd)  -- &&
    ∷ (124, 124, mark.OrOr)  -- ||
    ∷ []

abbrev pub single_in : List (ℕ × Symbol) → ℕ → Option Symbol
single_in [] a = None
single_in (row ∷ rows) a = if a == row.0 then Some row.1 else single_in rows a

abbrev pub double_in : List (ℕ × ℕ × Symbol) → ℕ → ℕ → Option Symbol
double_in [] a b = None
double_in (row ∷ rows) a b = if a == row.0 && b == row.1 then Some row.2 else double_in rows a b

-- the symbol that a byte is
unfoldable pub single : ℕ → Option Symbol
single = single_in singles

-- the symbol that two bytes are
unfoldable pub double : ℕ → ℕ → Option Symbol
double = double_in doubles

-- the symbol of two bytes that stands at the front
abbrev pub double_at : List ℕ → Option Symbol
double_at [] = None
double_at (a ∷ []) = None
double_at (a ∷ b ∷ bytes) = double a b
