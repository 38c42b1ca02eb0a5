-- Tokens written without UTF-8, which for all that a dump writes is the same, and which pieces may stand side by side.
use Rattle.std.specs.Prelude.{ℕ, ◌+◌, Bool, true, false, not, ◌&&◌, ◌||◌, ◌==◌, nat_le, List, [], ◌∷◌, ◌++◌, length}
use Rattle.std.specs.List.{list_all}
use Rattle.aidl_base.specs.Identifiers.{is_identifier}
use Rattle.aidl_base.specs.Reserved.{word_of}
use Rattle.aidl_syntax.specs.declared.token.TokenKind.{TokenKind}
use Rattle.aidl_syntax.specs.declared.token.TokenKind.TheVariants as kind
use Rattle.aidl_syntax.specs.declared.token.Token.{Token}
use Rattle.aidl_syntax.specs.Bytes.{is_inside}
use Rattle.api_dump.specs.Pieces.{Piece, number_text, suffix_text, mark_text}
use Rattle.api_dump.specs.Pieces.Piece.{space, newline, token}

unfoldable pub plain : TokenKind → List ℕ
plain (kind.Name text) = text
plain (kind.Word w) = word_of w
plain (kind.Number bits hexadecimal long) = number_text bits hexadecimal ++ suffix_text long
plain (kind.Character c) = 39 ∷ c ∷ 39 ∷ []
plain (kind.Str text) = 34 ∷ text ++ 34 ∷ []
plain (kind.Mark s) = mark_text s

abbrev pub spell : Piece → List ℕ
spell space = 32 ∷ []
spell newline = 10 ∷ []
spell (token k) = plain k

abbrev pub plain_text : List Piece → List ℕ
plain_text [] = []
plain_text (p ∷ ps) = spell p ++ plain_text ps

-- the tokens among pieces
abbrev pub kinds_of : List Piece → List TokenKind
kinds_of [] = []
kinds_of (space ∷ ps) = kinds_of ps
kinds_of (newline ∷ ps) = kinds_of ps
kinds_of (token k ∷ ps) = k ∷ kinds_of ps

-- the tokens of the text of pieces that begins at an offset
abbrev pub tokens_at : ℕ → List Piece → List Token
tokens_at at [] = []
tokens_at at (space ∷ ps) = tokens_at (at + 1) ps
tokens_at at (newline ∷ ps) = tokens_at (at + 1) ps
tokens_at at (token k ∷ ps) = record { kind = k; offset = at } ∷ tokens_at (at + length (plain k)) ps

-- Which pieces are spelled as themselves, and what may follow them.

abbrev pub is_spelled : TokenKind → Bool
is_spelled (kind.Name text) = is_identifier text
is_spelled (kind.Word w) = true
is_spelled (kind.Number bits false long) = nat_le bits 9223372036854775807
is_spelled (kind.Number bits true long) = bits == 9223372036854775808
is_spelled (kind.Character c) = is_inside 39 c
is_spelled (kind.Str text) = list_all (is_inside 34) text
is_spelled (kind.Mark s) = true

-- a piece of letters, digits and `_`
abbrev pub is_wordy : Piece → Bool
is_wordy (token (kind.Name text)) = true
is_wordy (token (kind.Word w)) = true
is_wordy (token (kind.Number bits hexadecimal long)) = true
is_wordy _ = false

abbrev pub is_mark : Piece → Bool
is_mark (token (kind.Mark s)) = true
is_mark _ = false

-- the second byte of a symbol of two bytes or of the begin of a comment
abbrev pub is_second : ℕ → Bool
is_second b = b == 60 || (b == 62 || (b == 61 || (b == 38 || (b == 124 || (b == 47 || b == 42)))))

abbrev pub begins_second : List ℕ → Bool
begins_second [] = false
begins_second (b ∷ bs) = is_second b

-- a symbol that might be the second half of another, or of the begin of a comment
abbrev pub is_tail : Piece → Bool
is_tail (token (kind.Mark s)) = begins_second (mark_text s)
is_tail _ = false

-- whether one piece right behind another runs into it
abbrev pub joins : Piece → Piece → Bool
joins p q = (is_wordy p && is_wordy q) || (is_mark p && is_tail q)

abbrev pub can_stand : Piece → Bool
can_stand space = true
can_stand newline = true
can_stand (token k) = is_spelled k

-- each piece can stand, and none runs into the next
abbrev pub laid : List Piece → Bool
laid [] = true
laid (p ∷ []) = can_stand p
laid (p ∷ q ∷ ps) = can_stand p && (not (joins p q) && laid (q ∷ ps))
