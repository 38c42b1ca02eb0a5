-- Rows of tokens and blanks, and how they are written (AOSP, "AIDL language", as far as the dump goes).
use Rattle.std.specs.Prelude.{ℕ, Bool, true, false, List, [], ◌∷◌, ◌++◌, codes}
use Rattle.std.specs.Fmt.{decimal, digits}
use Rattle.std.specs.List.{flat_map}
use Rattle.std.specs.Str.{encode_utf8_all}
use Rattle.aidl_base.specs.declared.name.Ident.{Ident}
use Rattle.aidl_base.specs.declared.reserved.Reserved.{Reserved}
use Rattle.aidl_base.specs.Reserved.{word_of}
use Rattle.aidl_syntax.specs.declared.token.Symbol.{Symbol}
use Rattle.aidl_syntax.specs.declared.token.Symbol.TheVariants as mark
use Rattle.aidl_syntax.specs.declared.token.TokenKind.{TokenKind}
use Rattle.aidl_syntax.specs.declared.token.TokenKind.TheVariants as kind

-- a space, a newline or a token
pub data Piece : Type 0 where
  space newline : Piece
  token : TokenKind → Piece

-- How tokens are written.

abbrev pub mark_text : Symbol → List ℕ
mark_text mark.OpenBrace = codes "{"
mark_text mark.CloseBrace = codes "}"
mark_text mark.OpenParen = codes "("
mark_text mark.CloseParen = codes ")"
mark_text mark.OpenBracket = codes "["
mark_text mark.CloseBracket = codes "]"
mark_text mark.Less = codes "<"
mark_text mark.Greater = codes ">"
mark_text mark.Comma = codes ","
mark_text mark.Semicolon = codes ";"
mark_text mark.Equal = codes "="
mark_text mark.Dot = codes "."
mark_text mark.At = codes "@"
mark_text mark.Plus = codes "+"
mark_text mark.Minus = codes "-"
mark_text mark.Star = codes "*"
mark_text mark.Slash = codes "/"
mark_text mark.Percent = codes "%"
mark_text mark.And = codes "&"
mark_text mark.Or = codes "|"
mark_text mark.Caret = codes "^"
mark_text mark.Tilde = codes "~"
mark_text mark.Bang = codes "!"
mark_text mark.ShiftLeft = codes "<<"
mark_text mark.ShiftRight = codes ">>"
mark_text mark.LessEqual = codes "<="
mark_text mark.GreaterEqual = codes ">="
mark_text mark.EqualEqual = codes "=="
mark_text mark.NotEqual = codes "!="
mark_text mark.AndAnd = codes "&&"
mark_text mark.OrOr = codes "||"

-- the suffix of a long number
abbrev pub suffix_text : Bool → List ℕ
suffix_text true = codes "L"
suffix_text false = []

-- decimal, or `0x` and hexadecimal digits in lower case
abbrev pub number_text : ℕ → Bool → List ℕ
number_text bits false = decimal bits
number_text bits true = 48 ∷ 120 ∷ digits 16 false bits

-- how a token is written; texts in UTF-8
unfoldable pub spelling : TokenKind → List ℕ
spelling (kind.Name text) = encode_utf8_all text
spelling (kind.Word w) = word_of w
spelling (kind.Number bits hexadecimal long) = number_text bits hexadecimal ++ suffix_text long
spelling (kind.Character c) = 39 ∷ encode_utf8_all (c ∷ []) ++ 39 ∷ []
spelling (kind.Str text) = 34 ∷ encode_utf8_all text ++ 34 ∷ []
spelling (kind.Mark s) = mark_text s

abbrev pub spell : Piece → List ℕ
spell space = 32 ∷ []
spell newline = 10 ∷ []
spell (token k) = spelling k

-- the bytes of pieces
abbrev pub text_of : List Piece → List ℕ
text_of [] = []
text_of (p ∷ ps) = spell p ++ text_of ps

-- Pieces by their names.

abbrev pub sign : Symbol → Piece
sign s = token (kind.Mark s)

abbrev pub reserved : Reserved → Piece
reserved w = token (kind.Word w)

abbrev pub name : Ident → Piece
name i = token (kind.Name i.0)

abbrev pub ident : List ℕ → Ident
ident text = record { 0 = text }

-- identifiers joined by dots
abbrev pub dotted : List Ident → List Piece
dotted [] = []
dotted (i ∷ is) = name i ∷ flat_map (λ j. sign mark.Dot ∷ name j ∷ []) is

-- items joined by `, `
abbrev pub joined : {X : Type 0} → (X → List Piece) → List X → List Piece
joined piece [] = []
joined piece (x ∷ xs) = piece x ++ flat_map (λ y. sign mark.Comma ∷ space ∷ piece y) xs
