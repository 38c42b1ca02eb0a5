-- Gaps and tokens, one definition a form. Each says that `piece` is of its form where `rest` follows it, and that
-- nothing longer at this place is (own, after the AOSP page "AIDL language").
use Rattle.std.specs.Prelude.{◌≡◌, ℕ, true, false, List, [], ◌∷◌, ◌++◌, Some, None, Bool}
use Rattle.std.specs.Char.{is_ascii_digit}
use Rattle.std.specs.List.{list_all}
use Rattle.aidl_base.specs.declared.reserved.Reserved.{Reserved}
use Rattle.aidl_syntax.specs.declared.token.Symbol.{Symbol}
use Rattle.aidl_syntax.specs.declared.token.TokenKind.{TokenKind}
use Rattle.aidl_syntax.specs.declared.token.TokenKind.TheVariants as kind
use Rattle.aidl_base.specs.Blanks.{is_blank}
use Rattle.aidl_syntax.specs.Bytes.{is_no_newline, is_inside, has_close, is_comment}
use Rattle.aidl_base.specs.Identifiers.{is_letter, is_word_byte, begins}
use Rattle.aidl_syntax.specs.Tables.{single, double, double_at}
use Rattle.aidl_base.specs.Reserved.{reserved_of}
use Rattle.aidl_syntax.specs.Numbers.{IsNumeral}

-- a blank or a comment
pub data IsGap (piece rest : List ℕ) : Type 0 where
  blank : (b : ℕ) → is_blank b ≡ true → piece ≡ b ∷ [] → IsGap piece rest
  -- `//` up to the first newline after it or the end of the file
  line : (text : List ℕ) → list_all is_no_newline text ≡ true → begins is_no_newline rest ≡ false
      → piece ≡ 47 ∷ 47 ∷ text → IsGap piece rest
  -- `/*` up to the first `*/` after it: none stands in the text, nor across its end
  block : (text : List ℕ) → has_close (text ++ 42 ∷ []) ≡ false
      → piece ≡ 47 ∷ 42 ∷ text ++ 42 ∷ 47 ∷ [] → IsGap piece rest

-- a letter or `_`, then letters, digits and `_`, as many as there are
abbrev pub IsWord : List ℕ → List ℕ → Type 0
IsWord piece rest = (begins is_letter piece ≡ true) × (list_all is_word_byte piece ≡ true)
    × (begins is_word_byte rest ≡ false)

-- an identifier: a word that isn't reserved
abbrev pub IsName : List ℕ → List ℕ → List ℕ → Type 0
IsName text piece rest = IsWord piece rest × (reserved_of piece ≡ None) × (text ≡ piece)

-- a reserved word
abbrev pub IsReserved : Reserved → List ℕ → List ℕ → Type 0
IsReserved word piece rest = IsWord piece rest × (reserved_of piece ≡ Some word)

-- the letters, digits and `_` from a digit on, as many as there are
abbrev pub IsDigitRun : List ℕ → List ℕ → Type 0
IsDigitRun piece rest = (begins is_ascii_digit piece ≡ true) × (list_all is_word_byte piece ≡ true)
    × (begins is_word_byte rest ≡ false)

-- a number: such a run, of one of the forms
abbrev pub IsNumber : ℕ → Bool → Bool → List ℕ → List ℕ → Type 0
IsNumber bits hexadecimal long piece rest = IsDigitRun piece rest × IsNumeral piece bits hexadecimal long

-- a character between apostrophes
abbrev pub IsCharacter : ℕ → List ℕ → Type 0
IsCharacter c piece = (is_inside 39 c ≡ true) × (piece ≡ 39 ∷ c ∷ 39 ∷ [])

-- a string between double quotes
abbrev pub IsString : List ℕ → List ℕ → Type 0
IsString text piece = (list_all (is_inside 34) text ≡ true) × (piece ≡ 34 ∷ text ++ 34 ∷ [])

-- a symbol: of two bytes, or else of one where no comment begins
pub data IsSymbol (symbol : Symbol) (piece rest : List ℕ) : Type 0 where
  of_two : (a b : ℕ) → double a b ≡ Some symbol → piece ≡ a ∷ b ∷ [] → IsSymbol symbol piece rest
  of_one : (a : ℕ) → single a ≡ Some symbol → double_at (a ∷ rest) ≡ None → is_comment (a ∷ rest) ≡ false
      → piece ≡ a ∷ [] → IsSymbol symbol piece rest

-- a token of the kind
abbrev pub IsToken : TokenKind → List ℕ → List ℕ → Type 0
IsToken (kind.Name text) piece rest = IsName text piece rest
IsToken (kind.Word word) piece rest = IsReserved word piece rest
IsToken (kind.Number bits hexadecimal long) piece rest = IsNumber bits hexadecimal long piece rest
IsToken (kind.Character c) piece rest = IsCharacter c piece
IsToken (kind.Str text) piece rest = IsString text piece
IsToken (kind.Mark symbol) piece rest = IsSymbol symbol piece rest
