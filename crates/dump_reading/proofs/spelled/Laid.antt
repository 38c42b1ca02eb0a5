-- Well laid pieces are cut into their tokens.
use Rattle.std.proofs.Common.{◌≡◌, ℕ, ◌+◌, Bool, true, false, not, ◌&&◌, List, [], ◌∷◌, ◌++◌, length, refl, sym, ap, ◌∙◌}
use Rattle.std.proofs.lemmas.Bool.{and_parts, or_parts}
use Rattle.std.proofs.lemmas.Bool.Decides.{nat_tests}
use Rattle.std.proofs.Common.{arith}
use Rattle.aidl_syntax.specs.declared.token.Symbol.{Symbol}
use Rattle.aidl_syntax.specs.declared.token.Symbol.TheVariants as mark
use Rattle.aidl_syntax.specs.declared.token.TokenKind.{TokenKind}
use Rattle.aidl_syntax.specs.declared.token.TokenKind.TheVariants as kind
use Rattle.aidl_base.specs.Identifiers.{is_letter, is_word_byte, begins}
use Rattle.aidl_base.specs.Reserved.{word_of}
use Rattle.aidl_syntax.specs.Forms.IsGap.{blank}
use Rattle.aidl_syntax.specs.Tokens.{Cut}
use Rattle.aidl_syntax.specs.Tokens.Cut.{here, gap, token as cut_token}
use Rattle.std.specs.Char.{is_ascii_digit}
use Rattle.std.specs.Fmt.{decimal}
use Rattle.api_dump.specs.Pieces.{Piece, number_text, suffix_text, mark_text}
use Rattle.dump_reading.proofs.spelled.Plain.{plain, spell, plain_text, tokens_at, is_second, begins_second, is_spelled, is_wordy, is_tail, joins, can_stand, laid}
use Rattle.api_dump.specs.Pieces.Piece.{space, newline, token}
use Rattle.dump_reading.proofs.spelled.Spelled.{Stops, is_token, decimal_digits, is_at_most, name_spelled, word_spelled}

letter_second : (b : ℕ) → is_letter b ≡ true → is_second b ≡ false
letter_second b e = grind (arith, nat_tests)

digit_second : (b : ℕ) → is_ascii_digit b ≡ true → is_second b ≡ false
digit_second b e = grind (arith, nat_tests)

begins_letter : (text rest : List ℕ) → begins is_letter text ≡ true → begins_second (text ++ rest) ≡ false
begins_letter [] rest e = cc
begins_letter (b ∷ text) rest e = letter_second b e

begins_digit : (text rest : List ℕ) → begins is_ascii_digit text ≡ true → begins_second (text ++ rest) ≡ false
begins_digit [] rest e = cc
begins_digit (b ∷ text) rest e = digit_second b e

-- what a symbol begins with
mark_head : (s : Symbol) → (b : ℕ) × (more : List ℕ) × (mark_text s ≡ b ∷ more) × (is_word_byte b ≡ false)
mark_head mark.OpenBrace = (123, [], refl, refl)
mark_head mark.CloseBrace = (125, [], refl, refl)
mark_head mark.OpenParen = (40, [], refl, refl)
mark_head mark.CloseParen = (41, [], refl, refl)
mark_head mark.OpenBracket = (91, [], refl, refl)
mark_head mark.CloseBracket = (93, [], refl, refl)
mark_head mark.Less = (60, [], refl, refl)
mark_head mark.Greater = (62, [], refl, refl)
mark_head mark.Comma = (44, [], refl, refl)
mark_head mark.Semicolon = (59, [], refl, refl)
mark_head mark.Equal = (61, [], refl, refl)
mark_head mark.Dot = (46, [], refl, refl)
mark_head mark.At = (64, [], refl, refl)
mark_head mark.Plus = (43, [], refl, refl)
mark_head mark.Minus = (45, [], refl, refl)
mark_head mark.Star = (42, [], refl, refl)
mark_head mark.Slash = (47, [], refl, refl)
mark_head mark.Percent = (37, [], refl, refl)
mark_head mark.And = (38, [], refl, refl)
mark_head mark.Or = (124, [], refl, refl)
mark_head mark.Caret = (94, [], refl, refl)
mark_head mark.Tilde = (126, [], refl, refl)
mark_head mark.Bang = (33, [], refl, refl)
mark_head mark.ShiftLeft = (60, 60 ∷ [], refl, refl)
mark_head mark.ShiftRight = (62, 62 ∷ [], refl, refl)
mark_head mark.LessEqual = (60, 61 ∷ [], refl, refl)
mark_head mark.GreaterEqual = (62, 61 ∷ [], refl, refl)
mark_head mark.EqualEqual = (61, 61 ∷ [], refl, refl)
mark_head mark.NotEqual = (33, 61 ∷ [], refl, refl)
mark_head mark.AndAnd = (38, 38 ∷ [], refl, refl)
mark_head mark.OrOr = (124, 124 ∷ [], refl, refl)

mark_no_word : (s : Symbol) (rest : List ℕ) → begins is_word_byte (mark_text s ++ rest) ≡ false
mark_no_word s rest = let h = mark_head s in ap (λ text. begins is_word_byte (text ++ rest)) h.2 ∙ h.3

-- a piece that is no word does not go on with one
no_word : (q : Piece) (rest : List ℕ) → is_wordy q ≡ false → begins is_word_byte (spell q ++ rest) ≡ false
unfolding plain
no_word space rest e = refl
no_word newline rest e = refl
no_word (token (kind.Name text)) rest e = cc
no_word (token (kind.Word w)) rest e = cc
no_word (token (kind.Number n hexadecimal long)) rest e = cc
no_word (token (kind.Character c)) rest e = refl
no_word (token (kind.Str text)) rest e = refl
no_word (token (kind.Mark s)) rest e = mark_no_word s rest

mark_begins : (s : Symbol) (rest : List ℕ) → begins_second (mark_text s) ≡ false → begins_second (mark_text s ++ rest) ≡ false
mark_begins s rest e = let h = mark_head s in ap (λ text. begins_second (text ++ rest)) h.2 ∙ sym (ap begins_second h.2) ∙ e

number_begins : (n : ℕ) (hexadecimal long : Bool) (rest : List ℕ) → is_spelled (kind.Number n hexadecimal long) ≡ true → begins_second ((number_text n hexadecimal ++ suffix_text long) ++ rest) ≡ false
number_begins n false long rest e = go (decimal n) (decimal_digits n (let le = is_at_most n _ e in omega arith)).some where
  go : (ds : List ℕ) → begins is_ascii_digit ds ≡ true → begins_second ((ds ++ suffix_text long) ++ rest) ≡ false
  go [] e = cc
  go (b ∷ ds) e = digit_second b e
number_begins n true long rest e = refl

-- a piece that is no second half does not go on with one
no_second : (q : Piece) (rest : List ℕ) → can_stand q ≡ true → is_tail q ≡ false → begins_second (spell q ++ rest) ≡ false
unfolding plain
no_second space rest c e = refl
no_second newline rest c e = refl
no_second (token (kind.Name text)) rest c e = begins_letter text rest (name_spelled text c).0
no_second (token (kind.Word w)) rest c e = begins_letter (word_of w) rest (word_spelled w).0
no_second (token (kind.Number n hexadecimal long)) rest c e = number_begins n hexadecimal long rest c
no_second (token (kind.Character x)) rest c e = refl
no_second (token (kind.Str text)) rest c e = refl
no_second (token (kind.Mark s)) rest c e = mark_begins s rest e

not_is : (x : Bool) → not x ≡ true → x ≡ false
not_is true e = cc
not_is false e = refl

stops : (k : TokenKind) (q : Piece) (rest : List ℕ) → can_stand q ≡ true → joins (token k) q ≡ false → Stops k (spell q ++ rest)
stops (kind.Name text) q rest c e = no_word q rest (or_parts (is_wordy q) false e).0
stops (kind.Word w) q rest c e = no_word q rest (or_parts (is_wordy q) false e).0
stops (kind.Number n hexadecimal long) q rest c e = no_word q rest (or_parts (is_wordy q) false e).0
stops (kind.Character x) q rest c e = tt
stops (kind.Str text) q rest c e = tt
stops (kind.Mark s) q rest c e = no_second q rest c e

ends : (k : TokenKind) → Stops k []
ends (kind.Name text) = refl
ends (kind.Word w) = refl
ends (kind.Number n hexadecimal long) = refl
ends (kind.Character x) = tt
ends (kind.Str text) = tt
ends (kind.Mark s) = refl

-- the first piece of laid ones can stand
pub first_stands : (q : Piece) (ps : List Piece) → laid (q ∷ ps) ≡ true → can_stand q ≡ true
first_stands q [] e = e
first_stands q (r ∷ ps) e = (and_parts _ _ e).0

pub next_stops : (k : TokenKind) (ps : List Piece) → laid (token k ∷ ps) ≡ true → Stops k (plain_text ps)
next_stops k [] e = ends k
next_stops k (q ∷ ps) e =
    let a = and_parts (can_stand (token k)) (not (joins (token k) q) && laid (q ∷ ps)) e in
    let b = and_parts (not (joins (token k) q)) (laid (q ∷ ps)) a.1 in
    stops k q (plain_text ps) (first_stands q ps b.1) (not_is _ b.0)

pub laid_rest : (p : Piece) (ps : List Piece) → laid (p ∷ ps) ≡ true → laid ps ≡ true
laid_rest p [] e = refl
laid_rest p (q ∷ ps) e = (and_parts (not (joins p q)) (laid (q ∷ ps)) (and_parts (can_stand p) (not (joins p q) && laid (q ∷ ps)) e).1).1

pub cut_laid : (at : ℕ) (ps : List Piece) → laid ps ≡ true → (end : ℕ) × Cut at (plain_text ps) (tokens_at at ps) end []
cut_laid at [] e = (at, here at [])
cut_laid at (space ∷ ps) e = let r = cut_laid (at + 1) ps (laid_rest space ps e) in (r.0, gap at (32 ∷ []) (plain_text ps) (tokens_at (at + 1) ps) r.0 [] (blank 32 refl refl) r.1)
cut_laid at (newline ∷ ps) e = let r = cut_laid (at + 1) ps (laid_rest newline ps e) in (r.0, gap at (10 ∷ []) (plain_text ps) (tokens_at (at + 1) ps) r.0 [] (blank 10 refl refl) r.1)
cut_laid at (token k ∷ ps) e =
    let r = cut_laid (at + length (plain k)) ps (laid_rest (token k) ps e) in
    (r.0, cut_token (record { kind = k; offset = at }) (plain k) (plain_text ps) (tokens_at (at + length (plain k)) ps) r.0 [] (is_token k (plain_text ps) (first_stands (token k) ps e) (next_stops k ps e)) r.1)

-- laid pieces behind laid pieces, where the seam holds
abbrev pub loose : List Piece → Bool
loose [] = true
loose (p ∷ ps) = not (is_wordy p) && not (is_tail p)
