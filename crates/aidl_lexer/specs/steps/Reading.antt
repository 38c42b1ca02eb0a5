-- Cutting bytes into tokens as a function on lists, one definition for each function of the code.
use Rattle.std.specs.Prelude.{◌<◌, ◌≤◌, ◌+◌, ◌-◌, ℕ, zero, suc, Bool, true, false, ◌&&◌, ◌||◌, if◌then◌else◌, ◌==◌}
use Rattle.std.specs.Prelude.{nat_le, nat_lt, List, [], ◌∷◌, ◌++◌, length, take, drop, Option, Some, None, Result}
use Rattle.std.specs.Prelude.{Ok, Err}
use Rattle.std.specs.Char.{is_ascii_digit, is_ascii_hexdigit}
use Rattle.std.specs.List.{prefix_len}
use Rattle.aidl_base.specs.declared.reserved.Reserved.{Reserved}
use Rattle.aidl_syntax.specs.declared.token.Symbol.{Symbol}
use Rattle.aidl_syntax.specs.declared.token.Symbol.TheVariants as mark
use Rattle.aidl_syntax.specs.declared.token.Token.{Token}
use Rattle.aidl_syntax.specs.declared.token.TokenKind.{TokenKind}
use Rattle.aidl_syntax.specs.declared.token.TokenKind.TheVariants as kind
use Rattle.aidl_base.specs.Blanks.{is_blank}
use Rattle.aidl_syntax.specs.Bytes.{is_inside, is_no_newline}
use Rattle.aidl_base.specs.Identifiers.{is_letter, is_word_byte, begins}
use Rattle.aidl_syntax.specs.Tables.{double_at, single}
use Rattle.aidl_base.specs.Reserved.{reserved_of}
use Rattle.aidl_syntax.specs.Numbers.{value_from}
use Rattle.aidl_lexer.specs.declared.fault.FaultKind.TheVariants as reason
use Rattle.aidl_lexer.specs.declared.fronts.Front.{Front}
use Rattle.aidl_lexer.specs.declared.fronts.Front.TheVariants as front
use Rattle.aidl_lexer.specs.Naming.{fault_number}

-- words

abbrev pub by_reserved : Option Reserved → List ℕ → Front
by_reserved (Some word) text = front.Token (kind.Word word) (length text)
by_reserved None text = front.Token (kind.Name text) (length text)

abbrev pub word_by : List ℕ → Front
word_by text = by_reserved (reserved_of text) text

unfoldable pub word_at : List ℕ → Front
word_at bytes = word_by (take (prefix_len is_word_byte bytes) bytes)

-- numbers

-- a number, where it is at most the limit
abbrev pub up_to : ℕ → ℕ → Option ℕ
up_to most n = if nat_le n most then Some n else None

-- a value that is no more than that of a signed number of 64 bits
abbrev pub long_of : Option ℕ → Option ℕ
long_of (Some n) = up_to 9223372036854775807 n
long_of None = None

-- whether the suffix stands
abbrev pub suffix_of : List ℕ → Option Bool
suffix_of [] = Some false
suffix_of (b ∷ []) = if b == 76 || b == 108 then Some true else None
suffix_of (b ∷ c ∷ bytes) = None

abbrev pub decimal_of : List ℕ → Option ℕ
decimal_of body = if begins (λ b. b == 48) body && nat_lt 1 (length body) then None
    else long_of (up_to 18446744073709551615 (value_from 10 0 body))

abbrev pub hexadecimal_of : List ℕ → Option ℕ
hexadecimal_of digits = if nat_lt 0 (length digits) then up_to 18446744073709551615 (value_from 16 0 digits) else None

abbrev pub numeral : Bool → Option ℕ → Option Bool → Option TokenKind
numeral hexadecimal (Some bits) (Some long) = Some (kind.Number bits hexadecimal long)
numeral hexadecimal (Some bits) None = None
numeral hexadecimal None suffix = None

unfoldable pub decimal_by : List ℕ → Option TokenKind
decimal_by text = numeral false (decimal_of (take (prefix_len is_ascii_digit text) text))
    (suffix_of (drop (prefix_len is_ascii_digit text) text))

-- of what follows `0x`
unfoldable pub hexadecimal_by : List ℕ → Option TokenKind
hexadecimal_by text = numeral true (hexadecimal_of (take (prefix_len is_ascii_hexdigit text) text))
    (suffix_of (drop (prefix_len is_ascii_hexdigit text) text))

abbrev pub is_hexadecimal : ℕ → ℕ → Bool
is_hexadecimal a x = a == 48 && (x == 120 || x == 88)

abbrev pub numeral_of : List ℕ → Option TokenKind
numeral_of [] = decimal_by []
numeral_of (a ∷ []) = decimal_by (a ∷ [])
numeral_of (a ∷ x ∷ text) = if is_hexadecimal a x then hexadecimal_by text else decimal_by (a ∷ x ∷ text)

abbrev pub by_numeral : Option TokenKind → ℕ → Front
by_numeral (Some number) n = front.Token number n
by_numeral None n = front.Fault reason.BadNumber

abbrev pub number_by : List ℕ → Front
number_by text = by_numeral (numeral_of text) (length text)

unfoldable pub number_at : List ℕ → Front
number_at bytes = number_by (take (prefix_len is_word_byte bytes) bytes)

-- literals, of what follows the first quote

unfoldable pub character_at : List ℕ → Front
character_at [] = front.Fault reason.OpenLiteral
character_at (c ∷ bytes) = if is_inside 39 c && begins (λ b. b == 39) bytes then front.Token (kind.Character c) 3
    else front.Fault reason.OpenLiteral

unfoldable pub string_at : List ℕ → Front
string_at bytes = let n = prefix_len (is_inside 34) bytes in
    if begins (λ b. b == 34) (drop n bytes) then front.Token (kind.Str (take n bytes)) (n + 2)
    else front.Fault reason.OpenLiteral

-- comments

abbrev pub up_by : ℕ → Option ℕ → Option ℕ
up_by k None = None
up_by k (Some n) = Some (n + k)

-- the length up to and with the first `*/`
abbrev pub close_len : List ℕ → Option ℕ
close_len [] = None
close_len (b ∷ bytes) = if b == 42 && begins (λ c. c == 47) bytes then Some 2 else up_by 1 (close_len bytes)

abbrev pub by_close : Option ℕ → Front
by_close None = front.Fault reason.OpenComment
by_close (Some n) = front.Gap (n + 2)

-- symbols

abbrev pub by_single : Option Symbol → Front
by_single None = front.Fault reason.BadByte
by_single (Some symbol) = front.Token (kind.Mark symbol) 1

abbrev pub by_double : Option Symbol → ℕ → Front
by_double None a = by_single (single a)
by_double (Some symbol) a = front.Token (kind.Mark symbol) 2

unfoldable pub symbol_at : List ℕ → Front
symbol_at [] = front.Fault reason.BadByte
symbol_at (a ∷ bytes) = by_double (double_at (a ∷ bytes)) a

-- a comment or the symbol `/`, of what follows it: no symbol of two bytes begins so
unfoldable pub slash_at : List ℕ → Front
slash_at bytes =
    if begins (λ c. c == 47) bytes then front.Gap (2 + prefix_len is_no_newline (drop 1 bytes))
    else (if begins (λ c. c == 42) bytes then by_close (close_len (drop 1 bytes))
    else front.Token (kind.Mark mark.Slash) 1)

-- what stands at the front, by its first byte
unfoldable pub front_of : List ℕ → Front
front_of [] = front.Fault reason.BadByte
front_of (b ∷ bytes) =
    if is_blank b then front.Gap 1
    else (if is_letter b then word_at (b ∷ bytes)
    else (if is_ascii_digit b then number_at (b ∷ bytes)
    else (if b == 39 then character_at bytes
    else (if b == 34 then string_at bytes
    else (if b == 47 then slash_at bytes
    else symbol_at (b ∷ bytes))))))

-- a front that is no fault has a byte, and lies within so many
abbrev pub Moves : Front → ℕ → Type 0
Moves (front.Gap n) len = (0 < n) × (n ≤ len)
Moves (front.Token k n) len = (0 < n) × (n ≤ len)
Moves (front.Fault e) len = Unit {0}

-- the whole

abbrev pub onto : Token → Result (List Token) (ℕ × ℕ) → Result (List Token) (ℕ × ℕ)
onto t (Ok tokens) = Ok (t ∷ tokens)
onto t (Err e) = Err e

abbrev pub by_front : ℕ → Front → (ℕ → Result (List Token) (ℕ × ℕ)) → Result (List Token) (ℕ × ℕ)
by_front offset (front.Gap n) go = go n
by_front offset (front.Token k n) go = onto (record { kind = k; offset = offset }) (go n)
by_front offset (front.Fault e) go = Err (fault_number e, offset)

-- the tokens from an offset on, once some bytes are passed; or the first fault's number and offset
unfoldable pub lex_of : ℕ → ℕ → List ℕ → Result (List Token) (ℕ × ℕ)
lex_of skip offset [] = Ok []
lex_of (suc k) offset (b ∷ bytes) = lex_of k (offset + 1) bytes
lex_of zero offset (b ∷ bytes) = by_front offset (front_of (b ∷ bytes)) (λ n. lex_of (n - 1) (offset + 1) bytes)

-- tokens, and then what is read behind them
abbrev pub with_front : List Token → Result (List Token) (ℕ × ℕ) → Result (List Token) (ℕ × ℕ)
with_front front (Ok tokens) = Ok (front ++ tokens)
with_front front (Err e) = Err e
