-- Readers of the signs of the productions.
use Rattle.std.specs.Prelude.{ℕ, zero, suc, Bool, false, if◌then◌else◌, List, [], ◌∷◌, ◌++◌, Option, Some, None}
use denote.Enum.Bare.{sameb}
use Rattle.aidl_syntax.specs.contracts.token.Symbol as symbols
use Rattle.aidl_base.specs.contracts.reserved.Reserved as words
use Rattle.aidl_syntax.specs.declared.token.Symbol.{Symbol}
use Rattle.aidl_syntax.specs.declared.token.Symbol.TheVariants as mark
use Rattle.aidl_base.specs.declared.reserved.Reserved.{Reserved}
use Rattle.aidl_syntax.specs.declared.token.TokenKind.{TokenKind}
use Rattle.aidl_syntax.specs.declared.token.TokenKind.TheVariants as kind
use Rattle.aidl_syntax.specs.declared.token.Token.{Token}
use Rattle.aidl_syntax.specs.Parts.{first}
use Rattle.expr_parser.specs.Reading.{Read, mark_of, ◌>>=◌}

unfoldable pub same_symbol : Symbol → Symbol → Bool
same_symbol = sameb symbols.the_type

unfoldable pub same_word : Reserved → Reserved → Bool
same_word = sameb words.the_type

abbrev pub is_symbol : Symbol → Option Symbol → Bool
is_symbol s None = false
is_symbol s (Some t) = same_symbol t s

-- the reserved word that a token is
abbrev pub word_of : TokenKind → Option Reserved
word_of (kind.Word r) = Some r
word_of (kind.Name x) = None
word_of (kind.Number n h l) = None
word_of (kind.Character c) = None
word_of (kind.Str x) = None
word_of (kind.Mark s) = None

abbrev pub is_reserved : Reserved → Option Reserved → Bool
is_reserved r None = false
is_reserved r (Some w) = same_word w r

-- the symbol stands first
abbrev pub begins : Symbol → List Token → Bool
begins s [] = false
begins s (t ∷ ts) = is_symbol s (mark_of t.kind)

-- the reserved word stands first
abbrev pub begins_word : Reserved → List Token → Bool
begins_word r [] = false
begins_word r (t ∷ ts) = is_reserved r (word_of t.kind)

abbrev pub quoted : Symbol → List Token → Read (Unit {0})
quoted s [] = None
quoted s (t ∷ ts) = if is_symbol s (mark_of t.kind) then Some (tt, ts) else None

abbrev pub worded : Reserved → List Token → Read (Unit {0})
worded r [] = None
worded r (t ∷ ts) = if is_reserved r (word_of t.kind) then Some (tt, ts) else None

abbrev pub before : {A B : Type 0} → A → B × List Token → Read (A × B)
before a b = Some ((a, b.0), b.1)

abbrev pub then_at : {A B : Type 0} → (List Token → Read B) → A × List Token → Read (A × B)
then_at s a = s a.1 >>= before a.0

-- one part, and then another
abbrev pub both : {A B : Type 0} → (List Token → Read A) → (List Token → Read B) → List Token → Read (A × B)
both r s ts = r ts >>= then_at s

abbrev pub altered : {A B : Type 0} → (A → B) → A × List Token → Read B
altered f x = Some (f x.0, x.1)

-- a part, seen otherwise
abbrev pub alter : {A B : Type 0} → (A → B) → (List Token → Read A) → List Token → Read B
alter f r ts = r ts >>= altered f

-- the second of two
abbrev pub second : {A B : Type 0} → A × B → B
second x = x.1

-- a quoted symbol, and then a part
abbrev pub behind : {A : Type 0} → Symbol → (List Token → Read A) → List Token → Read A
behind s r = alter second (both (quoted s) r)

-- the first of two
abbrev pub fore : {A B : Type 0} → A × B → A
fore x = x.0

-- a part, and then a quoted symbol
abbrev pub upto : {A : Type 0} → (List Token → Read A) → Symbol → List Token → Read A
upto r s = alter fore (both r (quoted s))

-- a part, with the offset of its first token
abbrev pub placed : {A B : Type 0} → (ℕ → A → B) → (List Token → Read A) → List Token → Read B
placed make r ts = alter (make (first ts)) r ts

abbrev pub as_some : {A : Type 0} → A → Option A
as_some x = Some x

-- [x], where a test says that x stands there
abbrev pub maybe : {A : Type 0} → (List Token → Bool) → (List Token → Read A) → List Token → Read (Option A)
maybe goes r ts = if goes ts then alter as_some r ts else Some (None, ts)

abbrev pub ahead : {A : Type 0} → A → List A × List Token → Read (List A)
ahead a b = Some (a ∷ b.0, b.1)

abbrev pub more_at : {A : Type 0} → (List Token → Read (List A)) → A × List Token → Read (List A)
more_at m a = m a.1 >>= ahead a.0

-- {x}, at most n times, as long as a test says that one more stands there
abbrev pub many : {A : Type 0} → ℕ → (List Token → Bool) → (List Token → Read A) → List Token → Read (List A)
many zero goes r ts = if goes ts then None else Some ([], ts)
many (suc n) goes r ts = if goes ts then r ts >>= more_at (many n goes r) else Some ([], ts)

-- items that were read before
abbrev pub with_items : {A : Type 0} → List A → Read (List A) → Read (List A)
with_items items None = None
with_items items (Some r) = Some (items ++ r.0, r.1)

-- x, and then {"," x}
abbrev pub listed : {A : Type 0} → ℕ → (List Token → Bool) → (List Token → Read A) → List Token → Read (List A)
listed n goes r ts = r ts >>= more_at (many n goes (behind mark.Comma r))
