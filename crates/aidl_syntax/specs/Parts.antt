-- What the signs of the productions mean. A form says which tokens stand for which value.
use Rattle.std.specs.Prelude.{◌≡◌, ℕ, List, [], ◌∷◌, ◌++◌, Option, Some, None}
use Rattle.aidl_base.specs.declared.reserved.Reserved.{Reserved}
use Rattle.aidl_syntax.specs.declared.token.Symbol.{Symbol}
use Rattle.aidl_syntax.specs.declared.token.Symbol.TheVariants as mark
use Rattle.aidl_syntax.specs.declared.token.TokenKind.{TokenKind}
use Rattle.aidl_syntax.specs.declared.token.TokenKind.TheVariants as kind
use Rattle.aidl_syntax.specs.declared.token.Token.{Token}

abbrev pub Form : Type 0 → Type 1
Form A = List Token → A → Type 0

-- one part, and then another
abbrev pub Then : {A B : Type 0} → Form A → Form B → Form (A × B)
Then P Q ts x = (front back : List Token) × (ts ≡ front ++ back) × P front x.0 × Q back x.1

-- [x]
abbrev pub Maybe : {A : Type 0} → Form A → Form (Option A)
Maybe P ts None = ts ≡ []
Maybe P ts (Some x) = P ts x

-- {x}
abbrev pub Many : {A : Type 0} → Form A → Form (List A)
Many P ts [] = ts ≡ []
Many P ts (x ∷ xs) = (front back : List Token) × (ts ≡ front ++ back) × P front x × Many P back xs

-- one token of a kind
abbrev pub Single : TokenKind → Form (Unit {0})
Single k ts u = (t : Token) × (ts ≡ t ∷ []) × (t.kind ≡ k)

-- a quoted symbol
abbrev pub Quoted : Symbol → Form (Unit {0})
Quoted s = Single (kind.Mark s)

-- a quoted reserved word
abbrev pub Worded : Reserved → Form (Unit {0})
Worded r = Single (kind.Word r)

-- a quoted symbol, and then a part
abbrev pub Behind : {A : Type 0} → Symbol → Form A → Form A
Behind s P ts x = Then (Quoted s) P ts (tt, x)

-- a part, and then a quoted symbol
abbrev pub Before : {A : Type 0} → Form A → Symbol → Form A
Before P s ts x = Then P (Quoted s) ts (x, tt)

-- x {"," x}
abbrev pub Listed : {A : Type 0} → Form A → Form (List A)
Listed P ts [] = ⊥
Listed P ts (x ∷ xs) = Then P (Many (Behind mark.Comma P)) ts (x, xs)

-- [x {"," x}]
abbrev pub MaybeListed : {A : Type 0} → Form A → Form (List A)
MaybeListed P ts [] = ts ≡ []
MaybeListed P ts (x ∷ xs) = Listed P ts (x ∷ xs)

-- x {"," x} [","]
abbrev pub Trailing : {A : Type 0} → Form A → Form (List A)
Trailing P ts xs = (comma : Option (Unit {0})) × Then (Listed P) (Maybe (Quoted mark.Comma)) ts (xs, comma)

-- [x {"," x} [","]]
abbrev pub MaybeTrailing : {A : Type 0} → Form A → Form (List A)
MaybeTrailing P ts [] = ts ≡ []
MaybeTrailing P ts (x ∷ xs) = Trailing P ts (x ∷ xs)

-- the offset of the first token
abbrev pub first : List Token → ℕ
first [] = 0
first (t ∷ ts) = t.offset
