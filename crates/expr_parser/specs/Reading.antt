-- Parsing as functions on lists of tokens. Each reads a front, and gives what it stands for and the tokens after it.
use Rattle.std.specs.Prelude.{◌≡◌, ◌+◌, ℕ, zero, suc, Bool, true, false, ◌&&◌, if◌then◌else◌, nat_le, nat_lt, List}
use Rattle.std.specs.Prelude.{[], ◌∷◌, ◌++◌, Option, Some, None}
use denote.Ref.{Bor}
use Rattle.aidl_base.specs.declared.name.Ident.{Ident}
use Rattle.aidl_syntax.specs.declared.token.Symbol.{Symbol}
use Rattle.aidl_syntax.specs.declared.token.Symbol.TheVariants as mark
use Rattle.aidl_syntax.specs.declared.token.TokenKind.{TokenKind}
use Rattle.aidl_syntax.specs.declared.token.TokenKind.TheVariants as kind
use Rattle.aidl_syntax.specs.declared.token.Token.{Token}
use Rattle.aidl_syntax.specs.declared.tree.DottedTree.{DottedTree}
use Rattle.aidl_syntax.specs.Trees.{Expr, offset_of}
use Rattle.aidl_syntax.specs.Trees.Expr.{literal, name, group, unary, binary}
use Rattle.aidl_syntax.specs.Parts.{first}
use Rattle.aidl_syntax.specs.Productions.{is_literal, is_sign, level}

-- the token is the symbol
abbrev pub IsMark : Symbol → Token → Type 0
IsMark s t = t.kind ≡ kind.Mark s

abbrev pub Read : Type 0 → Type 0
Read A = Option (A × List Token)

infixl 10 ◌>>=◌
abbrev pub ◌>>=◌ : {A B : Type 0} → Option A → (A → Option B) → Option B
(Some x) >>= f = f x
None >>= f = None

-- the symbol that a token is
abbrev pub mark_of : TokenKind → Option Symbol
mark_of (kind.Mark s) = Some s
mark_of (kind.Name x) = None
mark_of (kind.Word r) = None
mark_of (kind.Number n h l) = None
mark_of (kind.Character c) = None
mark_of (kind.Str x) = None

abbrev pub name_of : TokenKind → Option Ident
name_of (kind.Mark s) = None
name_of (kind.Name x) = Some (record { 0 = x })
name_of (kind.Word r) = None
name_of (kind.Number n h l) = None
name_of (kind.Character c) = None
name_of (kind.Str x) = None

abbrev pub is_dot : Option Symbol → Bool
is_dot (Some mark.Dot) = true
is_dot (Some _) = false
is_dot None = false

abbrev pub is_close : Option Symbol → Bool
is_close (Some mark.CloseParen) = true
is_close (Some _) = false
is_close None = false

abbrev pub onto : Ident → Read (List Ident) → Read (List Ident)
onto i None = None
onto i (Some r) = Some (i ∷ r.0, r.1)

abbrev pub onto_name : Option Ident → Read (List Ident) → Read (List Ident)
onto_name None r = None
onto_name (Some i) r = onto i r

-- identifiers joined by dots; at the start, or after a dot, an identifier is due
unfoldable pub names : Bool → List Token → Read (List Ident)
names true [] = None
names true (t ∷ ts) = onto_name (name_of t.kind) (names false ts)
names false [] = Some ([], [])
names false (t ∷ ts) = if is_dot (mark_of t.kind) then names true ts else Some ([], t ∷ ts)

unfoldable pub dotted : List Token → Read DottedTree
dotted ts = do
  is ← names true ts
  let tree : DottedTree = record { offset = first ts; name = record { 0 = is.0 } } in Some (tree, is.1)

abbrev pub by_name : List Token → Read Expr
by_name ts = do
  d ← dotted ts
  Some (name (first ts) d.0, d.1)

abbrev pub closed : ℕ → Expr → List Token → Read Expr
closed o a [] = None
closed o a (t ∷ ts) = if is_close (mark_of t.kind) then Some (group o a, ts) else None

abbrev pub is_open : Symbol → Bool
is_open mark.OpenParen = true
is_open _ = false

abbrev pub by_symbol : (ℕ → List Token → Read Expr) → ℕ → Symbol → List Token → Read Expr
by_symbol rec o s ts = if is_open s then (do
  a ← rec 1 ts
  closed o a.0 a.1) else (if is_sign s then (do
    a ← rec 11 ts
    Some (unary o s a.0, a.1)) else None)

abbrev pub by_mark : (ℕ → List Token → Read Expr) → Token → Option Symbol → List Token → Read Expr
by_mark rec t (Some s) ts = by_symbol rec t.offset s ts
by_mark rec t None ts = if is_literal t.kind then Some (literal t.offset t, ts) else by_name (t ∷ ts)

-- a unary expression
unfoldable pub operand : (ℕ → List Token → Read Expr) → List Token → Read Expr
operand rec [] = None
operand rec (t ∷ ts) = by_mark rec t (mark_of t.kind) ts

-- the level of the binary operator that a token is, or 0
abbrev pub level_by : Option Symbol → ℕ
level_by (Some s) = level s
level_by None = 0

abbrev pub goes_on : ℕ → ℕ → Bool
goes_on least l = nat_lt 0 l && nat_le least l

-- what a symbol gives, where one is there
abbrev pub with_sign : {A : Type 0} → Option Symbol → (Symbol → Option A) → Option A
with_sign (Some s) f = f s
with_sign None f = None

-- binary operators of a level or above, with their right parts
unfoldable pub climb : (ℕ → List Token → Read Expr) → ℕ → ℕ → Expr → List Token → Read Expr
climb rec n least a [] = Some (a, [])
climb rec zero least a (t ∷ ts) = if goes_on least (level_by (mark_of t.kind)) then None else Some (a, t ∷ ts)
climb rec (suc n) least a (t ∷ ts) = if goes_on least (level_by (mark_of t.kind)) then (do
  b ← rec (level_by (mark_of t.kind) + 1) ts
  with_sign (mark_of t.kind) (λ s. climb rec n least (binary (offset_of a) s a b.0) b.1)) else Some (a, t ∷ ts)

unfoldable pub expr : ℕ → ℕ → List Token → Read Expr
expr zero least ts = None
expr (suc n) least ts = do
  a ← operand (λ k us. expr n k us) ts
  climb (λ k us. expr n k us) n least a.0 a.1

-- identifiers that were read before
abbrev pub with_names : List Ident → Read (List Ident) → Read (List Ident)
with_names front None = None
with_names front (Some r) = Some (front ++ r.0, r.1)

abbrev pub after_dot : List Token → Option (List Token)
after_dot [] = None
after_dot (t ∷ ts) = if is_dot (mark_of t.kind) then Some ts else None

-- what a borrowed value is
abbrev pub option_now : {A : Type 0} → Option (Bor A) → Option A
option_now None = None
option_now (Some x) = Some x.now
