-- The laws of lists between brackets, of initializers and of annotations.
use Rattle.std.proofs.Common.{◌⊎◌, inl, inr, ◌≡◌, ℕ, ◌≤◌, Bool, true, false, cond, not, List, [], ◌∷◌, ◌++◌, Some, None, refl, ap, subst, ◌∙◌, append_assoc}
use Rattle.std.proofs.lemmas.Bool.{and_parts}
use Rattle.aidl_syntax.specs.declared.token.Symbol.{Symbol}
use Rattle.aidl_syntax.specs.declared.token.Symbol.TheVariants as mark
use Rattle.aidl_syntax.specs.declared.token.TokenKind.{TokenKind}
use Rattle.aidl_syntax.specs.declared.token.TokenKind.TheVariants as kind
use Rattle.aidl_syntax.specs.declared.token.Token.{Token}
use Rattle.aidl_syntax.specs.Parts.{Form, Then, Maybe, Quoted, Behind, Listed, MaybeListed, Trailing, MaybeTrailing}
use Rattle.aidl_syntax.specs.Trees.{Expr}
use Rattle.aidl_syntax.specs.Trees.Expr.{literal, name, group, unary, binary}
use Rattle.aidl_syntax.specs.Productions.{IsOf, IsExpr, is_literal, is_sign, level}
use Rattle.expr_parser.specs.Reading.{Read, mark_of, ◌>>=◌}
use Rattle.aidl_parser.specs.steps.Parts.{same_symbol, is_symbol, begins, quoted, both, altered, alter, fore, maybe, listed}
use Rattle.aidl_parser.specs.steps.Inits.{goes_inside, trailing, maybe_trailing, maybe_listed}
use Rattle.expr_parser.proofs.lemmas.Told.{bind_some, pair_some, chosen}
use Rattle.expr_parser.proofs.lemmas.Found.{starts_name}
use Rattle.aidl_parser.proofs.productions.Laws.{IsTold, IsFound, Law, MayFollow, Begins, Starts, any, both_law, weaken, quoted_law, quoted_begins, behind_begins, unless, unless_from, maybe_law, listed_law, same_self, symbol_is}

-- How an expression begins.

abbrev pub opens : TokenKind → Bool
opens (kind.Name x) = true
opens (kind.Word r) = is_literal (kind.Word r)
opens (kind.Number b h l) = true
opens (kind.Character c) = true
opens (kind.Str x) = true
opens (kind.Mark mark.OpenParen) = true
opens (kind.Mark s) = is_sign s

-- what begins an expression closes and opens no braces
pub opens_apart : (k : TokenKind) → opens k ≡ true → (is_symbol mark.CloseBrace (mark_of k) ≡ false) × (is_symbol mark.CloseParen (mark_of k) ≡ false) × (is_symbol mark.OpenBrace (mark_of k) ≡ false)
unfolding same_symbol
opens_apart (kind.Name x) e = (refl, refl, refl)
opens_apart (kind.Word r) e = (refl, refl, refl)
opens_apart (kind.Number b h l) e = (refl, refl, refl)
opens_apart (kind.Character c) e = (refl, refl, refl)
opens_apart (kind.Str x) e = (refl, refl, refl)
opens_apart (kind.Mark mark.OpenParen) e = (refl, refl, refl)
opens_apart (kind.Mark mark.Plus) e = (refl, refl, refl)
opens_apart (kind.Mark mark.Minus) e = (refl, refl, refl)
opens_apart (kind.Mark mark.Tilde) e = (refl, refl, refl)
opens_apart (kind.Mark mark.Bang) e = (refl, refl, refl)
opens_apart (kind.Mark _) e = cc

literal_opens : (k : TokenKind) → is_literal k ≡ true → opens k ≡ true
literal_opens (kind.Name x) e = cc
literal_opens (kind.Word r) e = e
literal_opens (kind.Number b h l) e = refl
literal_opens (kind.Character c) e = refl
literal_opens (kind.Str x) e = refl
literal_opens (kind.Mark s) e = cc

sign_opens : (s : Symbol) → is_sign s ≡ true → opens (kind.Mark s) ≡ true
sign_opens mark.OpenParen e = cc
sign_opens _ e = e

abbrev pub Opened : List Token → Type 0
Opened ts = (t : Token) × (us : List Token) × (ts ≡ t ∷ us) × (opens t.kind ≡ true)

pub expr_opened : (e : Expr) (m : ℕ) (ts : List Token) → IsOf m ts e → Opened ts
expr_opened (literal o t) m ts (is, lit, o_is) = (t, [], is, literal_opens t.kind lit)
expr_opened (name o d) m ts (h, o_is) = let s = starts_name d.name.0 ts h.1 in (s.0, s.1, s.3, rw s.4 refl)
expr_opened (group o a) m ts (begin, close, inner, is, k, l, o_is, h) = (begin, inner ++ close ∷ [], is, rw k refl)
expr_opened (unary o op a) m ts (sign, inner, is, k, s, o_is, h) = (sign, inner, is, rw k (sign_opens op s))
expr_opened (binary o op a b) m ts (pos, le, left, right, sign, is, k, o_is, ha, hb) =
    let s = expr_opened a (level op) left ha in (s.0, s.1 ++ sign ∷ right, is ∙ ap (λ us. us ++ sign ∷ right) s.2, s.3)

pub expr_starts : Starts IsExpr
expr_starts ts e h = let s = expr_opened e 1 ts h in (s.0, s.1, s.2)

-- the test doesn't hold where the form stands
abbrev pub Avoids : {A : Type 0} → (List Token → A → Type 0) → (List Token → Bool) → Type 0
Avoids {A = A} P goes = (ts : List Token) (x : A) (rest : List Token) → P ts x → goes (ts ++ rest) ≡ false

pub expr_no_close : Avoids IsExpr (begins mark.CloseBrace)
expr_no_close ts e rest h = let s = expr_opened e 1 ts h in rw s.2 (opens_apart s.0.kind s.3).0

expr_no_paren : Avoids IsExpr (begins mark.CloseParen)
expr_no_paren ts e rest h = let s = expr_opened e 1 ts h in rw s.2 (opens_apart s.0.kind s.3).1

pub expr_no_open : Avoids IsExpr (begins mark.OpenBrace)
expr_no_open ts e rest h = let s = expr_opened e 1 ts h in rw s.2 (opens_apart s.0.kind s.3).2

-- Lists.

-- F allows the symbol
abbrev pub Allows : (List Token → Bool) → Symbol → Type 0
Allows F s = (t : Token) (us : List Token) → mark_of t.kind ≡ Some s → F (t ∷ us) ≡ true

pub begun : (s : Symbol) (F : List Token → Bool) → Allows F s → (rest : List Token) → begins s rest ≡ true → F rest ≡ true
begun s F f [] e = cc
begun s F f (t ∷ us) e = f t us (symbol_is s (mark_of t.kind) e)

inside_comma : (F : List Token → Bool) → Allows F mark.Comma → (rest : List Token) → goes_inside rest ≡ true → F rest ≡ true
inside_comma F f [] e = cc
inside_comma F f (t ∷ us) e = f t us (symbol_is mark.Comma (mark_of t.kind) (and_parts (is_symbol mark.Comma (mark_of t.kind)) (not (begins mark.CloseBrace us)) e).0)

inside_begins : {A : Type 0} (P : Form A) → Avoids P (begins mark.CloseBrace) → Begins (Behind mark.Comma P) goes_inside
inside_begins P apart ts x rest (front, back, is, (t, js, k), p) = rw (is, js, k, same_self mark.Comma, apart back x rest p) refl

close_no_inside : (rest : List Token) → begins mark.CloseBrace rest ≡ true → goes_inside rest ≡ false
unfolding same_symbol
close_no_inside [] e = cc
close_no_inside (t ∷ us) e = let h = symbol_is mark.CloseBrace (mark_of t.kind) e in rw h refl

close_no_comma : (rest : List Token) → begins mark.CloseBrace rest ≡ true → unless (begins mark.Comma) any rest ≡ true
unfolding same_symbol
close_no_comma [] e = cc
close_no_comma (t ∷ us) e = let h = symbol_is mark.CloseBrace (mark_of t.kind) e in rw h refl

paren_no_comma : (F : List Token → Bool) → Allows F mark.CloseParen → (rest : List Token) → begins mark.CloseParen rest ≡ true → unless (begins mark.Comma) F rest ≡ true
unfolding same_symbol
paren_no_comma F f [] e = cc
paren_no_comma F f (t ∷ us) e =
    let h = symbol_is mark.CloseParen (mark_of t.kind) e in
    let no : is_symbol mark.Comma (mark_of t.kind) ≡ false = rw h refl in
    unless_from (is_symbol mark.Comma (mark_of t.kind)) (F (t ∷ us)) no (f t us h)

-- x {"," x} [","] before "}"
pub trailing_law : {A : Type 0} (n m : ℕ) (r : List Token → Read A) (P : Form A) (F : List Token → Bool) → n ≤ m → Avoids P (begins mark.CloseBrace) → Allows F mark.Comma → Allows F mark.CloseBrace
    → Law n r P F → Law n (trailing m r) (Trailing P) (begins mark.CloseBrace)
unfolding trailing
trailing_law {A = A} n m r P F le apart comma close a = record { told = told; found = found } where
  items : Law n (listed m goes_inside r) (Listed P) (unless goes_inside F)
  items = listed_law n m goes_inside r P F le (inside_begins P apart) (inside_comma F comma) a

  last : Law n (maybe (begins mark.Comma) (quoted mark.Comma)) (Maybe (Quoted mark.Comma)) (begins mark.CloseBrace)
  last = weaken n (maybe (begins mark.Comma) (quoted mark.Comma)) (Maybe (Quoted mark.Comma)) (unless (begins mark.Comma) any) (begins mark.CloseBrace) close_no_comma
      (maybe_law n (begins mark.Comma) (quoted mark.Comma) (Quoted mark.Comma) any (quoted_begins mark.Comma) (quoted_law n mark.Comma any))

  seam : MayFollow (unless goes_inside F) (Maybe (Quoted mark.Comma)) (begins mark.CloseBrace)
  seam ts None rest e ok = rw e (unless_from (goes_inside rest) (F rest) (close_no_inside rest ok) (begun mark.CloseBrace F close rest ok))
  seam ts (Some u) rest (t, is, k) ok =
      rw (is) (unless_from (goes_inside (t ∷ rest)) (F (t ∷ rest)) (rw (k, same_self mark.Comma, ok) refl) (comma t rest (rw k refl)))

  whole : Law n (both (listed m goes_inside r) (maybe (begins mark.Comma) (quoted mark.Comma))) (Then (Listed P) (Maybe (Quoted mark.Comma))) (begins mark.CloseBrace)
  whole = both_law n (listed m goes_inside r) (maybe (begins mark.Comma) (quoted mark.Comma)) (Listed P) (Maybe (Quoted mark.Comma)) (unless goes_inside F) (begins mark.CloseBrace) items last seam

  told : IsTold (alter fore (both (listed m goes_inside r) (maybe (begins mark.Comma) (quoted mark.Comma)))) (Trailing P)
  told ts xs rest e =
      let b = bind_some (both (listed m goes_inside r) (maybe (begins mark.Comma) (quoted mark.Comma)) ts) (altered fore) (xs, rest) e in
      let f = whole.told ts b.0.0 b.0.1 b.1 in
      let p = pair_some {A = List A} b.0.0.0 xs b.0.1 rest b.2 in
      let h : Trailing P f.0 b.0.0.0 = (b.0.0.1, f.2) in
      (f.0, f.1 ∙ ap (λ us. f.0 ++ us) p.1, subst (Trailing P f.0) p.0 h)

  found : IsFound n (alter fore (both (listed m goes_inside r) (maybe (begins mark.Comma) (quoted mark.Comma)))) (Trailing P) (begins mark.CloseBrace)
  found ts xs rest len (c, h) ok = ap (λ z. z >>= altered fore) (whole.found ts (xs, c) rest len h ok)

listed_avoids : {A : Type 0} (P : Form A) (goes : List Token → Bool) → Avoids P goes → Avoids (Listed P) goes
listed_avoids P goes apart ts [] rest h = absurd h
listed_avoids P goes apart ts (x ∷ xs) rest (front, back, is, p, q) = rw (is, append_assoc) (apart front x (back ++ rest) p)

-- [x {"," x} [","]] before "}"
pub maybe_trailing_law : {A : Type 0} (n m : ℕ) (r : List Token → Read A) (P : Form A) (F : List Token → Bool) → n ≤ m → Avoids P (begins mark.CloseBrace) → Allows F mark.Comma → Allows F mark.CloseBrace
    → Law n r P F → Law n (maybe_trailing m r) (MaybeTrailing P) (begins mark.CloseBrace)
unfolding maybe_trailing
maybe_trailing_law {A = A} n m r P F le apart comma close a = record { told = told; found = found } where
  some : Law n (trailing m r) (Trailing P) (begins mark.CloseBrace)
  some = trailing_law n m r P F le apart comma close a

  of_some : (ts : List Token) (xs : List A) → Trailing P ts xs → MaybeTrailing P ts xs
  of_some ts [] (c, (front, back, is, p, q)) = absurd p
  of_some ts (x ∷ xs) h = h

  told : IsTold (λ ts. cond (begins mark.CloseBrace ts) (Some ([], ts)) (trailing m r ts)) (MaybeTrailing P)
  told ts xs rest e = go (chosen (begins mark.CloseBrace ts) (Some ([], ts)) (trailing m r ts) (Some (xs, rest)) e) where
    go : ((begins mark.CloseBrace ts ≡ true) × (◌≡◌ {A = Read (List A)} (Some ([], ts)) (Some (xs, rest)))) ⊎ ((begins mark.CloseBrace ts ≡ false) × (trailing m r ts ≡ Some (xs, rest))) → (front : List Token) × (ts ≡ front ++ rest) × MaybeTrailing P front xs
    go (inl (y, d)) = let p = pair_some {A = List A} [] xs ts rest d in ([], p.1, subst (MaybeTrailing P []) p.0 refl)
    go (inr (y, d)) = let f = some.told ts xs rest d in (f.0, f.1, of_some f.0 xs f.2)

  found : IsFound n (λ ts. cond (begins mark.CloseBrace ts) (Some ([], ts)) (trailing m r ts)) (MaybeTrailing P) (begins mark.CloseBrace)
  found ts [] rest len e ok = rw (e, ok) refl
  found ts (x ∷ xs) rest len (c, (front, back, is, p, q)) ok =
      let no : begins mark.CloseBrace (ts ++ rest) ≡ false = rw (is, append_assoc) (listed_avoids P (begins mark.CloseBrace) apart front (x ∷ xs) (back ++ rest) p) in
      rw no (some.found ts (x ∷ xs) rest len (c, (front, back, is, p, q)) ok)

-- [x {"," x}] before ")"
pub maybe_listed_law : {A : Type 0} (n m : ℕ) (r : List Token → Read A) (P : Form A) (F : List Token → Bool) → n ≤ m → Avoids P (begins mark.CloseParen) → Allows F mark.Comma → Allows F mark.CloseParen
    → Law n r P F → Law n (maybe_listed m r) (MaybeListed P) (begins mark.CloseParen)
unfolding maybe_listed
maybe_listed_law {A = A} n m r P F le apart comma close a = record { told = told; found = found } where
  some : Law n (listed m (begins mark.Comma) r) (Listed P) (unless (begins mark.Comma) F)
  some = listed_law n m (begins mark.Comma) r P F le (behind_begins mark.Comma P) (begun mark.Comma F comma) a

  of_some : (ts : List Token) (xs : List A) → Listed P ts xs → MaybeListed P ts xs
  of_some ts [] h = absurd h
  of_some ts (x ∷ xs) h = h

  told : IsTold (λ ts. cond (begins mark.CloseParen ts) (Some ([], ts)) (listed m (begins mark.Comma) r ts)) (MaybeListed P)
  told ts xs rest e = go (chosen (begins mark.CloseParen ts) (Some ([], ts)) (listed m (begins mark.Comma) r ts) (Some (xs, rest)) e) where
    go : ((begins mark.CloseParen ts ≡ true) × (◌≡◌ {A = Read (List A)} (Some ([], ts)) (Some (xs, rest)))) ⊎ ((begins mark.CloseParen ts ≡ false) × (listed m (begins mark.Comma) r ts ≡ Some (xs, rest))) → (front : List Token) × (ts ≡ front ++ rest) × MaybeListed P front xs
    go (inl (y, d)) = let p = pair_some {A = List A} [] xs ts rest d in ([], p.1, subst (MaybeListed P []) p.0 refl)
    go (inr (y, d)) = let f = some.told ts xs rest d in (f.0, f.1, of_some f.0 xs f.2)

  found : IsFound n (λ ts. cond (begins mark.CloseParen ts) (Some ([], ts)) (listed m (begins mark.Comma) r ts)) (MaybeListed P) (begins mark.CloseParen)
  found ts [] rest len e ok = rw (e, ok) refl
  found ts (x ∷ xs) rest len h ok =
      let no : begins mark.CloseParen (ts ++ rest) ≡ false = listed_avoids P (begins mark.CloseParen) apart ts (x ∷ xs) rest h in
      rw no (some.found ts (x ∷ xs) rest len h (paren_no_comma F close rest ok))
