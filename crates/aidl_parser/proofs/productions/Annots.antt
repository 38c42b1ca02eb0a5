-- The laws of initializers and annotations.
use Rattle.std.proofs.Common.{◌⊎◌, inl, inr, ◌≡◌, ℕ, suc, ◌+◌, ◌<◌, Bool, true, false, cond, not, List, [], ◌∷◌, ◌++◌, Option, Some, None, is_some, refl, sym, ap, subst, ◌∙◌, arith}
use Rattle.std.specs.List.{list_all}
use Rattle.std.proofs.lemmas.Bool.{and_parts, and_from, and_right}
use Rattle.aidl_base.specs.declared.name.Ident.{Ident}
use Rattle.aidl_syntax.specs.declared.token.Symbol.{Symbol}
use Rattle.aidl_syntax.specs.declared.token.Symbol.TheVariants as mark
use Rattle.aidl_syntax.specs.declared.token.TokenKind.{TokenKind}
use Rattle.aidl_syntax.specs.declared.token.TokenKind.TheVariants as kind
use Rattle.aidl_syntax.specs.declared.token.Token.{Token}
use Rattle.aidl_syntax.specs.declared.tree.NameTree.{NameTree}
use Rattle.aidl_syntax.specs.Parts.{Form, Then, Maybe, Behind, Before, MaybeListed, MaybeTrailing, first}
use Rattle.aidl_syntax.specs.Trees.{Expr, Init, Param, Annot}
use Rattle.aidl_syntax.specs.Trees.Expr.{literal, name, group, unary, binary}
use Rattle.aidl_syntax.specs.Trees.Init.{single, braces}
use Rattle.aidl_syntax.specs.Productions as form
use Rattle.aidl_syntax.specs.Productions.{IsIdent, AreNames, IsDotted, IsOf, IsExpr, IsInit, IsParam, AreParams, IsAnnot, AreAnnots, is_literal, is_sign, level}
use Rattle.expr_parser.specs.Reading.{mark_of, name_of, ◌>>=◌}
use Rattle.aidl_parser.specs.steps.Parts.{same_symbol, is_symbol, begins, both, altered, alter, behind, upto, placed, maybe}
use Rattle.aidl_parser.specs.steps.Types.{ident}
use Rattle.aidl_parser.specs.steps.Inits.{expr_at, maybe_trailing, maybe_listed, braces_at, init_at, begins_named, param_made, param_at, params_at, annot_made, annot_at, annots_at}
use Rattle.expr_parser.proofs.lemmas.Told.{bind_some, pair_some, chosen}
use Rattle.aidl_parser.proofs.productions.Laws.{IsTold, IsFound, Law, MayFollow, Begins, Starts, any, both_law, weaken, placed_law, behind_law, behind_begins, behind_starts, upto_law, unless, unless_parts, maybe_law, many_law, same_self, symbol_is}
use Rattle.aidl_parser.proofs.productions.Types.{ident_law, expr_law, ends_expr}
use Rattle.aidl_parser.proofs.productions.Inits.{expr_opened, opens_apart, expr_starts, Avoids, Allows, expr_no_close, expr_no_open, maybe_trailing_law, maybe_listed_law}

pub comma_ends : Allows ends_expr mark.Comma
comma_ends t us k = rw k refl

pub brace_ends : Allows ends_expr mark.CloseBrace
brace_ends t us k = rw k refl

kept : (ts rest : List Token) → (t : Token) (us : List Token) → ts ≡ t ∷ us → first (ts ++ rest) ≡ first ts
kept ts rest t us e = rw e refl

-- init

abbrev InBraces : Form (List Expr)
InBraces = Behind mark.OpenBrace (Before (MaybeTrailing IsExpr) mark.CloseBrace)

braces_law : (n : ℕ) (F : List Token → Bool) → Law n (behind mark.OpenBrace (upto (maybe_trailing (suc n) (expr_at (suc n))) mark.CloseBrace)) InBraces F
braces_law n F =
    behind_law n mark.OpenBrace (upto (maybe_trailing (suc n) (expr_at (suc n))) mark.CloseBrace) (Before (MaybeTrailing IsExpr) mark.CloseBrace) F
    (upto_law n (maybe_trailing (suc n) (expr_at (suc n))) mark.CloseBrace (MaybeTrailing IsExpr) (begins mark.CloseBrace) F
    (maybe_trailing_law n (suc n) (expr_at (suc n)) IsExpr ends_expr (omega arith) expr_no_close comma_ends brace_ends (expr_law n))
    (λ t us k. rw (k, same_self mark.CloseBrace) refl))

pub init_law : (n : ℕ) → Law n (init_at (suc n)) IsInit ends_expr
unfolding init_at braces_at
init_law n = record { told = told; found = found } where
  told : IsTold (λ ts. cond (begins mark.OpenBrace ts) (placed braces (behind mark.OpenBrace (upto (maybe_trailing (suc n) (expr_at (suc n))) mark.CloseBrace)) ts) (alter single (expr_at (suc n)) ts)) IsInit
  told ts x rest e = go (chosen (begins mark.OpenBrace ts) (placed braces (behind mark.OpenBrace (upto (maybe_trailing (suc n) (expr_at (suc n))) mark.CloseBrace)) ts) (alter single (expr_at (suc n)) ts) (Some (x, rest)) e) where
    go : ((begins mark.OpenBrace ts ≡ true) × (placed braces (behind mark.OpenBrace (upto (maybe_trailing (suc n) (expr_at (suc n))) mark.CloseBrace)) ts ≡ Some (x, rest))) ⊎ ((begins mark.OpenBrace ts ≡ false) × (alter single (expr_at (suc n)) ts ≡ Some (x, rest)))
        → (front : List Token) × (ts ≡ front ++ rest) × IsInit front x
    go (inl (y, d)) =
        let b = bind_some (behind mark.OpenBrace (upto (maybe_trailing (suc n) (expr_at (suc n))) mark.CloseBrace) ts) (altered (braces (first ts))) (x, rest) d in
        let f = (braces_law n any).told ts b.0.0 b.0.1 b.1 in
        let p = pair_some {A = Init} (braces (first ts) b.0.0) x b.0.1 rest b.2 in
        let s = behind_starts mark.OpenBrace (Before (MaybeTrailing IsExpr) mark.CloseBrace) f.0 b.0.0 f.2 in
        let o : first ts ≡ first f.0 = ap first f.1 ∙ kept f.0 b.0.1 s.0 s.1 s.2 in
        (f.0, f.1 ∙ ap (λ us. f.0 ++ us) p.1, subst (IsInit f.0) p.0 (f.2, o))
    go (inr (y, d)) =
        let b = bind_some (expr_at (suc n) ts) (altered single) (x, rest) d in
        let f = (expr_law n).told ts b.0.0 b.0.1 b.1 in
        let p = pair_some {A = Init} (single b.0.0) x b.0.1 rest b.2 in
        (f.0, f.1 ∙ ap (λ us. f.0 ++ us) p.1, subst (IsInit f.0) p.0 f.2)

  found : IsFound n (λ ts. cond (begins mark.OpenBrace ts) (placed braces (behind mark.OpenBrace (upto (maybe_trailing (suc n) (expr_at (suc n))) mark.CloseBrace)) ts) (alter single (expr_at (suc n)) ts)) IsInit ends_expr
  found ts (single e) rest len h ok = rw (expr_no_open ts e rest h) (ap (λ z. z >>= altered single) ((expr_law n).found ts e rest len h ok))
  found ts (braces o es) rest len (h, o_is) ok =
      let s = behind_starts mark.OpenBrace (Before (MaybeTrailing IsExpr) mark.CloseBrace) ts es h in
      let f : first (ts ++ rest) ≡ o = kept ts rest s.0 s.1 s.2 ∙ sym o_is in
      rw (behind_begins mark.OpenBrace (Before (MaybeTrailing IsExpr) mark.CloseBrace) ts es rest h)
      (ap (λ z. z >>= altered (braces (first (ts ++ rest)))) ((braces_law n any).found ts es rest len h refl) ∙ ap (λ k. Some (braces k es, rest)) f)

init_starts : Starts IsInit
init_starts ts (single e) h = expr_starts ts e h
init_starts ts (braces o es) (h, o_is) = behind_starts mark.OpenBrace (Before (MaybeTrailing IsExpr) mark.CloseBrace) ts es h

-- No token of an expression is `=`.

abbrev no_equal : Token → Bool
no_equal t = not (is_symbol mark.Equal (mark_of t.kind))

all_append : (ts us : List Token) → list_all no_equal ts ≡ true → list_all no_equal us ≡ true → list_all no_equal (ts ++ us) ≡ true
all_append [] us e f = f
all_append (t ∷ ts) us e f = let p = and_parts (no_equal t) (list_all no_equal ts) e in and_from _ _ p.0 (all_append ts us p.1 f)

literal_apart : (k : TokenKind) → is_literal k ≡ true → mark_of k ≡ None
literal_apart (kind.Name x) e = refl
literal_apart (kind.Word r) e = refl
literal_apart (kind.Number n h l) e = refl
literal_apart (kind.Character c) e = refl
literal_apart (kind.Str x) e = refl
literal_apart (kind.Mark s) e = cc

sign_apart : (s : Symbol) → is_sign s ≡ true → is_symbol mark.Equal (Some s) ≡ false
unfolding same_symbol
sign_apart mark.Equal e = cc
sign_apart _ e = refl

level_apart : (s : Symbol) → 0 < level s → is_symbol mark.Equal (Some s) ≡ false
unfolding same_symbol
level_apart mark.Equal e = absurd (omega arith)
level_apart _ e = refl

names_apart : (is : List Ident) (ts : List Token) → AreNames ts is → list_all no_equal ts ≡ true
unfolding same_symbol
names_apart [] ts h = absurd h
names_apart (i ∷ []) ts (t, e, k) = rw (e, k) refl
names_apart (i ∷ j ∷ js) ts (t, dot, more, e, k, d, h) = rw (e, k, d) (names_apart (j ∷ js) more h)

close_apart : (t : Token) → t.kind ≡ kind.Mark mark.CloseParen → list_all no_equal (t ∷ []) ≡ true
unfolding same_symbol
close_apart t k = rw k refl

expr_apart : (e : Expr) (m : ℕ) (ts : List Token) → IsOf m ts e → list_all no_equal ts ≡ true
unfolding same_symbol
expr_apart (literal o t) m ts (is, lit, o_is) = rw (is, literal_apart t.kind lit) refl
expr_apart (name o d) m ts (h, o_is) = names_apart d.name.0 ts h.1
expr_apart (group o a) m ts (begin, close, inner, is, k, l, o_is, h) = rw (is, k) (all_append inner (close ∷ []) (expr_apart a 1 inner h) (close_apart close l))
expr_apart (unary o op a) m ts (sign, inner, is, k, s, o_is, h) = rw (is, k, sign_apart op s) (expr_apart a 11 inner h)
expr_apart (binary o op a b) m ts (pos, le, left, right, sign, is, k, o_is, ha, hb) =
    rw is (all_append left (sign ∷ right) (expr_apart a (level op) left ha) (rw (k, level_apart op pos) (expr_apart b (level op + 1) right hb)))

-- param

-- what may follow an initializer or a parameter
abbrev pub ends_param : List Token → Bool
ends_param rest = unless (begins mark.Equal) ends_expr rest

param_ends : (rest : List Token) → ends_param rest ≡ true → (begins mark.Equal rest ≡ false) × (ends_expr rest ≡ true)
param_ends rest ok = unless_parts (begins mark.Equal rest) (ends_expr rest) ok

named_begins : Begins (Before IsIdent mark.Equal) begins_named
named_begins ts x rest (front, back, is, (t, js, k, o), (u, ks, l)) = rw (is, js, ks, k, l, same_self mark.Equal) refl

not_is : (v : Bool) → not v ≡ true → v ≡ false
not_is false e = refl
not_is true e = cc

second_apart : (us rest : List Token) → list_all no_equal us ≡ true → begins mark.Equal rest ≡ false → begins mark.Equal (us ++ rest) ≡ false
second_apart [] rest e f = f
second_apart (u ∷ us) rest e f = not_is (is_symbol mark.Equal (mark_of u.kind)) (and_parts (no_equal u) (list_all no_equal us) e).0

init_unnamed : MayFollow (unless begins_named any) IsInit ends_param
init_unnamed ts (single e) rest h ok =
    let s = expr_opened e 1 ts h in
    let all : list_all no_equal (s.0 ∷ s.1) ≡ true = subst (λ us. list_all no_equal us ≡ true) s.2 (expr_apart e 1 ts h) in
    let b : begins mark.Equal (s.1 ++ rest) ≡ false = second_apart s.1 rest (and_parts (no_equal s.0) (list_all no_equal s.1) all).1 (param_ends rest ok).0 in
    rw (s.2, b, and_right (is_some (name_of s.0.kind)) false refl) refl
init_unnamed ts (braces o es) rest ((front, back, is, (t, js, k), p), o_is) ok = rw (is, js, k) refl

param_starts : Starts (Then (Maybe (Before IsIdent mark.Equal)) IsInit)
param_starts ts (None, i) (front, back, is, e, h) = let s = init_starts back i h in (s.0, s.1, is ∙ ap (λ us. us ++ back) e ∙ s.2)
param_starts ts (Some n, i) (front, back, is, (f, g, js, (t, ks, k, o), q), h) = (t, g ++ back, is ∙ ap (λ us. us ++ back) (js ∙ ap (λ us. us ++ g) ks))

pub param_law : (n : ℕ) → Law n (param_at (suc n)) IsParam ends_param
unfolding param_at
param_law n =
    placed_law n param_made (λ p. (p.name, p.value)) (λ p. p.offset) (both (maybe begins_named (upto ident mark.Equal)) (init_at (suc n))) (Then (Maybe (Before IsIdent mark.Equal)) IsInit) ends_param
    (λ o x. refl) (λ o x. refl) (λ y. refl) param_starts
    (both_law n (maybe begins_named (upto ident mark.Equal)) (init_at (suc n)) (Maybe (Before IsIdent mark.Equal)) IsInit (unless begins_named any) ends_param
    (maybe_law n begins_named (upto ident mark.Equal) (Before IsIdent mark.Equal) any named_begins (upto_law n ident mark.Equal IsIdent any any (ident_law n any) (λ t us k. refl)))
    (weaken n (init_at (suc n)) IsInit ends_expr ends_param (λ rest ok. (param_ends rest ok).1) (init_law n))
    init_unnamed)

init_no_paren : Avoids IsInit (begins mark.CloseParen)
unfolding same_symbol
init_no_paren ts (single e) rest h = let s = expr_opened e 1 ts h in rw s.2 (opens_apart s.0.kind s.3).1
init_no_paren ts (braces o es) rest ((front, back, is, (t, js, k), p), o_is) = rw (is, js, k) refl

param_no_paren : Avoids IsParam (begins mark.CloseParen)
param_no_paren ts p rest (h, o) = go p.name h where
  go : (i : Option NameTree) → Then (Maybe (Before IsIdent mark.Equal)) IsInit ts (i, p.value) → begins mark.CloseParen (ts ++ rest) ≡ false
  go None (front, back, is, e, h) = rw (is, e) (init_no_paren back p.value rest h)
  go (Some n) (front, back, is, (f, g, js, (t, ks, k, o), q), h) = rw (is, js, ks, k) refl

comma_param : Allows ends_param mark.Comma
unfolding same_symbol
comma_param t us k = rw k refl

paren_param : Allows ends_param mark.CloseParen
unfolding same_symbol
paren_param t us k = rw k refl

pub params_law : (n : ℕ) (F : List Token → Bool) → Law n (params_at (suc n)) AreParams F
unfolding params_at
params_law n F =
    behind_law n mark.OpenParen (upto (maybe_listed (suc n) (param_at (suc n))) mark.CloseParen) (Before (MaybeListed IsParam) mark.CloseParen) F
    (upto_law n (maybe_listed (suc n) (param_at (suc n))) mark.CloseParen (MaybeListed IsParam) (begins mark.CloseParen) F
    (maybe_listed_law n (suc n) (param_at (suc n)) IsParam ends_param (omega arith) param_no_paren comma_param paren_param (param_law n))
    (λ t us k. rw (k, same_self mark.CloseParen) refl))

-- annots

abbrev Annotation : Form (NameTree × Option (List Param))
Annotation = Behind mark.At (Then IsIdent (Maybe AreParams))

annotation_law : (n : ℕ) → Law n (behind mark.At (both ident (maybe (begins mark.OpenParen) (params_at (suc n))))) Annotation (unless (begins mark.OpenParen) any)
annotation_law n =
    behind_law n mark.At (both ident (maybe (begins mark.OpenParen) (params_at (suc n)))) (Then IsIdent (Maybe AreParams)) (unless (begins mark.OpenParen) any)
    (both_law n ident (maybe (begins mark.OpenParen) (params_at (suc n))) IsIdent (Maybe AreParams) any (unless (begins mark.OpenParen) any) (ident_law n any)
    (maybe_law n (begins mark.OpenParen) (params_at (suc n)) AreParams any (behind_begins mark.OpenParen (Before (MaybeListed IsParam) mark.CloseParen)) (params_law n any))
    (λ ts y rest q ok. refl))

annot_starts : Starts IsAnnot
annot_starts ts a (params, h, p, o) = behind_starts mark.At (Then IsIdent (Maybe AreParams)) ts (a.name, params) h

annot_begins : Begins IsAnnot (begins mark.At)
annot_begins ts a rest (params, h, p, o) = behind_begins mark.At (Then IsIdent (Maybe AreParams)) ts (a.name, params) rest h

annot_law : (n : ℕ) → Law n (annot_at (suc n)) IsAnnot (unless (begins mark.OpenParen) any)
unfolding annot_at
annot_law n = record { told = told; found = found } where
  told : IsTold (placed annot_made (behind mark.At (both ident (maybe (begins mark.OpenParen) (params_at (suc n)))))) IsAnnot
  told ts y rest e =
      let b = bind_some (behind mark.At (both ident (maybe (begins mark.OpenParen) (params_at (suc n)))) ts) (altered (annot_made (first ts))) (y, rest) e in
      let h = (annotation_law n).told ts b.0.0 b.0.1 b.1 in
      let p = pair_some {A = Annot} (annot_made (first ts) b.0.0) y b.0.1 rest b.2 in
      let s = behind_starts mark.At (Then IsIdent (Maybe AreParams)) h.0 b.0.0 h.2 in
      let o : first ts ≡ first h.0 = ap first h.1 ∙ kept h.0 b.0.1 s.0 s.1 s.2 in
      let w : IsAnnot h.0 (annot_made (first ts) b.0.0) = (b.0.0.1, h.2, refl, o) in
      (h.0, h.1 ∙ ap (λ us. h.0 ++ us) p.1, subst (IsAnnot h.0) p.0 w)

  found : IsFound n (placed annot_made (behind mark.At (both ident (maybe (begins mark.OpenParen) (params_at (suc n)))))) IsAnnot (unless (begins mark.OpenParen) any)
  found ts y rest len (params, h, p, o) ok =
      let s = behind_starts mark.At (Then IsIdent (Maybe AreParams)) ts (y.name, params) h in
      let f : first (ts ++ rest) ≡ y.offset = kept ts rest s.0 s.1 s.2 ∙ sym o in
      ap (λ z. z >>= altered (annot_made (first (ts ++ rest)))) ((annotation_law n).found ts (y.name, params) rest len h ok)
      ∙ ap (λ k. Some ((let a : Annot = record { offset = k; name = y.name; params = form.listed params } in a), rest)) f
      ∙ ap (λ ps. Some ((let a : Annot = record { offset = y.offset; name = y.name; params = ps } in a), rest)) (sym p)

-- what may follow annotations
abbrev pub no_annot : List Token → Bool
no_annot rest = unless (begins mark.At) (unless (begins mark.OpenParen) any) rest

at_allowed : (rest : List Token) → begins mark.At rest ≡ true → unless (begins mark.OpenParen) any rest ≡ true
unfolding same_symbol
at_allowed [] e = cc
at_allowed (t ∷ us) e = let h = symbol_is mark.At (mark_of t.kind) e in rw h refl

pub annots_law : (n : ℕ) → Law n (annots_at (suc n)) AreAnnots no_annot
unfolding annots_at
annots_law n = many_law n (suc n) (begins mark.At) (annot_at (suc n)) IsAnnot (unless (begins mark.OpenParen) any) (omega arith) annot_begins annot_starts at_allowed (annot_law n)
