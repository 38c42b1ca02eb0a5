-- The laws of names, expressions and types.
use Rattle.std.proofs.Common.{◌⊎◌, inl, inr, ◌≡◌, ℕ, suc, Bool, true, false, ◌&&◌, ◌==◌, List, [], ◌∷◌, ◌++◌, Option, Some, None, refl, sym, ap, subst, ◌∙◌, arith}
use Rattle.std.proofs.lemmas.Bool.{and_parts}
use Rattle.std.proofs.lemmas.Bool.Decides.{nat_tests}
use Rattle.aidl_base.specs.declared.name.Ident.{Ident}
use Rattle.aidl_syntax.specs.declared.token.Symbol.TheVariants as mark
use Rattle.aidl_syntax.specs.declared.token.TokenKind.TheVariants as kind
use Rattle.aidl_syntax.specs.declared.token.Token.{Token}
use Rattle.aidl_syntax.specs.declared.tree.NameTree.{NameTree}
use Rattle.aidl_syntax.specs.declared.tree.DottedTree.{DottedTree}
use Rattle.aidl_syntax.specs.Parts.{Form, Then, Maybe, Quoted, Behind, Before, first}
use Rattle.aidl_syntax.specs.Productions.{IsIdent, IsDotted, IsExpr, IsArray, IsType}
use Rattle.expr_parser.specs.Reading.{Read, name_of, names, dotted, ◌>>=◌}
use Rattle.aidl_parser.specs.steps.Parts.{same_symbol, begins, quoted, both, altered, alter, upto, maybe}
use Rattle.aidl_parser.specs.steps.Types.{ident_by, ident, element, as_true, array, typed, type_at}
use Rattle.aidl_parser.specs.steps.Inits.{expr_at}
use Rattle.expr_parser.proofs.lemmas.Told.{bind_some, pair_some, chosen, is_name, names_told, expr_told}
use Rattle.expr_parser.proofs.lemmas.Found.{no_dot, next_level, names_found, starts_name, first_kept, expr_found}
use Rattle.aidl_parser.proofs.productions.Laws.{IsTold, IsFound, Law, MayFollow, Starts, any, both_law, weaken, placed_law, quoted_law, behind_law, behind_begins, upto_law, then_starts, unless, unless_parts, maybe_law}

-- ident

ident_told : IsTold ident IsIdent
ident_told [] n rest e = cc
ident_told (t ∷ ts) n rest e = go (name_of t.kind) refl e where
  go : (o : Option Ident) → name_of t.kind ≡ o → ident_by o t ts ≡ Some (n, rest) → (front : List Token) × (t ∷ ts ≡ front ++ rest) × IsIdent front n
  go None k e = cc
  go (Some i) k e =
      let p = pair_some (let m : NameTree = record { offset = t.offset; name = i } in m) n ts rest e in
      (t ∷ [], ap (λ us. t ∷ us) p.1, (t, refl, is_name t.kind i k ∙ ap (λ m. kind.Name m.name.0) p.0, ap (λ m. m.offset) (sym p.0)))

pub ident_law : (n : ℕ) (F : List Token → Bool) → Law n ident IsIdent F
ident_law n F = record { told = ident_told; found = found } where
  found : IsFound n ident IsIdent F
  found ts m rest len (t, is, k, o) ok = rw (is, k) (ap (λ x. Some ((let y : NameTree = record { offset = x; name = m.name } in y), rest)) (sym o))

pub ident_starts : Starts IsIdent
ident_starts ts n (t, is, k, o) = (t, [], is)

-- dotted

dotted_told : IsTold dotted IsDotted
unfolding dotted
dotted_told ts d rest r =
    let n = bind_some (names true ts) (λ is. let tree : DottedTree = record { offset = first ts; name = record { 0 = is.0 } } in Some (tree, is.1)) (d, rest) r in
    let f = names_told ts n.0.0 n.0.1 n.1 in
    let p = pair_some (let tree : DottedTree = record { offset = first ts; name = record { 0 = n.0.0 } } in tree) d n.0.1 rest n.2 in
    let s = starts_name n.0.0 f.0 f.2 in
    let o : first ts ≡ first f.0 = ap first f.1 ∙ first_kept s.0 s.1 f.0 n.0.1 s.3 in
    (f.0, f.1 ∙ ap (λ x. f.0 ++ x) p.1, subst (IsDotted f.0) p.0 (o, f.2))

pub dotted_law : (n : ℕ) → Law n dotted IsDotted no_dot
unfolding dotted
dotted_law n = record { told = dotted_told; found = found } where
  found : IsFound n dotted IsDotted no_dot
  found ts d rest len h e =
      let s = starts_name d.name.0 ts h.1 in
      let f : first (ts ++ rest) ≡ first ts = first_kept s.0 s.1 ts rest s.3 in
      rw (names_found d.name.0 ts rest h.1 e, f) (ap (λ o. Some ((let x : DottedTree = record { offset = o; name = d.name } in x), rest)) (sym h.0))

pub dotted_starts : Starts IsDotted
dotted_starts ts d h = let s = starts_name d.name.0 ts h.1 in (s.0, s.1, s.3)

-- expr

-- what may follow an expression: no dot and no binary operator
abbrev pub ends_expr : List Token → Bool
ends_expr rest = no_dot rest && next_level rest == 0

is_zero : (n : ℕ) → (n == 0) ≡ true → n ≡ 0
is_zero n e = grind (arith, nat_tests)

pub expr_law : (n : ℕ) → Law n (expr_at (suc n)) IsExpr ends_expr
expr_law n = record { told = told; found = found } where
  told : IsTold (expr_at (suc n)) IsExpr
  told ts e rest r = let f = expr_told (suc n) 1 ts e rest (omega arith) (omega arith) r in (f.0, f.1, f.2)

  found : IsFound n (expr_at (suc n)) IsExpr ends_expr
  found ts e rest len h ok =
      let p = and_parts (no_dot rest) (next_level rest == 0) ok in
      expr_found e n ts rest h len p.0 (is_zero (next_level rest) p.1)

-- type

pub element_law : (n : ℕ) (F : List Token → Bool) → Law n element (Behind mark.Less (Before IsDotted mark.Greater)) F
unfolding element
element_law n F = behind_law n mark.Less (upto dotted mark.Greater) (Before IsDotted mark.Greater) F (upto_law n dotted mark.Greater IsDotted no_dot F (dotted_law n) (λ t us k. rw k refl))

array_told : IsTold array IsArray
unfolding array
array_told ts x rest r = go (chosen (begins mark.OpenBracket ts) (alter as_true (both (quoted mark.OpenBracket) (quoted mark.CloseBracket)) ts) (Some (false, ts)) (Some (x, rest)) r) where
  brackets : Law 0 (both (quoted mark.OpenBracket) (quoted mark.CloseBracket)) (Then (Quoted mark.OpenBracket) (Quoted mark.CloseBracket)) any
  brackets = both_law 0 (quoted mark.OpenBracket) (quoted mark.CloseBracket) (Quoted mark.OpenBracket) (Quoted mark.CloseBracket) any any (quoted_law 0 mark.OpenBracket any) (quoted_law 0 mark.CloseBracket any) (λ us u r q ok. refl)

  go : ((begins mark.OpenBracket ts ≡ true) × (alter as_true (both (quoted mark.OpenBracket) (quoted mark.CloseBracket)) ts ≡ Some (x, rest))) ⊎ ((begins mark.OpenBracket ts ≡ false) × (◌≡◌ {A = Read Bool} (Some (false, ts)) (Some (x, rest))))
      → (front : List Token) × (ts ≡ front ++ rest) × IsArray front x
  go (inl (y, d)) =
      let b = bind_some (both (quoted mark.OpenBracket) (quoted mark.CloseBracket) ts) (altered as_true) (x, rest) d in
      let f = brackets.told ts b.0.0 b.0.1 b.1 in
      let p = pair_some {A = Bool} true x b.0.1 rest b.2 in
      (f.0, f.1 ∙ ap (λ z. f.0 ++ z) p.1, subst (IsArray f.0) p.0 f.2)
  go (inr (y, d)) = let p = pair_some {A = Bool} false x ts rest d in ([], p.1, subst (IsArray []) p.0 refl)

array_law : (n : ℕ) → Law n array IsArray (unless (begins mark.OpenBracket) any)
unfolding array
array_law n = record { told = array_told; found = found } where
  brackets : Law n (both (quoted mark.OpenBracket) (quoted mark.CloseBracket)) (Then (Quoted mark.OpenBracket) (Quoted mark.CloseBracket)) any
  brackets = both_law n (quoted mark.OpenBracket) (quoted mark.CloseBracket) (Quoted mark.OpenBracket) (Quoted mark.CloseBracket) any any (quoted_law n mark.OpenBracket any) (quoted_law n mark.CloseBracket any) (λ us u r q ok. refl)

  found : IsFound n array IsArray (unless (begins mark.OpenBracket) any)
  found ts false rest len is ok = rw (is, (unless_parts (begins mark.OpenBracket rest) true ok).0) refl
  found ts true rest len h ok =
      let b : begins mark.OpenBracket (ts ++ rest) ≡ true = behind_begins mark.OpenBracket (Quoted mark.CloseBracket) ts tt rest h in
      rw b (ap (λ z. z >>= altered as_true) (brackets.found ts (tt, tt) rest len h refl))

-- what may follow a type
abbrev pub no_type : List Token → Bool
no_type rest = unless (begins mark.OpenBracket) (unless (begins mark.Less) no_dot) rest

type_parts : (rest : List Token) → no_type rest ≡ true → (begins mark.OpenBracket rest ≡ false) × (begins mark.Less rest ≡ false) × (no_dot rest ≡ true)
type_parts rest ok =
    let h = unless_parts (begins mark.OpenBracket rest) (unless (begins mark.Less) no_dot rest) ok in
    let g = unless_parts (begins mark.Less rest) (no_dot rest) h.1 in (h.0, g.0, g.1)

abbrev Element : Form DottedTree
Element = Behind mark.Less (Before IsDotted mark.Greater)

after_name : MayFollow no_dot (Then (Maybe Element) IsArray) no_type
after_name ts (None, false) rest (front, back, is, e, a) ok =
    let w : ts ++ rest ≡ rest = ap (λ us. us ++ rest) (is ∙ ap (λ us. us ++ back) e ∙ a) in
    ap no_dot w ∙ (type_parts rest ok).2
after_name ts (None, true) rest (front, back, is, e, (f, g, js, (t, ks, k), u)) ok = rw (is, e, js, ks, k) refl
after_name ts (Some d, b) rest (front, back, is, (f, g, js, (t, ks, k), u), a) ok = rw (is, js, ks, k) refl

after_element : MayFollow (unless (begins mark.Less) any) IsArray no_type
unfolding same_symbol
after_element ts false rest is ok = rw (is, (type_parts rest ok).1) refl
after_element ts true rest (f, g, js, (t, ks, k), u) ok = rw (js, ks, k) refl

weaker : (rest : List Token) → no_type rest ≡ true → unless (begins mark.OpenBracket) any rest ≡ true
weaker rest ok = rw (type_parts rest ok).0 refl

pub type_law : (n : ℕ) → Law n type_at IsType no_type
unfolding type_at
type_law n =
    placed_law n typed (λ t. (t.name, (t.element, t.array))) (λ t. t.offset) (both dotted (both (maybe (begins mark.Less) element) array)) (Then IsDotted (Then (Maybe Element) IsArray)) no_type
    (λ o x. refl) (λ o x. refl) (λ y. refl) (then_starts IsDotted (Then (Maybe Element) IsArray) dotted_starts)
    (both_law n dotted (both (maybe (begins mark.Less) element) array) IsDotted (Then (Maybe Element) IsArray) no_dot no_type (dotted_law n)
    (both_law n (maybe (begins mark.Less) element) array (Maybe Element) IsArray (unless (begins mark.Less) any) no_type
    (maybe_law n (begins mark.Less) element Element any (behind_begins mark.Less (Before IsDotted mark.Greater)) (element_law n any))
    (weaken n array IsArray (unless (begins mark.OpenBracket) any) no_type weaker (array_law n))
    after_element) after_name)

pub type_starts : Starts IsType
type_starts ts t (h, o) = then_starts IsDotted (Then (Maybe Element) IsArray) dotted_starts ts (t.name, (t.element, t.array)) h

-- an identifier may follow a type, a name or an expression's end doesn't go on with it
pub ident_follows : {B : Type 0} (Q : List Token → B → Type 0) (G : List Token → Bool) → MayFollow no_type (Then IsIdent Q) G
ident_follows Q G ts y rest (front, back, is, (t, js, k, o), q) ok = rw (is, js, k) refl
