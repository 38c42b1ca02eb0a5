-- An expression by its productions is what reading gives, before tokens that can't go on with it.
use Rattle.std.proofs.Common.{◌≡◌, ℕ, zero, suc, ◌+◌, ◌-◌, ◌<◌, ◌≤◌, Bool, true, false, cond, List, [], ◌∷◌, ◌++◌, length, Option, Some, None, refl, sym, ap, ◌∙◌, arith, append_assoc, length-append}
use Rattle.std.proofs.lemmas.Bool.Decides.{nat_tests}
use Rattle.aidl_base.specs.declared.name.Ident.{Ident}
use Rattle.aidl_base.specs.declared.text.Text.{Text}
use Rattle.expr_parser.proofs.lemmas.Looping.{climb_more}
use Rattle.aidl_syntax.specs.declared.token.Symbol.{Symbol}
use Rattle.aidl_syntax.specs.declared.token.Symbol.TheVariants as mark
use Rattle.aidl_syntax.specs.declared.token.TokenKind.{TokenKind}
use Rattle.aidl_syntax.specs.declared.token.TokenKind.TheVariants as kind
use Rattle.aidl_syntax.specs.declared.token.Token.{Token}
use Rattle.aidl_syntax.specs.declared.tree.DottedTree.{DottedTree}
use Rattle.aidl_syntax.specs.Trees.{Expr, offset_of}
use Rattle.aidl_syntax.specs.Trees.Expr.{literal, name, group, unary, binary}
use Rattle.aidl_syntax.specs.Parts.{first}
use Rattle.expr_parser.specs.Reading.{IsMark}
use Rattle.aidl_syntax.specs.Productions.{AreNames, IsDotted, is_literal, is_sign, level, IsOf, IsExpr}
use Rattle.expr_parser.specs.Reading.{Read, mark_of, is_dot, is_open, names, dotted, by_name, operand, climb, expr, goes_on, level_by}

-- the first token isn't a dot
abbrev pub no_dot : List Token → Bool
no_dot [] = true
no_dot (t ∷ ts) = cond (is_dot (mark_of t.kind)) false true

-- the level of the binary operator that stands first, or 0
abbrev pub next_level : List Token → ℕ
next_level [] = 0
next_level (t ∷ ts) = level_by (mark_of t.kind)

-- the level of the operator of a tree, or more than any
abbrev pub root : Expr → ℕ
root (literal o t) = 11
root (name o d) = 11
root (group o a) = 11
root (unary o op a) = 11
root (binary o op a b) = level op

names_end : (ts : List Token) → no_dot ts ≡ true → names false ts ≡ Some ([], ts)
unfolding names
names_end [] e = refl
names_end (t ∷ ts) e = go (is_dot (mark_of t.kind)) refl e where
  go : (v : Bool) → is_dot (mark_of t.kind) ≡ v → cond v false true ≡ true → cond v (names true ts) (Some ([], t ∷ ts)) ≡ Some ([], t ∷ ts)
  go true v e = cc
  go false v e = refl

pub names_found : (is : List Ident) (ts rest : List Token) → AreNames ts is → no_dot rest ≡ true → names true (ts ++ rest) ≡ Some (is, rest)
unfolding names
names_found [] ts rest h e = absurd h
names_found (i ∷ []) ts rest (t, is, k) e = rw (is, k, names_end rest e) refl
names_found (i ∷ j ∷ js) ts rest (t, dot, more, is, k, d, h) e = rw (is, k, d, names_found (j ∷ js) more rest h e) refl

pub level_most : (s : Symbol) → level s ≤ 10
level_most mark.OrOr = omega arith
level_most _ = omega arith

pub next_most : (rest : List Token) → next_level rest ≤ 10
next_most [] = omega arith
next_most (t ∷ ts) = go (mark_of t.kind) where
  go : (s : Option Symbol) → level_by s ≤ 10
  go None = omega arith
  go (Some s) = level_most s

root_least : (e : Expr) (m : ℕ) (ts : List Token) → m ≤ 11 → IsOf m ts e → m ≤ root e
root_least (literal o t) m ts le h = le
root_least (name o d) m ts le h = le
root_least (group o a) m ts le h = le
root_least (unary o op a) m ts le h = le
root_least (binary o op a b) m ts le h = h.1

climb_stops : (rec : ℕ → List Token → Read Expr) (k least : ℕ) (e : Expr) (rest : List Token) → next_level rest < least → climb rec k least e rest ≡ Some (e, rest)
unfolding climb
climb_stops rec k least e [] lt = refl
climb_stops rec zero least e (t ∷ ts) lt =
    let g : goes_on least (level_by (mark_of t.kind)) ≡ false = grind (arith, nat_tests) in rw g refl
climb_stops rec (suc k) least e (t ∷ ts) lt =
    let g : goes_on least (level_by (mark_of t.kind)) ≡ false = grind (arith, nat_tests) in rw g refl

literal_mark : (k : TokenKind) → is_literal k ≡ true → mark_of k ≡ None
literal_mark (kind.Name x) e = refl
literal_mark (kind.Word r) e = refl
literal_mark (kind.Number n h l) e = refl
literal_mark (kind.Character c) e = refl
literal_mark (kind.Str x) e = refl
literal_mark (kind.Mark s) e = cc

sign_open : (s : Symbol) → is_sign s ≡ true → is_open s ≡ false
sign_open mark.OpenParen e = cc
sign_open _ e = refl

level_dot : (s : Symbol) → 0 < level s → is_dot (Some s) ≡ false
level_dot mark.Dot e = absurd (omega arith)
level_dot _ e = refl

first_front : (t : Token) (ts rest : List Token) → first ((t ∷ ts) ++ rest) ≡ first (t ∷ ts)
first_front t ts rest = refl

expr_opens : (n least : ℕ) (ts rest : List Token) (e : Expr) → operand (λ k us. expr n k us) ts ≡ Some (e, rest) → expr (suc n) least ts ≡ climb (λ k us. expr n k us) n least e rest
unfolding expr
expr_opens n least ts rest e is = rw is refl

-- a name begins with an identifier
pub starts_name : (is : List Ident) (ts : List Token) → AreNames ts is → (t : Token) × (us : List Token) × (x : Text) × (ts ≡ t ∷ us) × (t.kind ≡ kind.Name x)
starts_name [] ts h = absurd h
starts_name (i ∷ []) ts (t, e, k) = (t, [], i.0, e, k)
starts_name (i ∷ j ∷ js) ts (t, dot, more, e, k, d, h) = (t, dot ∷ more, i.0, e, k)

pub first_kept : (t : Token) (us ts rest : List Token) → ts ≡ t ∷ us → first (ts ++ rest) ≡ first ts
first_kept t us ts rest e = rw e refl

by_name_found : (d : DottedTree) (ts rest : List Token) → IsDotted ts d → no_dot rest ≡ true → by_name (ts ++ rest) ≡ Some (name (first ts) d, rest)
unfolding dotted
by_name_found d ts rest h e =
    let s = starts_name d.name.0 ts h.1 in
    let f : first (ts ++ rest) ≡ first ts = first_kept s.0 s.1 ts rest s.3 in
    rw (names_found d.name.0 ts rest h.1 e, f) (ap (λ o. Some (name (first ts) (let x : DottedTree = record { offset = o; name = d.name } in x), rest)) (sym h.0))

operand_by_name : (rec : ℕ → List Token → Read Expr) (t : Token) (us : List Token) (x : Text) → t.kind ≡ kind.Name x → operand rec (t ∷ us) ≡ by_name (t ∷ us)
unfolding operand
operand_by_name rec t us x k = rw k refl

operand_name : (rec : ℕ → List Token → Read Expr) (d : DottedTree) (ts rest : List Token) → IsDotted ts d → no_dot rest ≡ true → operand rec (ts ++ rest) ≡ Some (name (first ts) d, rest)
operand_name rec d ts rest h e =
    let s = starts_name d.name.0 ts h.1 in
    ap (λ us. operand rec (us ++ rest)) s.3 ∙ operand_by_name rec s.0 (s.1 ++ rest) s.2 s.4 ∙ ap (λ us. by_name (us ++ rest)) (sym s.3) ∙ by_name_found d ts rest h e

operand_group : (rec : ℕ → List Token → Read Expr) (begin close : Token) (us rest : List Token) (a : Expr) → IsMark mark.OpenParen begin → IsMark mark.CloseParen close
    → rec 1 us ≡ Some (a, close ∷ rest) → operand rec (begin ∷ us) ≡ Some (group begin.offset a, rest)
unfolding operand
operand_group rec begin close us rest a b c r = rw (b, r, c) refl

operand_unary : (rec : ℕ → List Token → Read Expr) (sign : Token) (op : Symbol) (us rest : List Token) (a : Expr) → IsMark op sign → is_sign op ≡ true
    → rec 11 us ≡ Some (a, rest) → operand rec (sign ∷ us) ≡ Some (unary sign.offset op a, rest)
unfolding operand
operand_unary rec sign op us rest a s e r = rw (s, sign_open op e, e, r) refl

climb_found : (rec : ℕ → List Token → Read Expr) (k least : ℕ) (a b : Expr) (op : Symbol) (sign : Token) (us rest : List Token) → IsMark op sign → 0 < level op → least ≤ level op → 0 < k
    → rec (level op + 1) us ≡ Some (b, rest) → climb rec k least a (sign ∷ us) ≡ climb rec (k - 1) least (binary (offset_of a) op a b) rest
climb_found rec k least a b op sign us rest s pos le lt r =
    let m : mark_of sign.kind ≡ Some op = rw s refl in
    let l : level_by (mark_of sign.kind) ≡ level op = rw m refl in
    let g : goes_on least (level_by (mark_of sign.kind)) ≡ true = rw l (grind (arith, nat_tests)) in
    climb_more rec k least a b op sign (sign ∷ us) us rest refl m g lt (ap (λ v. rec (v + 1) us) l ∙ r)

mark_no_dot : (t : Token) (ts : List Token) (s : Symbol) → IsMark s t → is_dot (Some s) ≡ false → no_dot (t ∷ ts) ≡ true
mark_no_dot t ts s k e = rw (k, e) refl

mark_level : (t : Token) (ts : List Token) (s : Symbol) → IsMark s t → next_level (t ∷ ts) ≡ level s
mark_level t ts s k = rw k refl

-- What follows: no dot, and no operator that binds tighter than the tree's own.
pub found : (e : Expr) (n least m : ℕ) (ts rest : List Token) → IsOf m ts e → least ≤ m → m ≤ 11 → length ts ≤ n → no_dot rest ≡ true → next_level rest ≤ root e
    → (k : ℕ) × (n ≤ k + length ts) × (expr (suc n) least (ts ++ rest) ≡ climb (λ j us. expr n j us) k least e rest)
unfolding operand
found (literal o t) n least m ts rest (is, lit, o_is) lm mm len dot next =
    (n, omega arith, expr_opens n least (ts ++ rest) rest (literal o t) (rw (is, literal_mark t.kind lit, lit, o_is) refl))
found (name o d) n least m ts rest (h, o_is) lm mm len dot next =
    (n, omega arith, expr_opens n least (ts ++ rest) rest (name o d) (operand_name (λ j us. expr n j us) d ts rest h dot ∙ ap (λ x. Some (name x d, rest)) (sym o_is)))
found (group o a) zero least m ts rest (begin, close, inner, is, open_is, close_is, o_is, h) lm mm len dot next = let l = ap length is in absurd (omega arith)
found (group o a) (suc n) least m ts rest (begin, close, inner, is, open_is, close_is, o_is, h) lm mm len dot next =
    let l : length ts ≡ suc (length inner + 1) = ap length is ∙ ap suc (length-append inner (close ∷ [])) in
    let z : next_level (close ∷ rest) ≡ 0 = mark_level close rest mark.CloseParen close_is in
    let a_root = root_least a 1 inner (omega arith) h in
    let p = found a n 1 1 inner (close ∷ rest) h (omega arith) (omega arith) (omega arith) (mark_no_dot close rest mark.CloseParen close_is refl) (omega arith) in
    let r : expr (suc n) 1 (inner ++ close ∷ rest) ≡ Some (a, close ∷ rest) = p.2 ∙ climb_stops (λ j us. expr n j us) p.0 1 a (close ∷ rest) (omega arith) in
    let w : ts ++ rest ≡ begin ∷ (inner ++ close ∷ rest) = ap (λ us. us ++ rest) is ∙ ap (λ us. begin ∷ us) (append_assoc inner (close ∷ []) rest) in (
      suc n,
      omega arith,
      expr_opens (suc n) least (ts ++ rest) rest (group o a)
          (ap (operand (λ j us. expr (suc n) j us)) w ∙ operand_group (λ j us. expr (suc n) j us) begin close (inner ++ close ∷ rest) rest a open_is close_is r ∙ ap (λ x. Some (group x a, rest)) (sym o_is)),
    )
found (unary o op a) zero least m ts rest (sign, inner, is, sign_is, s, o_is, h) lm mm len dot next = let l = ap length is in absurd (omega arith)
found (unary o op a) (suc n) least m ts rest (sign, inner, is, sign_is, s, o_is, h) lm mm len dot next =
    let l : length ts ≡ suc (length inner) = ap length is in
    let most = next_most rest in
    let a_root = root_least a 11 inner (omega arith) h in
    let p = found a n 11 11 inner rest h (omega arith) (omega arith) (omega arith) dot (omega arith) in
    let r : expr (suc n) 11 (inner ++ rest) ≡ Some (a, rest) = p.2 ∙ climb_stops (λ j us. expr n j us) p.0 11 a rest (omega arith) in (
      suc n,
      omega arith,
      expr_opens (suc n) least (ts ++ rest) rest (unary o op a)
          (ap (λ us. operand (λ j us. expr (suc n) j us) (us ++ rest)) is ∙ operand_unary (λ j us. expr (suc n) j us) sign op (inner ++ rest) rest a sign_is s r ∙ ap (λ x. Some (unary x op a, rest)) (sym o_is)),
    )
found (binary o op a b) zero least m ts rest (pos, le, left, right, sign, is, sign_is, o_is, ha, hb) lm mm len dot next =
    let l : length ts ≡ length left + suc (length right) = ap length is ∙ length-append left (sign ∷ right) in absurd (omega arith)
found (binary o op a b) (suc n) least m ts rest (pos, le, left, right, sign, is, sign_is, o_is, ha, hb) lm mm len dot next =
    let l : length ts ≡ length left + suc (length right) = ap length is ∙ length-append left (sign ∷ right) in
    let most = level_most op in
    let a_root = root_least a (level op) left (omega arith) ha in
    let b_root = root_least b (level op + 1) right (omega arith) hb in
    let z : next_level (sign ∷ (right ++ rest)) ≡ level op = mark_level sign (right ++ rest) op sign_is in
    let p = found a (suc n) least (level op) left (sign ∷ (right ++ rest)) ha (omega arith) (omega arith) (omega arith) (mark_no_dot sign (right ++ rest) op sign_is (level_dot op pos)) (omega arith) in
    let q = found b n (level op + 1) (level op + 1) right rest hb (omega arith) (omega arith) (omega arith) dot (omega arith) in
    let r : expr (suc n) (level op + 1) (right ++ rest) ≡ Some (b, rest) = q.2 ∙ climb_stops (λ j us. expr n j us) q.0 (level op + 1) b rest (omega arith) in
    let w : ts ++ rest ≡ left ++ sign ∷ (right ++ rest) = ap (λ us. us ++ rest) is ∙ append_assoc left (sign ∷ right) rest in (
      p.0 - 1,
      omega arith,
      ap (expr (suc (suc n)) least) w ∙ p.2
          ∙ climb_found (λ j us. expr (suc n) j us) p.0 least a b op sign (right ++ rest) rest sign_is pos (omega arith) (omega arith) r
          ∙ ap (λ x. climb (λ j us. expr (suc n) j us) (p.0 - 1) least (binary x op a b) rest) (sym o_is),
    )

-- A tree stands: parsing finds it, before tokens that can't go on with it.
pub expr_found : (e : Expr) (n : ℕ) (ts rest : List Token) → IsExpr ts e → length ts ≤ n → no_dot rest ≡ true → next_level rest ≡ 0 → expr (suc n) 1 (ts ++ rest) ≡ Some (e, rest)
expr_found e n ts rest h len dot next =
    let e_root = root_least e 1 ts (omega arith) h in
    let p = found e n 1 1 ts rest h (omega arith) (omega arith) len dot (omega arith) in
    p.2 ∙ climb_stops (λ j us. expr n j us) p.0 1 e rest (omega arith)

-- no tokens have two expressions
pub one_expr : (ts : List Token) (a b : Expr) → IsExpr ts a → IsExpr ts b → a ≡ b
one_expr ts a b h g =
    let x = expr_found a (length ts) ts [] h (omega arith) refl refl in
    let y = expr_found b (length ts) ts [] g (omega arith) refl refl in
    let pair : ◌≡◌ {A = Expr × List Token} (a, []) (b, []) = cc in ap (λ p. p.0) pair
