-- The laws of expressions.
use Rattle.std.proofs.Common.{◌⊎◌, inl, inr, ◌≡◌, ℕ, zero, suc, ◌+◌, ◌<◌, ◌≤◌, Bool, true, false, nat_le, List, [], ◌∷◌, ◌++◌, length, Some, refl, sym, ap, subst, ◌∙◌, append_assoc, append-nil, length-append, arith}
use Rattle.aidl_base.specs.declared.reserved.Reserved.{Reserved}
use Rattle.aidl_base.specs.declared.reserved.Reserved.TheVariants as word
use Rattle.aidl_syntax.specs.declared.token.Symbol.{Symbol}
use Rattle.aidl_syntax.specs.declared.token.Symbol.TheVariants as mark
use Rattle.aidl_syntax.specs.declared.token.TokenKind.{TokenKind}
use Rattle.aidl_syntax.specs.declared.token.TokenKind.TheVariants as kind
use Rattle.aidl_syntax.specs.declared.token.Token.{Token as Tok}
use Rattle.aidl_syntax.specs.declared.tree.DottedTree.{DottedTree}
use Rattle.parse_places.specs.declared.terminal.Terminal.{Terminal}
use Rattle.parse_places.specs.declared.terminal.Terminal.TheVariants as terminal
use Rattle.parse_places.specs.declared.expected.Part.{Part}
use Rattle.parse_places.specs.declared.expected.Part.TheVariants as part
use Rattle.parse_places.specs.declared.expected.Expected.TheVariants as expected
use Rattle.parse_places.specs.declared.expected.Expected.TheVariants.{Token, Once}
use Rattle.parse_places.specs.steps.Terminals.{terminal_of, word_terminal, symbol_terminal}
use Rattle.parse_places.specs.steps.Rows.{row}
use Rattle.parse_places.specs.steps.Moves.{and_then, moves, skips}
use Rattle.parse_places.proofs.Tokens.{kind_of, is_one, one_kind}
use Rattle.parse_places.proofs.runs.Runs.{After, Run, some_after, run_append, run_split}
use Rattle.std.proofs.lemmas.Bool.Decides.{nat_tests}
use Rattle.aidl_syntax.specs.Trees.{Expr, offset_of}
use Rattle.aidl_syntax.specs.Trees.Expr.{literal, name, group, unary, binary}
use Rattle.aidl_syntax.specs.Productions.{IsDotted, is_literal, is_sign, level, IsOf, IsExpr}
use Rattle.parse_places.proofs.productions.Laws.{Law, token_run, run_token, run_nil, run_once, once_run}
use Rattle.parse_places.proofs.productions.Lists.{Element, IsThen, ElementThen, run_then, then_run, element_once}
use Rattle.parse_places.proofs.productions.TypeLaws.{dotted_law}

-- Levels.

level_most : (s : Symbol) → level s ≤ 10
level_most mark.OrOr = omega arith
level_most _ = omega arith

lower : (e : Expr) (m k : ℕ) (ts : List Tok) → IsOf m ts e → k ≤ m → IsOf k ts e
lower (literal o t) m k ts h le = h
lower (name o d) m k ts h le = h
lower (group o a) m k ts h le = h
lower (unary o op a) m k ts h le = h
lower (binary o op a b) m k ts (pos, l, left, right, sign, is, s, o_is, ha, hb) le = (pos, omega arith, left, right, sign, is, s, o_is, ha, hb)

-- an expression behind which an operator and its right operand are put
abbrev Inserted : ℕ → List Tok → Tok → List Tok → Type 0
Inserted m ts sign us = (e : Expr) × IsOf m (ts ++ sign ∷ us) e

on_top : (a : Expr) (m : ℕ) (ts : List Tok) (sign : Tok) (op : Symbol) (us : List Tok) (b : Expr) → sign.kind ≡ kind.Mark op → 0 < level op → m ≤ level op → IsOf (level op) ts a → IsOf 11 us b → Inserted m ts sign us
on_top a m ts sign op us b k pos le ha hb =
    let l = level_most op in
    (binary (offset_of a) op a b, (pos, le, ts, us, sign, refl, k, refl, ha, lower b 11 (level op + 1) us hb (omega arith)))

insert : (a : Expr) (m : ℕ) (ts : List Tok) (sign : Tok) (op : Symbol) (us : List Tok) (b : Expr) → IsOf m ts a → sign.kind ≡ kind.Mark op → 0 < level op → m ≤ level op → IsOf 11 us b → Inserted m ts sign us
insert (literal o t) m ts sign op us b h k pos le hb = on_top (literal o t) m ts sign op us b k pos le h hb
insert (name o d) m ts sign op us b h k pos le hb = on_top (name o d) m ts sign op us b k pos le h hb
insert (group o a) m ts sign op us b h k pos le hb = on_top (group o a) m ts sign op us b k pos le h hb
insert (unary o s a) m ts sign op us b h k pos le hb = on_top (unary o s a) m ts sign op us b k pos le h hb
insert (binary o s x y) m ts sign op us b (p, l, left, right, t, is, d, o_is, hx, hy) k pos le hb =
    go (nat_le (level op) (level s)) refl (λ q. insert y (level s + 1) right sign op us b hy k pos q hb) where
      go : (v : Bool) → nat_le (level op) (level s) ≡ v → (level s + 1 ≤ level op → Inserted (level s + 1) right sign us) → Inserted m ts sign us
      go true e f = let q : level op ≤ level s = grind (arith, nat_tests) in
          on_top (binary o s x y) m ts sign op us b k pos le (p, q, left, right, t, is, d, o_is, hx, hy) hb
      go false e f = let q : level s + 1 ≤ level op = grind (arith, nat_tests) in
          let z = f q in
          (binary o s x z.0, (p, l, left, right ++ sign ∷ us, t, ap (λ vs. vs ++ sign ∷ us) is ∙ append_assoc left (t ∷ right) (sign ∷ us), d, o_is, hx, z.1))

-- Rows.

operator_row : (s : Symbol) → 0 < level s → row part.Operation (symbol_terminal s) ≡ Some (Once part.Operand ∷ [])
unfolding row
operator_row mark.OrOr l = refl
operator_row mark.AndAnd l = refl
operator_row mark.Or l = refl
operator_row mark.Caret l = refl
operator_row mark.And l = refl
operator_row mark.EqualEqual l = refl
operator_row mark.NotEqual l = refl
operator_row mark.Less l = refl
operator_row mark.Greater l = refl
operator_row mark.LessEqual l = refl
operator_row mark.GreaterEqual l = refl
operator_row mark.ShiftLeft l = refl
operator_row mark.ShiftRight l = refl
operator_row mark.Plus l = refl
operator_row mark.Minus l = refl
operator_row mark.Star l = refl
operator_row mark.Slash l = refl
operator_row mark.Percent l = refl
operator_row _ l = absurd (omega arith)

sign_row : (s : Symbol) → is_sign s ≡ true → row part.Operand (symbol_terminal s) ≡ Some (Once part.Operand ∷ [])
unfolding row
sign_row mark.Plus e = refl
sign_row mark.Minus e = refl
sign_row mark.Tilde e = refl
sign_row mark.Bang e = refl
sign_row _ e = cc

literal_row : (k : TokenKind) → is_literal k ≡ true → row part.Operand (terminal_of k) ≡ Some []
unfolding row
literal_row (kind.Name text) e = cc
literal_row (kind.Word word.True) e = refl
literal_row (kind.Word word.False) e = refl
literal_row (kind.Word _) e = cc
literal_row (kind.Number n h l) e = refl
literal_row (kind.Character c) e = refl
literal_row (kind.Str x) e = refl
literal_row (kind.Mark s) e = cc

expression_row : (d : Terminal) → row part.Expression d ≡ and_then (row part.Operand d) (expected.Many part.Operation)
unfolding row
expression_row terminal.Name = refl
expression_row _ = refl

expression_then : IsThen (Once part.Expression) (row part.Operand) (expected.Many part.Operation)
unfolding moves
expression_then d = expression_row d

operations_then : IsThen (expected.Many part.Operation) (row part.Operation) (expected.Many part.Operation)
unfolding moves
operations_then d = refl

-- What an expression's stack runs over is one.

abbrev OperandOf : List Tok → Type 0
OperandOf ts = (e : Expr) × IsOf 11 ts e

abbrev ExprOf : List Tok → Type 0
ExprOf ts = (e : Expr) × IsOf 1 ts e

abbrev OperandsBelow : ℕ → Type 0
OperandsBelow n = (ts : List Tok) → length ts < n → Run ts (Once part.Operand ∷ []) → OperandOf ts

abbrev ExprsBelow : ℕ → Type 0
ExprsBelow n = (ts : List Tok) → length ts < n → Run ts (Once part.Expression ∷ []) → ExprOf ts

a_literal : (t : Tok) (us : List Tok) → is_literal t.kind ≡ true → Run us [] → OperandOf (t ∷ us)
a_literal t us k r = (literal t.offset t, (ap (λ vs. t ∷ vs) (run_nil us r), k, refl))

a_sign : (n : ℕ) (t : Tok) (us : List Tok) (s : Symbol) → OperandsBelow n → length us < n → t.kind ≡ kind.Mark s → is_sign s ≡ true → Run us (Once part.Operand ∷ []) → OperandOf (t ∷ us)
a_sign n t us s ih le k g r = let a = ih us le r in (unary t.offset s a.0, (t, us, refl, k, g, refl, a.1))

close_kind : (t : Tok) → terminal_of t.kind ≡ terminal.CloseParen → t.kind ≡ kind.Mark mark.CloseParen
unfolding kind_of is_one
close_kind t k = one_kind t.kind terminal.CloseParen k refl

a_group : (n : ℕ) (t : Tok) (us : List Tok) → ExprsBelow n → length us < n → t.kind ≡ kind.Mark mark.OpenParen → Run us (Once part.Expression ∷ Token terminal.CloseParen ∷ []) → OperandOf (t ∷ us)
a_group n t us ih le k r =
    let p = run_split us (Once part.Expression ∷ []) (Token terminal.CloseParen ∷ []) r in
    let q = run_token p.1 terminal.CloseParen [] p.4 in
    let l : length us ≡ length p.0 + length p.1 = ap length p.2 ∙ length-append p.0 p.1 in
    let m : length p.1 ≡ suc (length q.1) = ap length q.2 in
    let a = ih p.0 (omega arith) p.3 in
    let c : p.1 ≡ q.0 ∷ [] = q.2 ∙ ap (λ vs. q.0 ∷ vs) (run_nil q.1 q.4) in
    (group t.offset a.0, (t, q.0, p.0, ap (λ vs. t ∷ vs) (p.2 ∙ ap (λ vs. p.0 ++ vs) c), k, close_kind q.0 q.3, refl, a.1))

by_symbol : (n : ℕ) → OperandsBelow n → ExprsBelow n → (t : Tok) (us : List Tok) → length us < n → (s : Symbol) → t.kind ≡ kind.Mark s → After (Run us) (row part.Operand (symbol_terminal s)) → OperandOf (t ∷ us)
unfolding row
by_symbol n op ex t us le mark.OpenParen k r = a_group n t us ex le k r
by_symbol n op ex t us le mark.Plus k r = a_sign n t us mark.Plus op le k refl r
by_symbol n op ex t us le mark.Minus k r = a_sign n t us mark.Minus op le k refl r
by_symbol n op ex t us le mark.Tilde k r = a_sign n t us mark.Tilde op le k refl r
by_symbol n op ex t us le mark.Bang k r = a_sign n t us mark.Bang op le k refl r
by_symbol n op ex t us le _ k r = absurd r

by_word : (t : Tok) (us : List Tok) (w : Reserved) → t.kind ≡ kind.Word w → After (Run us) (row part.Operand (word_terminal w)) → OperandOf (t ∷ us)
unfolding row
by_word t us word.True k r = a_literal t us (ap is_literal k) r
by_word t us word.False k r = a_literal t us (ap is_literal k) r
by_word t us _ k r = absurd r

a_name : (t : Tok) (us : List Tok) (text : List ℕ) → t.kind ≡ kind.Name text → Run us (expected.Many part.DotName ∷ []) → OperandOf (t ∷ us)
a_name t us text k r =
    let d = (dotted_law (length (t ∷ us))).gives (t ∷ us) (omega arith) (token_run t us terminal.Name (expected.Many part.DotName ∷ []) (ap terminal_of k) r) in
    (name t.offset d.0, (d.1, refl))

operand_by : (n : ℕ) → OperandsBelow n → ExprsBelow n → (ts : List Tok) → length ts ≤ n → Run ts (Once part.Operand ∷ []) → OperandOf ts
unfolding row
operand_by n op ex ts le r = let p = run_once ts part.Operand r in
    let l : length ts ≡ suc (length p.1) = ap length p.2 in
    subst OperandOf (sym p.2) (go p.0 p.1 p.0.kind refl (omega arith) p.3) where
      go : (t : Tok) (us : List Tok) (k : TokenKind) → t.kind ≡ k → length us < n → After (Run us) (row part.Operand (terminal_of k)) → OperandOf (t ∷ us)
      go t us (kind.Name text) k le r = a_name t us text k r
      go t us (kind.Word w) k le r = by_word t us w k r
      go t us (kind.Number b h l) k le r = a_literal t us (ap is_literal k) r
      go t us (kind.Character c) k le r = a_literal t us (ap is_literal k) r
      go t us (kind.Str x) k le r = a_literal t us (ap is_literal k) r
      go t us (kind.Mark s) k le r = by_symbol n op ex t us le s k r

-- an operator between operands, and the operand behind it
abbrev Operated : List Tok → Type 0
Operated ts = (sign : Tok) × (us : List Tok) × (ts ≡ sign ∷ us) × (op : Symbol) × (sign.kind ≡ kind.Mark op) × (0 < level op) × Run us (Once part.Operand ∷ [])

operated_symbol : (t : Tok) (us : List Tok) (s : Symbol) → t.kind ≡ kind.Mark s → After (Run us) (row part.Operation (symbol_terminal s)) → Operated (t ∷ us)
unfolding row
operated_symbol t us mark.OrOr k r = (t, us, refl, mark.OrOr, k, omega arith, r)
operated_symbol t us mark.AndAnd k r = (t, us, refl, mark.AndAnd, k, omega arith, r)
operated_symbol t us mark.Or k r = (t, us, refl, mark.Or, k, omega arith, r)
operated_symbol t us mark.Caret k r = (t, us, refl, mark.Caret, k, omega arith, r)
operated_symbol t us mark.And k r = (t, us, refl, mark.And, k, omega arith, r)
operated_symbol t us mark.EqualEqual k r = (t, us, refl, mark.EqualEqual, k, omega arith, r)
operated_symbol t us mark.NotEqual k r = (t, us, refl, mark.NotEqual, k, omega arith, r)
operated_symbol t us mark.Less k r = (t, us, refl, mark.Less, k, omega arith, r)
operated_symbol t us mark.Greater k r = (t, us, refl, mark.Greater, k, omega arith, r)
operated_symbol t us mark.LessEqual k r = (t, us, refl, mark.LessEqual, k, omega arith, r)
operated_symbol t us mark.GreaterEqual k r = (t, us, refl, mark.GreaterEqual, k, omega arith, r)
operated_symbol t us mark.ShiftLeft k r = (t, us, refl, mark.ShiftLeft, k, omega arith, r)
operated_symbol t us mark.ShiftRight k r = (t, us, refl, mark.ShiftRight, k, omega arith, r)
operated_symbol t us mark.Plus k r = (t, us, refl, mark.Plus, k, omega arith, r)
operated_symbol t us mark.Minus k r = (t, us, refl, mark.Minus, k, omega arith, r)
operated_symbol t us mark.Star k r = (t, us, refl, mark.Star, k, omega arith, r)
operated_symbol t us mark.Slash k r = (t, us, refl, mark.Slash, k, omega arith, r)
operated_symbol t us mark.Percent k r = (t, us, refl, mark.Percent, k, omega arith, r)
operated_symbol t us _ k r = absurd r

operated_word : (t : Tok) (us : List Tok) (w : Reserved) → After (Run us) (row part.Operation (word_terminal w)) → Operated (t ∷ us)
unfolding row
operated_word t us word.Package r = absurd r
operated_word t us _ r = absurd r

operated : (ts : List Tok) → Element (row part.Operation) ts → Operated ts
unfolding row
operated ts (t, us, is, r) = subst Operated (sym is) (go t.kind refl r) where
  go : (k : TokenKind) → t.kind ≡ k → After (Run us) (row part.Operation (terminal_of k)) → Operated (t ∷ us)
  go (kind.Name text) k r = absurd r
  go (kind.Word w) k r = operated_word t us w r
  go (kind.Number b h l) k r = absurd r
  go (kind.Character c) k r = absurd r
  go (kind.Str x) k r = absurd r
  go (kind.Mark s) k r = operated_symbol t us s k r

abbrev Joined : List Tok → List Tok → Type 0
Joined before ts = (e : Expr) × IsOf 1 (before ++ ts) e

-- operations behind an expression, from the left
operations_by : (n m : ℕ) → OperandsBelow n → ((us before : List Tok) (a : Expr) → length us < m → IsOf 1 before a → Run us (expected.Many part.Operation ∷ []) → Joined before us)
    → (ts before : List Tok) (a : Expr) → length ts ≤ m → length ts < n → IsOf 1 before a → (ts ≡ []) ⊎ ElementThen ts (row part.Operation) (expected.Many part.Operation) → Joined before ts
operations_by n m op ih ts before a le lt h (inl is) = (a, subst (λ us. IsOf 1 us a) (sym (ap (λ us. before ++ us) is ∙ append_nil before)) h) where
  append_nil : (us : List Tok) → us ++ [] ≡ us
  append_nil us = append-nil us
operations_by n m op ih ts before a le lt h (inr (front, back, is, less, r, q)) =
    let (sign, us, e, s, k, pos, o) = operated front r in
    let l1 : length ts ≡ length front + length back = ap length is ∙ length-append front back in
    let l2 : length front ≡ suc (length us) = ap length e in
    let b = op us (omega arith) o in
    let c = insert a 1 before sign s us b.0 h k pos (omega arith) b.1 in
    let d = ih back (before ++ sign ∷ us) c.0 (omega arith) c.1 q in
    (d.0, subst (λ vs. IsOf 1 vs d.0) (append_assoc before (sign ∷ us) back ∙ ap (λ vs. before ++ vs) (sym (is ∙ ap (λ vs. vs ++ back) e))) d.1)

operations : (n m : ℕ) → m < n → OperandsBelow n → (ts before : List Tok) (a : Expr) → length ts ≤ m → IsOf 1 before a → Run ts (expected.Many part.Operation ∷ []) → Joined before ts
operations n zero lt op ts before a le h r = operations_by n zero op (λ us b c l g q. absurd (omega arith)) ts before a le (omega arith) h (run_then ts (expected.Many part.Operation) (row part.Operation) (expected.Many part.Operation) operations_then r)
operations n (suc m) lt op ts before a le h r =
    operations_by n (suc m) op (λ us b c l g q. operations n m (omega arith) op us b c (omega arith) g q) ts before a le (omega arith) h (run_then ts (expected.Many part.Operation) (row part.Operation) (expected.Many part.Operation) operations_then r)

expr_by : (n : ℕ) → OperandsBelow (suc n) → (ts : List Tok) → length ts ≤ n → Run ts (Once part.Expression ∷ []) → ExprOf ts
unfolding skips
expr_by n op [] le (k, r) = cc
expr_by n op (t ∷ ts) le r = go (run_then (t ∷ ts) (Once part.Expression) (row part.Operand) (expected.Many part.Operation) expression_then r) where
  go : (t ∷ ts ≡ []) ⊎ ElementThen (t ∷ ts) (row part.Operand) (expected.Many part.Operation) → ExprOf (t ∷ ts)
  go (inl is) = cc
  go (inr (front, back, is, less, h, q)) =
      let l : length (t ∷ ts) ≡ length front + length back = ap length is ∙ length-append front back in
      let a = op front (omega arith) (element_once front part.Operand h) in
      let b = operations (suc n) n (omega arith) op back front a.0 (omega arith) (lower a.0 11 1 front a.1 (omega arith)) q in
      (b.0, subst (λ us. IsOf 1 us b.0) (sym is) b.1)

below : (n : ℕ) → OperandsBelow n × ExprsBelow n
below zero = (λ ts lt r. absurd (omega arith), λ ts lt r. absurd (omega arith))
below (suc n) = let (op, ex) = below n in
    let op2 : OperandsBelow (suc n) = λ ts lt r. operand_by n op ex ts (omega arith) r in
    (op2, λ ts lt r. expr_by n op2 ts (omega arith) r)

-- The stack runs over every expression.

join_by : (x : Part) (ts us : List Tok) → ((vs : List Tok) → length vs < length ts → Run vs (expected.Many x ∷ []) → Run (vs ++ us) (expected.Many x ∷ [])) → Run us (expected.Many x ∷ [])
    → (ts ≡ []) ⊎ ElementThen ts (row x) (expected.Many x) → Run (ts ++ us) (expected.Many x ∷ [])
unfolding moves
join_by x ts us ih q (inl is) = subst (λ vs. Run (vs ++ us) (expected.Many x ∷ [])) (sym is) q
join_by x ts us ih q (inr (front, back, is, less, h, b)) =
    subst (λ vs. Run vs (expected.Many x ∷ [])) (sym (ap (λ vs. vs ++ us) is ∙ append_assoc front back us)) (then_run front (back ++ us) (expected.Many x) (row x) (expected.Many x) (λ d. refl) h (ih back less b))

join_to : (n : ℕ) (x : Part) (ts us : List Tok) → length ts ≤ n → Run ts (expected.Many x ∷ []) → Run us (expected.Many x ∷ []) → Run (ts ++ us) (expected.Many x ∷ [])
unfolding moves
join_to zero x ts us le r q = join_by x ts us (λ vs l a. absurd (omega arith)) q (run_then ts (expected.Many x) (row x) (expected.Many x) (λ d. refl) r)
join_to (suc n) x ts us le r q = join_by x ts us (λ vs l a. join_to n x vs us (omega arith) a q) q (run_then ts (expected.Many x) (row x) (expected.Many x) (λ d. refl) r)

-- {x}, and then more of it
pub many_join : (x : Part) (ts us : List Tok) → Run ts (expected.Many x ∷ []) → Run us (expected.Many x ∷ []) → Run (ts ++ us) (expected.Many x ∷ [])
many_join x ts us r q = join_to (length ts) x ts us (omega arith) r q

operand_expression : (ts : List Tok) → Run ts (Once part.Operand ∷ []) → Run ts (Once part.Expression ∷ [])
unfolding skips
operand_expression ts r = subst (λ us. Run us (Once part.Expression ∷ [])) (append-nil ts) (then_run ts [] (Once part.Expression) (row part.Operand) (expected.Many part.Operation) expression_then (run_once ts part.Operand r) (refl, tt))

pub expression_parts : (ts : List Tok) → Run ts (Once part.Expression ∷ []) → (front back : List Tok) × (ts ≡ front ++ back) × Run front (Once part.Operand ∷ []) × Run back (expected.Many part.Operation ∷ [])
unfolding skips
expression_parts [] (k, r) = cc
expression_parts (t ∷ ts) r = go (run_then (t ∷ ts) (Once part.Expression) (row part.Operand) (expected.Many part.Operation) expression_then r) where
  go : (t ∷ ts ≡ []) ⊎ ElementThen (t ∷ ts) (row part.Operand) (expected.Many part.Operation) → (front back : List Tok) × (t ∷ ts ≡ front ++ back) × Run front (Once part.Operand ∷ []) × Run back (expected.Many part.Operation ∷ [])
  go (inl is) = cc
  go (inr (front, back, is, less, h, q)) = (front, back, is, element_once front part.Operand h, q)

pub parts_expression : (front back : List Tok) → Run front (Once part.Operand ∷ []) → Run back (expected.Many part.Operation ∷ []) → Run (front ++ back) (Once part.Expression ∷ [])
parts_expression front back r q = then_run front back (Once part.Expression) (row part.Operand) (expected.Many part.Operation) expression_then (run_once front part.Operand r) q

operation_run : (sign : Tok) (op : Symbol) (us : List Tok) → sign.kind ≡ kind.Mark op → 0 < level op → Run us (Once part.Operand ∷ []) → Element (row part.Operation) (sign ∷ us)
operation_run sign op us k pos r = (sign, us, refl, some_after (Run us) (row part.Operation (terminal_of sign.kind)) (Once part.Operand ∷ []) (ap (λ z. row part.Operation (terminal_of z)) k ∙ operator_row op pos) r)

abbrev ReadAs : ℕ → List Tok → Type 0
ReadAs m ts = Run ts (Once part.Expression ∷ []) × (11 ≤ m → Run ts (Once part.Operand ∷ []))

operand_read : (m : ℕ) (ts : List Tok) → Run ts (Once part.Operand ∷ []) → ReadAs m ts
operand_read m ts r = (operand_expression ts r, λ l. r)

binary_read : (m : ℕ) (left right : List Tok) (sign : Tok) (op : Symbol) → sign.kind ≡ kind.Mark op → 0 < level op → m ≤ level op → Run left (Once part.Expression ∷ []) → Run right (Once part.Expression ∷ []) → ReadAs m (left ++ sign ∷ right)
binary_read m left right sign op k pos le r q =
    let a = expression_parts left r in
    let b = expression_parts right q in
    let o = then_run (sign ∷ b.0) b.1 (expected.Many part.Operation) (row part.Operation) (expected.Many part.Operation) operations_then (operation_run sign op b.0 k pos b.3) b.4 in
    let e = parts_expression a.0 (a.1 ++ sign ∷ (b.0 ++ b.1)) a.3 (many_join part.Operation a.1 (sign ∷ (b.0 ++ b.1)) a.4 o) in
    let is : left ++ sign ∷ right ≡ a.0 ++ (a.1 ++ sign ∷ (b.0 ++ b.1)) = ap (λ us. us ++ sign ∷ right) a.2 ∙ append_assoc a.0 a.1 (sign ∷ right) ∙ ap (λ us. a.0 ++ (a.1 ++ sign ∷ us)) b.2 in
    let most = level_most op in
    (subst (λ us. Run us (Once part.Expression ∷ [])) (sym is) e, λ l. absurd (omega arith))

group_run : (begin close : Tok) (inner : List Tok) → begin.kind ≡ kind.Mark mark.OpenParen → close.kind ≡ kind.Mark mark.CloseParen → Run inner (Once part.Expression ∷ []) → Run (begin ∷ (inner ++ close ∷ [])) (Once part.Operand ∷ [])
unfolding row
group_run begin close inner k l r =
    once_run begin (inner ++ close ∷ []) part.Operand
    (some_after (Run (inner ++ close ∷ [])) (row part.Operand (terminal_of begin.kind)) (Once part.Expression ∷ Token terminal.CloseParen ∷ []) (ap (λ z. row part.Operand (terminal_of z)) k)
    (run_append inner (close ∷ []) (Once part.Expression ∷ []) (Token terminal.CloseParen ∷ []) r (token_run close [] terminal.CloseParen [] (ap terminal_of l) tt)))

name_run : (ts : List Tok) (d : DottedTree) → IsDotted ts d → Run ts (Once part.Operand ∷ [])
unfolding row
name_run ts d h =
    let p = run_token ts terminal.Name (expected.Many part.DotName ∷ []) ((dotted_law (length ts)).reads ts d h) in
    subst (λ us. Run us (Once part.Operand ∷ [])) (sym p.2)
    (once_run p.0 p.1 part.Operand (some_after (Run p.1) (row part.Operand (terminal_of p.0.kind)) (expected.Many part.DotName ∷ []) (ap (row part.Operand) p.3) p.4))

expr_read : (e : Expr) (m : ℕ) (ts : List Tok) → IsOf m ts e → ReadAs m ts
expr_read (literal o t) m ts (is, k, p) =
    operand_read m ts (subst (λ us. Run us (Once part.Operand ∷ [])) (sym is) (once_run t [] part.Operand (some_after (Run []) (row part.Operand (terminal_of t.kind)) [] (literal_row t.kind k) tt)))
expr_read (name o d) m ts (h, p) = operand_read m ts (name_run ts d h)
expr_read (group o a) m ts (begin, close, inner, is, k, l, p, h) =
    operand_read m ts (subst (λ us. Run us (Once part.Operand ∷ [])) (sym is) (group_run begin close inner k l (expr_read a 1 inner h).0))
expr_read (unary o op a) m ts (sign, inner, is, k, s, p, h) =
    operand_read m ts (subst (λ us. Run us (Once part.Operand ∷ [])) (sym is)
    (once_run sign inner part.Operand (some_after (Run inner) (row part.Operand (terminal_of sign.kind)) (Once part.Operand ∷ []) (ap (λ z. row part.Operand (terminal_of z)) k ∙ sign_row op s) ((expr_read a 11 inner h).1 (omega arith)))))
expr_read (binary o op a b) m ts (pos, le, left, right, sign, is, k, p, ha, hb) =
    subst (ReadAs m) (sym is) (binary_read m left right sign op k pos le (expr_read a (level op) left ha).0 (expr_read b (level op + 1) right hb).0)

-- expr
pub expr_law : (n : ℕ) → Law n (Once part.Expression ∷ []) IsExpr
expr_law n = record { reads = λ ts e h. (expr_read e 1 ts h).0; gives = λ ts le r. (below (suc n)).1 ts (omega arith) r }
