-- What reading gives stands for the front that it read.
use Rattle.std.proofs.Common.{◌⊎◌, inl, inr, ◌≡◌, ℕ, zero, suc, ◌+◌, ◌<◌, ◌≤◌, Bool, true, false, cond, List, [], ◌∷◌, ◌++◌, Option, Some, None, refl, sym, ap, subst, ◌∙◌, arith, append_assoc, append-nil}
use Rattle.std.proofs.lemmas.Bool.Decides.{nat_tests}
use Rattle.aidl_base.specs.declared.name.Ident.{Ident}
use Rattle.aidl_syntax.specs.declared.token.Symbol.{Symbol}
use Rattle.aidl_syntax.specs.declared.token.Symbol.TheVariants as mark
use Rattle.aidl_syntax.specs.declared.token.TokenKind.{TokenKind}
use Rattle.aidl_syntax.specs.declared.token.TokenKind.TheVariants as kind
use Rattle.aidl_syntax.specs.declared.token.Token.{Token}
use Rattle.aidl_syntax.specs.declared.tree.DottedTree.{DottedTree}
use Rattle.aidl_syntax.specs.Trees.{Expr, offset_of}
use Rattle.aidl_syntax.specs.Trees.Expr.{literal, name, group, unary, binary}
use Rattle.aidl_syntax.specs.Parts.{first}
use Rattle.expr_parser.specs.Reading.{IsMark}
use Rattle.aidl_syntax.specs.Productions.{AreNames, IsDotted, is_literal, is_sign, level, IsOf}
use Rattle.expr_parser.specs.Reading.{Read, mark_of, name_of, is_dot, is_close, is_open, onto_name, names, dotted, by_name, closed, by_symbol, by_mark, operand, climb, expr, goes_on, level_by, with_sign, ◌>>=◌}
use Rattle.expr_parser.proofs.lemmas.Found.{next_level, root, level_most, next_most, starts_name, first_kept}

-- what a step gave came from what the step before gave
pub bind_some : {A B : Type 0} (r : Option A) (f : A → Option B) (y : B) → (r >>= f) ≡ Some y → (x : A) × (r ≡ Some x) × (f x ≡ Some y)
bind_some None f y e = cc
bind_some (Some x) f y e = (x, refl, e)

-- a test chose
pub chosen : {A : Type 0} (v : Bool) (x : A) (y : A) (z : A) → cond v x y ≡ z → ((v ≡ true) × (x ≡ z)) ⊎ ((v ≡ false) × (y ≡ z))
chosen true x y z e = inl (refl, e)
chosen false x y z e = inr (refl, e)

pub is_mark : (k : TokenKind) (s : Symbol) → mark_of k ≡ Some s → k ≡ kind.Mark s
is_mark (kind.Name x) s e = cc
is_mark (kind.Word r) s e = cc
is_mark (kind.Number n h l) s e = cc
is_mark (kind.Character c) s e = cc
is_mark (kind.Str x) s e = cc
is_mark (kind.Mark t) s e = cc

pub is_name : (k : TokenKind) (i : Ident) → name_of k ≡ Some i → k ≡ kind.Name i.0
is_name (kind.Name x) i e = let h : ◌≡◌ {A = Ident} (record { 0 = x }) i = cc in ap (λ j. kind.Name j.0) h
is_name (kind.Word r) i e = cc
is_name (kind.Number n h l) i e = cc
is_name (kind.Character c) i e = cc
is_name (kind.Str x) i e = cc
is_name (kind.Mark t) i e = cc

-- the parts of a pair in an option
pub pair_some : {A B : Type 0} (a c : A) (b d : B) → ◌≡◌ {A = Option (A × B)} (Some (a, b)) (Some (c, d)) → (a ≡ c) × (b ≡ d)
pair_some {A = A} {B = B} a c b d e = let p : ◌≡◌ {A = A × B} (a, b) (c, d) = cc in (ap (λ x. x.0) p, ap (λ x. x.1) p)

open_is : (s : Symbol) → is_open s ≡ true → s ≡ mark.OpenParen
open_is mark.OpenParen e = refl
open_is _ e = cc

close_is : (o : Option Symbol) → is_close o ≡ true → o ≡ Some mark.CloseParen
close_is None e = cc
close_is (Some mark.CloseParen) e = refl
close_is (Some _) e = cc

dot_is : (o : Option Symbol) → is_dot o ≡ true → o ≡ Some mark.Dot
dot_is None e = cc
dot_is (Some mark.Dot) e = refl
dot_is (Some _) e = cc

-- a tree of a level is one of each level up to its root
raise : (e : Expr) (m k : ℕ) (ts : List Token) → IsOf m ts e → k ≤ root e → IsOf k ts e
raise (literal o t) m k ts h le = h
raise (name o d) m k ts h le = h
raise (group o a) m k ts h le = h
raise (unary o op a) m k ts h le = h
raise (binary o op a b) m k ts (pos, l, left, right, sign, is, s, o_is, ha, hb) le = (pos, le, left, right, sign, is, s, o_is, ha, hb)

-- What a reader of a level told.
abbrev pub Told : ℕ → List Token → Expr → List Token → Type 0
Told least ts e rest = (front : List Token) × (ts ≡ front ++ rest) × IsOf least front e × (next_level rest < least)

abbrev pub IsTold : (ℕ → List Token → Read Expr) → Type 0
IsTold rec = (least : ℕ) (ts : List Token) (e : Expr) (rest : List Token) → 1 ≤ least → least ≤ 11 → rec least ts ≡ Some (e, rest) → Told least ts e rest

goes_parts : (least l : ℕ) → goes_on least l ≡ true → (0 < l) × (least ≤ l)
goes_parts least l e = (grind (arith, nat_tests), grind (arith, nat_tests))

stops_at : (least l : ℕ) → 1 ≤ least → goes_on least l ≡ false → l < least
stops_at least l one e = grind (arith, nat_tests)

symbol_there : (o : Option Symbol) → 0 < level_by o → (s : Symbol) × (o ≡ Some s)
symbol_there None lt = absurd (omega arith)
symbol_there (Some s) lt = (s, refl)

-- nothing more was read
stays : (least : ℕ) (before ts : List Token) (a e : Expr) (rest : List Token) → IsOf least before a → next_level ts < least → ◌≡◌ {A = Read Expr} (Some (a, ts)) (Some (e, rest))
    → (more : List Token) × (ts ≡ more ++ rest) × IsOf least (before ++ more) e × (next_level rest < least)
stays least before ts a e rest h stop d =
    let p = pair_some a e ts rest d in
    ([], p.1, subst (λ x. IsOf least x e) (sym (append-nil before)) (subst (IsOf least before) p.0 h), subst (λ x. next_level x < least) p.1 stop)

-- operators and their right parts, behind what was read before
climb_told : (rec : ℕ → List Token → Read Expr) → IsTold rec → (k least : ℕ) (before ts : List Token) (a e : Expr) (rest : List Token) → 1 ≤ least → least ≤ 11 → IsOf least before a → next_level ts ≤ root a
    → climb rec k least a ts ≡ Some (e, rest) → (more : List Token) × (ts ≡ more ++ rest) × IsOf least (before ++ more) e × (next_level rest < least)
unfolding climb
climb_told rec told k least before [] a e rest one el h next r =
    stays least before [] a e rest h one r
climb_told rec told zero least before (t ∷ ts) a e rest one el h next r = go (chosen (goes_on least (level_by (mark_of t.kind))) None (Some (a, t ∷ ts)) (Some (e, rest)) r) where
  go : ((goes_on least (level_by (mark_of t.kind)) ≡ true) × (◌≡◌ {A = Read Expr} None (Some (e, rest)))) ⊎ ((goes_on least (level_by (mark_of t.kind)) ≡ false) × (◌≡◌ {A = Read Expr} (Some (a, t ∷ ts)) (Some (e, rest))))
      → (more : List Token) × (t ∷ ts ≡ more ++ rest) × IsOf least (before ++ more) e × (next_level rest < least)
  go (inl (on, d)) = cc
  go (inr (stop, d)) = stays least before (t ∷ ts) a e rest h (stops_at least (level_by (mark_of t.kind)) one stop) d
climb_told rec told (suc k) least before (t ∷ ts) a e rest one el h next r =
    climb_on (climb_told rec told k least) (chosen (goes_on least (level_by (mark_of t.kind)))
    (rec (level_by (mark_of t.kind) + 1) ts >>= λ b. with_sign (mark_of t.kind) (λ s. climb rec k least (binary (offset_of a) s a b.0) b.1)) (Some (a, t ∷ ts)) (Some (e, rest)) r) where
      climb_on : ((before ts : List Token) (a e : Expr) (rest : List Token) → 1 ≤ least → least ≤ 11 → IsOf least before a → next_level ts ≤ root a
          → climb rec k least a ts ≡ Some (e, rest) → (more : List Token) × (ts ≡ more ++ rest) × IsOf least (before ++ more) e × (next_level rest < least))
          → ((goes_on least (level_by (mark_of t.kind)) ≡ true) × ((rec (level_by (mark_of t.kind) + 1) ts >>= λ b. with_sign (mark_of t.kind) (λ s. climb rec k least (binary (offset_of a) s a b.0) b.1)) ≡ Some (e, rest)))
          ⊎ ((goes_on least (level_by (mark_of t.kind)) ≡ false) × (◌≡◌ {A = Read Expr} (Some (a, t ∷ ts)) (Some (e, rest))))
          → (more : List Token) × (t ∷ ts ≡ more ++ rest) × IsOf least (before ++ more) e × (next_level rest < least)
      climb_on ih (inr (stop, d)) = stays least before (t ∷ ts) a e rest h (stops_at least (level_by (mark_of t.kind)) one stop) d
      climb_on ih (inl (on, d)) =
          let g : (0 < level_by (mark_of t.kind)) × (least ≤ level_by (mark_of t.kind)) = goes_parts least (level_by (mark_of t.kind)) on in
          let o = symbol_there (mark_of t.kind) g.0 in
          let l : level_by (mark_of t.kind) ≡ level o.0 = ap level_by o.1 in
          let most = level_most o.0 in
          let b = bind_some (rec (level_by (mark_of t.kind) + 1) ts) (λ b. with_sign (mark_of t.kind) (λ s. climb rec k least (binary (offset_of a) s a b.0) b.1)) (e, rest) d in
          let f = told (level_by (mark_of t.kind) + 1) ts b.0.0 b.0.1 (omega arith) (omega arith) b.1 in
          let c = subst (λ x. with_sign x (λ s. climb rec k least (binary (offset_of a) s a b.0.0) b.0.1) ≡ Some (e, rest)) o.1 b.2 in
          let hb : IsOf (level o.0 + 1) f.0 b.0.0 = subst (λ x. IsOf (x + 1) f.0 b.0.0) l f.2 in
          let hl : IsOf least (before ++ t ∷ f.0) (binary (offset_of a) o.0 a b.0.0) =
          (omega arith, omega arith, before, f.0, t, refl, is_mark t.kind o.0 o.1, refl, raise a least (level o.0) before h (omega arith), hb) in
          let n : next_level b.0.1 ≤ level o.0 = omega (arith, f.3) in
          let x = ih (before ++ t ∷ f.0) b.0.1 (binary (offset_of a) o.0 a b.0.0) e rest one el hl n c in
          (t ∷ f.0 ++ x.0, ap (λ us. t ∷ us) (f.1 ∙ ap (λ us. f.0 ++ us) x.1 ∙ sym (append_assoc f.0 x.0 rest)), subst (λ us. IsOf least us e) (append_assoc before (t ∷ f.0) x.0) x.2, x.3)

-- what follows the first of some identifiers
abbrev MoreNames : List Token → List Ident → Type 0
MoreNames front [] = front ≡ []
MoreNames front (i ∷ is) = (dot : Token) × (more : List Token) × (front ≡ dot ∷ more) × IsMark mark.Dot dot × AreNames more (i ∷ is)

abbrev NamesTold : List Token → List Ident → List Token → Type 0
NamesTold ts is rest = (front : List Token) × (ts ≡ front ++ rest) × AreNames front is

abbrev MoreTold : List Token → List Ident → List Token → Type 0
MoreTold ts is rest = (front : List Token) × (ts ≡ front ++ rest) × MoreNames front is

join_names : (t : Token) (i : Ident) (front : List Token) (is : List Ident) → t.kind ≡ kind.Name i.0 → MoreNames front is → AreNames (t ∷ front) (i ∷ is)
join_names t i front [] k h = (t, ap (λ x. t ∷ x) h, k)
join_names t i front (j ∷ is) k (dot, more, e, d, h) = (t, dot, more, ap (λ x. t ∷ x) e, k, d, h)

name_told : (t : Token) (ts : List Token) (o : Option Ident) (r : Read (List Ident)) (is : List Ident) (rest : List Token) → name_of t.kind ≡ o → ((js : List Ident) (us : List Token) → r ≡ Some (js, us) → MoreTold ts js us)
    → onto_name o r ≡ Some (is, rest) → NamesTold (t ∷ ts) is rest
name_told t ts None r is rest k ih e = cc
name_told t ts (Some i) None is rest k ih e = cc
name_told t ts (Some i) (Some (js, us)) is rest k ih e =
    let f = ih js us refl in
    let p = pair_some (i ∷ js) is us rest e in
    (t ∷ f.0, ap (λ x. t ∷ x) (f.1 ∙ ap (λ x. f.0 ++ x) p.1), subst (AreNames (t ∷ f.0)) p.0 (join_names t i f.0 js (is_name t.kind i k) f.2))

dot_told : (t : Token) (ts : List Token) (is : List Ident) (rest : List Token) → ((is : List Ident) → names true ts ≡ Some (is, rest) → NamesTold ts is rest)
    → ((is_dot (mark_of t.kind) ≡ true) × (names true ts ≡ Some (is, rest))) ⊎ ((is_dot (mark_of t.kind) ≡ false) × (◌≡◌ {A = Read (List Ident)} (Some ([], t ∷ ts)) (Some (is, rest)))) → MoreTold (t ∷ ts) is rest
dot_told t ts is rest ih (inr (n, d)) = let p = pair_some [] is (t ∷ ts) rest d in ([], p.1, subst (MoreNames []) p.0 refl)
dot_told t ts [] rest ih (inl (y, d)) = let f = ih [] d in absurd f.2
dot_told t ts (i ∷ is) rest ih (inl (y, d)) =
    let f = ih (i ∷ is) d in
    (t ∷ f.0, ap (λ x. t ∷ x) f.1, (t, f.0, refl, is_mark t.kind mark.Dot (dot_is (mark_of t.kind) y), f.2))

mutual
  unfolding names

  pub names_told : (ts : List Token) (is : List Ident) (rest : List Token) → names true ts ≡ Some (is, rest) → NamesTold ts is rest
  names_told [] is rest r = cc
  names_told (t ∷ ts) is rest r = name_told t ts (name_of t.kind) (names false ts) is rest refl (λ js us e. more_told ts js us e) r

  more_told : (ts : List Token) (is : List Ident) (rest : List Token) → names false ts ≡ Some (is, rest) → MoreTold ts is rest
  more_told [] is rest r = let p = pair_some [] is [] rest r in ([], p.1, subst (MoreNames []) p.0 refl)
  more_told (t ∷ ts) is rest r = dot_told t ts is rest (λ js e. names_told ts js rest e) (chosen (is_dot (mark_of t.kind)) (names true ts) (Some ([], t ∷ ts)) (Some (is, rest)) r)

abbrev signed : ℕ → Symbol → Expr × List Token → Read Expr
signed o s a = Some (unary o s a.0, a.1)

abbrev OperandTold : List Token → Expr → List Token → Type 0
OperandTold ts e rest = (front : List Token) × (ts ≡ front ++ rest) × IsOf 11 front e × (root e ≡ 11)

dotted_told : (ts : List Token) (e : Expr) (rest : List Token) → by_name ts ≡ Some (e, rest) → OperandTold ts e rest
unfolding dotted
dotted_told ts e rest r =
    let d = bind_some (dotted ts) (λ d. Some (name (first ts) d.0, d.1)) (e, rest) r in
    let n = bind_some (names true ts) (λ is. let tree : DottedTree = record { offset = first ts; name = record { 0 = is.0 } } in Some (tree, is.1)) d.0 d.1 in
    let f = names_told ts n.0.0 n.0.1 n.1 in
    let p = pair_some (let tree : DottedTree = record { offset = first ts; name = record { 0 = n.0.0 } } in tree) d.0.0 n.0.1 d.0.1 n.2 in
    let q = pair_some (name (first ts) d.0.0) e d.0.1 rest d.2 in
    let s = starts_name n.0.0 f.0 f.2 in
    let o : first ts ≡ first f.0 = ap first f.1 ∙ first_kept s.0 s.1 f.0 n.0.1 s.3 in
    (f.0, f.1 ∙ ap (λ x. f.0 ++ x) (p.1 ∙ q.1), subst (IsOf 11 f.0) q.0 (subst (IsDotted f.0) p.0 (o, f.2), o), ap root (sym q.0))

group_told : (o : ℕ) (a e : Expr) (us rest : List Token) → closed o a us ≡ Some (e, rest) → (close : Token) × (us ≡ close ∷ rest) × IsMark mark.CloseParen close × (group o a ≡ e)
group_told o a e [] rest r = cc
group_told o a e (t ∷ us) rest r = go (chosen (is_close (mark_of t.kind)) (Some (group o a, us)) None (Some (e, rest)) r) where
  go : ((is_close (mark_of t.kind) ≡ true) × (◌≡◌ {A = Read Expr} (Some (group o a, us)) (Some (e, rest)))) ⊎ ((is_close (mark_of t.kind) ≡ false) × (◌≡◌ {A = Read Expr} None (Some (e, rest))))
      → (close : Token) × (t ∷ us ≡ close ∷ rest) × IsMark mark.CloseParen close × (group o a ≡ e)
  go (inl (c, d)) = let p = pair_some (group o a) e us rest d in (t, ap (λ x. t ∷ x) p.1, is_mark t.kind mark.CloseParen (close_is (mark_of t.kind) c), p.0)
  go (inr (c, d)) = cc

symbol_told : (rec : ℕ → List Token → Read Expr) → IsTold rec → (t : Token) (s : Symbol) (us : List Token) (e : Expr) (rest : List Token) → mark_of t.kind ≡ Some s
    → by_symbol rec t.offset s us ≡ Some (e, rest) → OperandTold (t ∷ us) e rest
symbol_told rec told t s us e rest m r = go (chosen (is_open s) (rec 1 us >>= λ a. closed t.offset a.0 a.1) (cond (is_sign s) (rec 11 us >>= signed t.offset s) None) (Some (e, rest)) r) where
  sign_told : ((is_sign s ≡ true) × ((rec 11 us >>= signed t.offset s) ≡ Some (e, rest))) ⊎ ((is_sign s ≡ false) × (◌≡◌ {A = Read Expr} None (Some (e, rest)))) → OperandTold (t ∷ us) e rest
  sign_told (inr (n, d)) = cc
  sign_told (inl (g, d)) =
      let b = bind_some (rec 11 us) (signed t.offset s) (e, rest) d in
      let f = told 11 us b.0.0 b.0.1 (omega arith) (omega arith) b.1 in
      let p = pair_some (unary t.offset s b.0.0) e b.0.1 rest b.2 in
      (t ∷ f.0, ap (λ x. t ∷ x) (f.1 ∙ ap (λ x. f.0 ++ x) p.1), subst (IsOf 11 (t ∷ f.0)) p.0 (t, f.0, refl, is_mark t.kind s m, g, refl, f.2), ap root (sym p.0))

  go : ((is_open s ≡ true) × ((rec 1 us >>= λ a. closed t.offset a.0 a.1) ≡ Some (e, rest))) ⊎ ((is_open s ≡ false) × (cond (is_sign s) (rec 11 us >>= signed t.offset s) None ≡ Some (e, rest))) → OperandTold (t ∷ us) e rest
  go (inl (o, d)) =
      let b = bind_some (rec 1 us) (λ a. closed t.offset a.0 a.1) (e, rest) d in
      let f = told 1 us b.0.0 b.0.1 (omega arith) (omega arith) b.1 in
      let c = group_told t.offset b.0.0 e b.0.1 rest b.2 in (
        t ∷ (f.0 ++ c.0 ∷ []),
        ap (λ x. t ∷ x) (f.1 ∙ ap (λ x. f.0 ++ x) c.1 ∙ sym (append_assoc f.0 (c.0 ∷ []) rest)),
        subst (IsOf 11 (t ∷ (f.0 ++ c.0 ∷ []))) c.3 (t, c.0, f.0, refl, is_mark t.kind mark.OpenParen (m ∙ ap Some (open_is s o)), c.2, refl, f.2),
        ap root (sym c.3),
      )
  go (inr (n, d)) = sign_told (chosen (is_sign s) (rec 11 us >>= signed t.offset s) None (Some (e, rest)) d)

operand_told : (rec : ℕ → List Token → Read Expr) → IsTold rec → (ts : List Token) (e : Expr) (rest : List Token) → operand rec ts ≡ Some (e, rest) → OperandTold ts e rest
unfolding operand
operand_told rec told [] e rest r = cc
operand_told rec told (t ∷ us) e rest r = go (mark_of t.kind) refl r where
  literal_told : ((is_literal t.kind ≡ true) × (◌≡◌ {A = Read Expr} (Some (literal t.offset t, us)) (Some (e, rest)))) ⊎ ((is_literal t.kind ≡ false) × (by_name (t ∷ us) ≡ Some (e, rest))) → OperandTold (t ∷ us) e rest
  literal_told (inl (l, d)) = let p = pair_some (literal t.offset t) e us rest d in (t ∷ [], ap (λ x. t ∷ x) p.1, subst (IsOf 11 (t ∷ [])) p.0 (refl, l, refl), ap root (sym p.0))
  literal_told (inr (l, d)) = dotted_told (t ∷ us) e rest d

  go : (o : Option Symbol) → mark_of t.kind ≡ o → by_mark rec t o us ≡ Some (e, rest) → OperandTold (t ∷ us) e rest
  go (Some s) m r = symbol_told rec told t s us e rest m r
  go None m r = literal_told (chosen (is_literal t.kind) (Some (literal t.offset t, us)) (by_name (t ∷ us)) (Some (e, rest)) r)

-- What parsing gives is a tree of the front.
pub expr_told : (n : ℕ) → IsTold (λ k us. expr n k us)
unfolding expr
expr_told zero least ts e rest one most r = cc
expr_told (suc n) least ts e rest one most r =
    let a = bind_some (operand (λ k us. expr n k us) ts) (λ a. climb (λ k us. expr n k us) n least a.0 a.1) (e, rest) r in
    let f = operand_told (λ k us. expr n k us) (expr_told n) ts a.0.0 a.0.1 a.1 in
    let hi : IsOf least f.0 a.0.0 = raise a.0.0 11 least f.0 f.2 (omega (arith, f.3)) in
    let nx = next_most a.0.1 in
    let c = climb_told (λ k us. expr n k us) (expr_told n) n least f.0 a.0.1 a.0.0 e rest one most hi (omega (arith, f.3)) a.2 in
    (f.0 ++ c.0, f.1 ∙ ap (λ x. f.0 ++ x) c.1 ∙ sym (append_assoc f.0 c.0 rest), c.2, c.3)
