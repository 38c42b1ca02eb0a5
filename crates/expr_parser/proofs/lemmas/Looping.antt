-- The loops of the parser.
use Rattle.std.proofs.Common.{◌≡◌, ℕ, zero, suc, ◌+◌, ◌-◌, ◌<◌, Bool, true, false, cond, List, [], ◌∷◌, ◌++◌, Option, Some, None, refl, sym, ap, ◌∙◌, arith, append_assoc, append-nil}
use Rattle.aidl_base.specs.declared.name.Ident.{Ident}
use Rattle.aidl_syntax.specs.declared.token.Symbol.{Symbol}
use Rattle.aidl_syntax.specs.declared.token.Token.{Token}
use Rattle.aidl_syntax.specs.Trees.{Expr, offset_of}
use Rattle.aidl_syntax.specs.Trees.Expr.{binary}
use Rattle.expr_parser.specs.declared.fault.ParseFault.{ParseFault}
use Rattle.expr_parser.specs.declared.fault.ParseFault.TheVariants as fault
use Rattle.expr_parser.specs.Gives.{Fails}
use Rattle.expr_parser.specs.Reading.{Read, mark_of, name_of, is_dot, after_dot, onto, names, with_names, operand, climb, expr, goes_on, level_by, with_sign, ◌>>=◌}

with_onto : (front : List Ident) (i : Ident) (r : Read (List Ident)) → with_names front (onto i r) ≡ with_names (front ++ i ∷ []) r
with_onto front i None = refl
with_onto front i (Some r) = ap (λ is. Some (is, r.1)) (sym (append_assoc front (i ∷ []) r.0))

name_step : (front : List Ident) (i : Ident) (t : Token) (ts : List Token) → name_of t.kind ≡ Some i
    → with_names front (names true (t ∷ ts)) ≡ with_names (front ++ i ∷ []) (names false ts)
unfolding names
name_step front i t ts e = rw e (with_onto front i (names false ts))

after_more : (ts rest : List Token) → after_dot ts ≡ Some rest → names false ts ≡ names true rest
unfolding names
after_more [] rest e = cc
after_more (t ∷ ts) rest e = go (is_dot (mark_of t.kind)) refl e where
  go : (v : Bool) → is_dot (mark_of t.kind) ≡ v → cond v (Some ts) None ≡ Some rest → cond v (names true ts) (Some ([], t ∷ ts)) ≡ names true rest
  go true v e = let h : ts ≡ rest = cc in ap (names true) h
  go false v e = cc

after_last : (ts : List Token) → after_dot ts ≡ None → names false ts ≡ Some ([], ts)
unfolding names
after_last [] e = refl
after_last (t ∷ ts) e = go (is_dot (mark_of t.kind)) refl e where
  go : (v : Bool) → is_dot (mark_of t.kind) ≡ v → cond v (Some ts) None ≡ None → cond v (names true ts) (Some ([], t ∷ ts)) ≡ Some ([], t ∷ ts)
  go true v e = cc
  go false v e = refl

pub name_dot : (front more : List Ident) (i : Ident) (t : Token) (all ts rest : List Token) → all ≡ t ∷ ts → name_of t.kind ≡ Some i → after_dot ts ≡ Some rest → more ≡ front ++ i ∷ []
    → with_names more (names true rest) ≡ with_names front (names true all)
name_dot front more i t all ts rest whole e dot is =
    ap (λ m. with_names m (names true rest)) is ∙ sym (ap (λ a. with_names front (names true a)) whole ∙ name_step front i t ts e ∙ ap (with_names (front ++ i ∷ [])) (after_more ts rest dot))

pub name_last : (front more : List Ident) (i : Ident) (t : Token) (all ts : List Token) → all ≡ t ∷ ts → name_of t.kind ≡ Some i → after_dot ts ≡ None → more ≡ front ++ i ∷ []
    → with_names front (names true all) ≡ Some (more, ts)
name_last front more i t all ts whole e last is =
    ap (λ a. with_names front (names true a)) whole ∙ name_step front i t ts e ∙ ap (with_names (front ++ i ∷ [])) (after_last ts last)
    ∙ ap (λ m. Some (m, ts)) (append-nil (front ++ i ∷ []) ∙ sym is)

pub name_none : (front : List Ident) (t : Token) (all ts : List Token) → all ≡ t ∷ ts → name_of t.kind ≡ None → with_names front (names true all) ≡ None
unfolding names
name_none front t all ts whole e = rw (whole, e) refl

pub name_no_more : (front : List Ident) (all : List Token) → all ≡ [] → with_names front (names true all) ≡ None
unfolding names
name_no_more front all whole = rw whole refl

pub with_no_names : (r : Read (List Ident)) → with_names [] r ≡ r
with_no_names None = refl
with_no_names (Some r) = refl

-- one level of an expression
pub expr_step : (n least : ℕ) (ts : List Token) → 0 < n
    → expr n least ts ≡ (operand (λ k us. expr (n - 1) k us) ts >>= λ a. climb (λ k us. expr (n - 1) k us) (n - 1) least a.0 a.1)
unfolding expr
expr_step zero least ts lt = absurd (omega arith)
expr_step (suc n) least ts lt = let e : suc n - 1 ≡ n = omega arith in rw e refl

-- the rounds of climbing
pub climb_end : (rec : ℕ → List Token → Read Expr) (n least : ℕ) (a : Expr) (all : List Token) → all ≡ [] → climb rec n least a all ≡ Some (a, all)
unfolding climb
climb_end rec n least a all whole = rw whole refl

pub climb_stop : (rec : ℕ → List Token → Read Expr) (n least : ℕ) (a : Expr) (t : Token) (all ts : List Token) → all ≡ t ∷ ts → goes_on least (level_by (mark_of t.kind)) ≡ false
    → climb rec n least a all ≡ Some (a, all)
unfolding climb
climb_stop rec zero least a t all ts whole e = rw (whole, e) refl
climb_stop rec (suc n) least a t all ts whole e = rw (whole, e) refl

pub climb_none : (rec : ℕ → List Token → Read Expr) (n least : ℕ) (a : Expr) (t : Token) (all ts : List Token) → all ≡ t ∷ ts → goes_on least (level_by (mark_of t.kind)) ≡ true
    → rec (level_by (mark_of t.kind) + 1) ts ≡ None → climb rec n least a all ≡ None
unfolding climb
climb_none rec zero least a t all ts whole e r = rw (whole, e) refl
climb_none rec (suc n) least a t all ts whole e r = rw (whole, e, r) refl

pub climb_more : (rec : ℕ → List Token → Read Expr) (n least : ℕ) (a b : Expr) (s : Symbol) (t : Token) (all ts rest : List Token) → all ≡ t ∷ ts → mark_of t.kind ≡ Some s
    → goes_on least (level_by (mark_of t.kind)) ≡ true → 0 < n → rec (level_by (mark_of t.kind) + 1) ts ≡ Some (b, rest)
    → climb rec n least a all ≡ climb rec (n - 1) least (binary (offset_of a) s a b) rest
unfolding climb
climb_more rec zero least a b s t all ts rest whole sign e lt r = absurd (omega arith)
climb_more rec (suc n) least a b s t all ts rest whole sign e lt r =
    let m : suc n - 1 ≡ n = omega arith in
    rw (whole, e, r, m) (ap (λ x. with_sign x (λ y. climb rec n least (binary (offset_of a) y a b) rest)) sign)

-- a fault of a part is one of the whole
pub fails_over : {Y Z : Type 0} (e : ParseFault) (r : Option Y) (whole : Option Z) → Fails e r → (r ≡ None → whole ≡ None) → Fails e whole
fails_over (fault.Limit l) r whole f g = f
fails_over fault.Syntax r whole f g = g f
fails_over fault.OutOfMemory r whole f g = tt
