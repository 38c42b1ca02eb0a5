-- The edits of one carry, one after the other.
use Rattle.std.proofs.Common.{◌≡◌, ℕ, suc, ◌+◌, ◌<◌, ◌==◌, Bool, true, false, cond, List, [], ◌∷◌, length, get_or, drop, add-one, drop-cons, refl, sym, ap, ◌∙◌, arith}
use Rattle.std.specs.Prelude.{◌≢◌, All}
use Rattle.std.proofs.lemmas.Bool.{eqb-true}
use Rattle.memory_outside.specs.declared.edits.Edit.{Edit}
use Rattle.memory_outside.specs.Edits.{edited, delivered}

module _ (es : List Edit) (i : ℕ) (e : Edit) (carry : ℕ) (bytes : List ℕ) (lt : i < length es) (is : e ≡ get_or es i e) where
  next : drop i es ≡ e ∷ drop (i + 1) es
  next = rw add-one (drop-cons es i e lt ∙ ap (λ d. d ∷ drop (suc i) es) (sym is))

  step : (b : Bool) → (e.carry == carry) ≡ b → delivered (drop (i + 1) es) carry (cond b (edited e.kind bytes) bytes) ≡ delivered (drop i es) carry bytes
  step b test = ap (λ c. delivered (drop (i + 1) es) carry (cond c (edited e.kind bytes) bytes)) (sym test) ∙ sym (ap (λ ds. delivered ds carry bytes) next)

  -- an edit of the carry was applied
  pub applied : (e.carry == carry) ≡ true → delivered (drop (i + 1) es) carry (edited e.kind bytes) ≡ delivered (drop i es) carry bytes
  applied = step true

  -- an edit of another carry wasn't
  pub passed : (e.carry == carry) ≡ false → delivered (drop (i + 1) es) carry bytes ≡ delivered (drop i es) carry bytes
  passed = step false

pub others : (es : List Edit) (carry : ℕ) (bytes : List ℕ) → All (λ e. e.carry ≢ carry) es → delivered es carry bytes ≡ bytes
others [] carry bytes apart = refl
others (e ∷ es) carry bytes apart = by_test (e.carry == carry) refl ∙ others es carry bytes (λ k d lt. apart (suc k) d (omega arith))
  where
    by_test : (b : Bool) → (e.carry == carry) ≡ b → delivered es carry (cond b (edited e.kind bytes) bytes) ≡ delivered es carry bytes
    by_test true same = absurd (apart 0 e (omega arith) (eqb-true e.carry carry same))
    by_test false same = refl
