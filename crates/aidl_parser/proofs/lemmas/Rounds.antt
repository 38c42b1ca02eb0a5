-- The rounds of a loop that reads one item after another.
use Rattle.std.proofs.Common.{◌≡◌, ℕ, zero, suc, ◌-◌, ◌<◌, Bool, true, false, List, [], ◌∷◌, ◌++◌, map, Some, None, refl, sym, ap, ◌∙◌, arith, append_assoc, append-nil}
use Rattle.std.proofs.lemmas.List.{map-append}
use Rattle.aidl_syntax.specs.declared.token.Token.{Token}
use Rattle.expr_parser.specs.Reading.{Read, ◌>>=◌}
use Rattle.aidl_parser.specs.steps.Parts.{many, more_at, ahead, with_items}

pub stops : {A : Type 0} (goes : List Token → Bool) (r : List Token → Read A) (n : ℕ) (items : List A) (ts : List Token) → goes ts ≡ false → with_items items (many n goes r ts) ≡ Some (items, ts)
stops goes r zero items ts e = rw e (ap (λ xs. Some (xs, ts)) (append-nil items))
stops goes r (suc n) items ts e = rw e (ap (λ xs. Some (xs, ts)) (append-nil items))

pub fails : {A : Type 0} (goes : List Token → Bool) (r : List Token → Read A) (n : ℕ) (items : List A) (ts : List Token) → goes ts ≡ true → r ts ≡ None → with_items items (many n goes r ts) ≡ None
fails goes r zero items ts e h = rw e refl
fails goes r (suc n) items ts e h = rw e (ap (λ z. with_items items (z >>= more_at (many n goes r))) h)

with_ahead : {A : Type 0} (items : List A) (x : A) (r : Read (List A)) → with_items items (r >>= ahead x) ≡ with_items (items ++ x ∷ []) r
with_ahead items x None = refl
with_ahead items x (Some r) = ap (λ xs. Some (xs, r.1)) (sym (append_assoc items (x ∷ []) r.0))

pub goes_on : {A X : Type 0} (goes : List Token → Bool) (r : List Token → Read A) (view : X → A) (n : ℕ) (items new : List X) (x : X) (ts rest : List Token) → goes ts ≡ true → 0 < n
    → r ts ≡ Some (view x, rest) → new ≡ items ++ x ∷ [] → with_items (map view new) (many (n - 1) goes r rest) ≡ with_items (map view items) (many n goes r ts)
goes_on goes r view zero items new x ts rest e lt h is = absurd (omega arith)
goes_on goes r view (suc n) items new x ts rest e lt h is =
    let z : suc n - 1 ≡ n = omega arith in
    rw (z, e) (ap (λ xs. with_items (map view xs) (many n goes r rest)) is
    ∙ ap (λ xs. with_items xs (many n goes r rest)) (map-append view items (x ∷ []))
    ∙ sym (ap (λ q. with_items (map view items) (q >>= more_at (many n goes r))) h ∙ with_ahead (map view items) (view x) (many n goes r rest)))

pub with_none : {A : Type 0} (r : Read (List A)) → with_items [] r ≡ r
with_none None = refl
with_none (Some r) = refl

-- a first item, and then the others
pub with_first : {A : Type 0} (x : A) (r : Read (List A)) → with_items (x ∷ []) r ≡ (r >>= ahead x)
with_first x None = refl
with_first x (Some r) = refl
