-- Taking items one after the other, as a loop does.
use Rattle.std.proofs.Common.{◌≡◌, ℕ, suc, ◌-◌, ◌+◌, ◌≤◌, ◌<◌, ℤ, List, [], ◌∷◌, ◌++◌, Ok, Err, refl, sym, ap, ◌∙◌, arith, append_assoc}
use Rattle.std.proofs.lemmas.List.{append-nil}
use Rattle.aidl_base.specs.Readings.{Read, ◌>>=◌, items_at}
use Rattle.parcel_words.specs.declared.fault.ReadFault.{ReadFault}
use Rattle.parcel_words.specs.Taken.{RefusesIfMemory}
use Rattle.parcel_words.proofs.lemmas.Faults.{fails_as}

-- what was read before, and what is still read
abbrev pub after_front : {A : Type 0} → List A → Read (List A) → Read (List A)
after_front front reading = reading >>= λ x. Ok (front ++ x.0, x.1)

regroup : {A : Type 0} (front : List A) (x : A) (reading : Read (List A)) → after_front front (reading >>= λ y. Ok (x ∷ y.0, y.1)) ≡ after_front (front ++ x ∷ []) reading
regroup front x (Ok y) = ap (λ xs. Ok (xs, y.1)) (sym (append_assoc front (x ∷ []) y.0))
regroup front x (Err s) = refl

-- no items before
pub from_none : {A : Type 0} (reading : Read (List A)) → after_front [] reading ≡ reading
from_none (Ok y) = refl
from_none (Err s) = refl

module _ {A : Type 0} (read : List ℕ → Read A) (front : List A) (count i : ℕ) (b : List ℕ) (total : Read (List A)) (so_far : after_front front (items_at read (count - i) b) ≡ total) where
  pub goes_on : (x : A) (rest : List ℕ) → i < count → read b ≡ Ok (x, rest) → after_front (front ++ x ∷ []) (items_at read (count - (i + 1)) rest) ≡ total
  goes_on x rest lt h =
      let k : count - i ≡ suc (count - (i + 1)) = omega arith in
      let one : after_front front (items_at read (count - i) b) ≡ after_front (front ++ x ∷ []) (items_at read (count - (i + 1)) rest) = rw (k, h) (regroup front x (items_at read (count - (i + 1)) rest)) in
      sym one ∙ so_far

  stops : (s : ℤ) → i < count → read b ≡ Err s → total ≡ Err s
  stops s lt h =
      let k : count - i ≡ suc (count - (i + 1)) = omega arith in
      let one : after_front front (items_at read (count - i) b) ≡ Err s = rw (k, h) refl in
      sym so_far ∙ one

  pub ends : (e : ReadFault) → i < count → RefusesIfMemory e (read b) → RefusesIfMemory e total
  ends e lt h = fails_as e (read b) total (λ s k. stops s lt k) h

  pub is_done : count ≤ i → total ≡ Ok (front, b)
  is_done le =
      let k : count - i ≡ 0 = omega arith in
      let one : after_front front (items_at read (count - i) b) ≡ Ok (front, b) = rw k (ap (λ xs. Ok (xs, b)) (append-nil front)) in
      sym so_far ∙ one
