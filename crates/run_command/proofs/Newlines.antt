-- The first place of a byte is where a list's first such item stands.
use Rattle.std.proofs.Common.{◌≡◌, ℕ, zero, suc, ◌+◌, ◌<◌, Bool, true, false, cond, List, [], ◌∷◌, length, Option, Some, None, refl, sym, ap, ◌∙◌, arith}
use Rattle.std.specs.Prelude.{IfSome}
use Rattle.std.specs.List.{position, position_from}
use Rattle.std.proofs.lemmas.Iterator.Adapters.{position_from-zero}
use Rattle.memchr.specs.Find.{IsFirst, NoneBefore, Passes}

module _ (test : ℕ → Bool) where
  -- counted from k on
  abbrev shifted : ℕ → Option ℕ → Option ℕ
  shifted k None = None
  shifted k (Some j) = Some (k + j)

  -- where the first stands in a list, by where it stands behind its head
  behind : (k x : ℕ) (xs : List ℕ) → ((r : Option ℕ) → IsFirst (Passes test xs) 0 (length xs) r → position_from test (k + 1) xs ≡ shifted (k + 1) r)
      → (t : Bool) → test x ≡ t → (r : Option ℕ) → IsFirst (Passes test (x ∷ xs)) 0 (length (x ∷ xs)) r → cond t (Some k) (position_from test (k + 1) xs) ≡ shifted k r
  behind k x xs rest true e None h = absurd (h 0 (omega arith) (omega arith) e)
  behind k x xs rest true e (Some zero) h = ap Some (omega arith)
  behind k x xs rest true e (Some (suc j)) h = absurd (h.0.before 0 (omega arith) (omega arith) e)
  behind k x xs rest false e None h = rest None (λ j low high. h (suc j) (omega arith) (omega (arith, high)))
  behind k x xs rest false e (Some zero) h = let never : true ≡ false = sym h.1 ∙ e in cc
  behind k x xs rest false e (Some (suc j)) h =
      let first : NoneBefore (Passes test xs) 0 (length xs) j = record { low = omega arith; high = omega (arith, h.0.high); before = λ i low high. h.0.before (suc i) (omega arith) (omega (arith, high)) } in
      rest (Some j) (first, h.1) ∙ ap Some (omega arith)

  first_from : (k : ℕ) (xs : List ℕ) (r : Option ℕ) → IsFirst (Passes test xs) 0 (length xs) r → position_from test k xs ≡ shifted k r
  first_from k [] None h = refl
  first_from k [] (Some j) h = absurd (omega (arith, h.0.high))
  first_from k (x ∷ xs) r h = behind k x xs (first_from (k + 1) xs) (test x) refl r h

  unshifted : (r : Option ℕ) → shifted 0 r ≡ r
  unshifted None = refl
  unshifted (Some j) = ap Some (omega arith)

  pub first_is : (xs : List ℕ) (r : Option ℕ) → IsFirst (Passes test xs) 0 (length xs) r → r ≡ position test xs
  first_is xs r h = sym (position_from-zero test xs ∙ first_from 0 xs r h ∙ unshifted r)

  pub first_within : (xs : List ℕ) (r : Option ℕ) → IsFirst (Passes test xs) 0 (length xs) r → IfSome r (λ k. k < length xs)
  first_within xs None h = tt
  first_within xs (Some k) h = h.0.high
