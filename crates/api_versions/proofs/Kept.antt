-- What is kept of a list.
use Rattle.std.proofs.Common.{◌≡◌, Bool, true, false, cond, List, [], ◌∷◌, map, refl, ap}
use Rattle.std.specs.List.{filter}

-- by what its items are seen as
module _ {X Y : Type 0} (seen : X → Y) (test : Y → Bool) where
  kept_first : (b : Bool) (x : X) (xs : List X) (ys : List Y) → map seen xs ≡ ys → map seen (cond b (x ∷ xs) xs) ≡ cond b (seen x ∷ ys) ys
  kept_first true x xs ys h = ap (λ l. seen x ∷ l) h
  kept_first false x xs ys h = h

  pub kept_seen : (xs : List X) → map seen (filter (λ x. test (seen x)) xs) ≡ filter test (map seen xs)
  kept_seen [] = refl
  kept_seen (x ∷ xs) = kept_first (test (seen x)) x (filter (λ y. test (seen y)) xs) (filter test (map seen xs)) (kept_seen xs)
