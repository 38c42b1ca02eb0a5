-- A place goes into a sorted set as its breach goes into a sorted list.
use Rattle.std.proofs.Common.{◌≡◌, List, [], ◌∷◌, map, refl, sym, ◌∙◌, ap, ◌+◌, ℕ, ◌<◌, get_or, drop, drop-cons, add-one, length}
use Rattle.std.specs.List.{fold}
use Rattle.std.specs.declared.cmp.Ordering.{Ordering}
use Rattle.std.specs.declared.cmp.Ordering.TheVariants.{Less, Equal, Greater}
use Rattle.std.specs.Ordering.{match_ordering}
use Rattle.std.specs.BTreeSet.{insert_key}
use Rattle.aidl_base.specs.declared.breach.Breach.{Breach}
use Rattle.aidl_names.specs.declared.order.Place.{Place}
use Rattle.aidl_names.specs.Breaches.{order, put}
use Rattle.aidl_names.specs.Places.{breach_of}

pub inserted : (cmp : Place → Place → Ordering) → ((a b : Place) → cmp a b ≡ order (breach_of a) (breach_of b))
    → (keys : List Place) (p : Place) → map breach_of (insert_key cmp keys p) ≡ put (map breach_of keys) (breach_of p)
inserted cmp h [] p = refl
inserted cmp h (x ∷ keys) p = go (cmp p x) (inserted cmp h keys p) ∙ ap (λ o. match_ordering o (breach_of p ∷ breach_of x ∷ map breach_of keys) (breach_of x ∷ map breach_of keys) (breach_of x ∷ put (map breach_of keys) (breach_of p))) (h p x) where
  go : (o : Ordering) → map breach_of (insert_key cmp keys p) ≡ put (map breach_of keys) (breach_of p)
      → map breach_of (match_ordering o (p ∷ x ∷ keys) (x ∷ keys) (x ∷ insert_key cmp keys p))
      ≡ match_ordering o (breach_of p ∷ breach_of x ∷ map breach_of keys) (breach_of x ∷ map breach_of keys) (breach_of x ∷ put (map breach_of keys) (breach_of p))
  go Less e = refl
  go Equal e = refl
  go Greater e = ap (λ z. breach_of x ∷ z) e

-- one more breach goes in
pub next_in : (cmp : Place → Place → Ordering) → ((a b : Place) → cmp a b ≡ order (breach_of a) (breach_of b))
    → (keys new : List Place) (p : Place) (rows all : List Breach) (i : ℕ) (d : Breach)
    → new ≡ insert_key cmp keys p → i < length rows → breach_of p ≡ get_or rows i d → fold put (map breach_of keys) (drop i rows) ≡ all
    → fold put (map breach_of new) (drop (i + 1) rows) ≡ all
next_in cmp h keys new p rows all i d e lt is invariant =
    ap (λ z. fold put (map breach_of z) (drop (i + 1) rows)) e
    ∙ ap (λ z. fold put z (drop (i + 1) rows)) (inserted cmp h keys p)
    ∙ ap (λ b. fold put (put (map breach_of keys) b) (drop (i + 1) rows)) is
    ∙ ap (λ (j : ℕ). fold put (put (map breach_of keys) (get_or rows i d)) (drop j rows)) (add-one i)
    ∙ ap (λ bs. fold put (map breach_of keys) bs) (sym (drop-cons rows i d lt)) ∙ invariant
