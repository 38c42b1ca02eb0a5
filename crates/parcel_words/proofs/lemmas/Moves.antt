-- Moves of a reader, one after the other.
use Rattle.std.proofs.Common.{◌≡◌, ℕ, ◌+◌, ◌-◌, ◌≤◌, length, ap, ◌∙◌, arith, length-drop}
use Rattle.parcel_words.specs.Place.{Place, left, moved, MovesOn}

length-left-moved : (p : Place) (n : ℕ) → length (left (moved p n)) ≡ length (left p) - n
length-left-moved p n = simp length-drop (omega arith)

pub on_shorter : (p q : Place) → MovesOn p q → length (left q) ≤ length (left p)
on_shorter p q h = let e : length (left q) ≡ length (left p) - (length (left p) - length (left q)) = ap (λ x. length (left x)) h ∙ length-left-moved p _ in omega arith

-- the place at a position
abbrev place : Place → ℕ → Place
place p i = record { profile = p.profile; bytes = p.bytes; position = i; ends = p.ends }

moved_twice : (p : Place) (m n k : ℕ) → m + n ≡ k → moved (moved p m) n ≡ moved p k
moved_twice p m n k e =
    let at : p.position + m + n ≡ p.position + k = omega arith in
    ap (λ i. place p i) at

pub on_and_on : (p q r : Place) → MovesOn p q → MovesOn q r → MovesOn p r
on_and_on p q r h k =
    let first = on_shorter p q h in
    let second = on_shorter q r k in
    k ∙ ap (λ x. moved x (length (left q) - length (left r))) h ∙ moved_twice p _ _ _ (omega arith)
