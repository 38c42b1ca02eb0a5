-- Where a test passes first in what a function makes of the rest of a list.
use Rattle.std.proofs.Common.{◌≡◌, ℕ, ◌+◌, ◌<◌, suc, Bool, cond, List, map, length, get_or, drop, drop-cons, add-one, Some, sym, ap, ◌∙◌}
use Rattle.std.specs.List.{position_from}

-- at the first of the rest, or else behind it
pub before : {X Y : Type 0} (f : X → Y) (p : Y → Bool) (xs : List X) (n : ℕ) (x : X) → n < length xs → x ≡ get_or xs n x
    → position_from p n (map f (drop n xs)) ≡ cond (p (f x)) (Some n) (position_from p (n + 1) (map f (drop (n + 1) xs)))
before f p xs n x lt is =
    ap (λ zs. position_from p n (map f zs)) (drop-cons xs n x lt)
    ∙ ap (λ z. cond (p (f z)) (Some n) (position_from p (n + 1) (map f (drop (suc n) xs)))) (sym is)
    ∙ ap (λ (j : ℕ). cond (p (f x)) (Some n) (position_from p (n + 1) (map f (drop j xs)))) (sym (add-one n))
