-- The next place with the same mark.
use Rattle.std.specs.Prelude.{◌≡◌, ◌≤◌, ◌<◌, ◌+◌, ℕ, nat_eq, get_or, drop, length, List, Option, None}
use Rattle.std.specs.List.{position_from}

-- each place from one on has its next one
abbrev pub AreNexts : List ℕ → List (Option ℕ) → ℕ → Type 0
AreNexts marks nexts low = (i : ℕ) → low ≤ i → i < length marks
    → get_or nexts i None ≡ position_from (nat_eq (get_or marks i 0)) (i + 1) (drop (i + 1) marks)
