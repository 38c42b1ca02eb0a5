-- Keys that are lent.
use Rattle.std.specs.Prelude.{ℕ, List, map}
use Rattle.std.specs.Borrow.{Bor}

abbrev pub seen_keys : List (Bor (List ℕ)) → List (List ℕ)
seen_keys keys = map (λ k. k.now) keys
