-- The first 40 bytes of fewer.
use Rattle.std.proofs.Common.{◌≡◌, ℕ, ◌<◌, List, length, take, sym, arith}
use Rattle.std.proofs.lemmas.List.{take_all}

pub all_of_few : (bytes : List ℕ) → length bytes < 40 → bytes ≡ take 40 bytes
all_of_few bytes few = sym (take_all 40 bytes (omega arith))
