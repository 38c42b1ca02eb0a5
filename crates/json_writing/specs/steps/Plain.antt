-- Which bytes stand in a JSON string as they are.
use Rattle.std.specs.Prelude.{ℕ, Bool, not, ◌&&◌, ◌==◌, nat_le}

-- no control character, no quote and no backslash
abbrev pub is_plain_byte : ℕ → Bool
is_plain_byte b = nat_le 32 b && (not (b == 34) && not (b == 92))
