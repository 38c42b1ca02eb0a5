-- Classes of bytes. All of a file but its comments is ASCII (own).
use Rattle.std.specs.Prelude.{ℕ, Bool, false, not, ◌&&◌, ◌||◌, ◌==◌, nat_le, List, [], ◌∷◌}
use Rattle.aidl_base.specs.Identifiers.{begins}

abbrev pub is_no_newline : ℕ → Bool
is_no_newline b = not (b == 10)

-- what may stand inside a pair of quotes: a printable character other than the quote and `\`
abbrev pub is_inside : ℕ → ℕ → Bool
is_inside quote b = nat_le 32 b && nat_le b 126 && not (b == quote) && not (b == 92)

-- `*/` stands somewhere
abbrev pub has_close : List ℕ → Bool
has_close [] = false
has_close (b ∷ bytes) = (b == 42 && begins (λ c. c == 47) bytes) || has_close bytes

-- `//` or `/*` stands at the front
abbrev pub is_comment : List ℕ → Bool
is_comment [] = false
is_comment (b ∷ bytes) = b == 47 && (begins (λ c. c == 47) bytes || begins (λ c. c == 42) bytes)
