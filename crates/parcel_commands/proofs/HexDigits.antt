-- Hexadecimal digits are ASCII.
use Rattle.std.proofs.Common.{◌≡◌, ℕ, Bool, true, false, cond, nat_lt, List, [], ◌∷◌, refl}
use Rattle.std.specs.Str.{IsAscii}
use Rattle.std.proofs.lemmas.Bool.{ltb-true}
use Rattle.std.proofs.lemmas.Str.Ascii.{IsAscii-nil, IsAscii-cons}
use Rattle.hex.specs.Hex.{encode_lower, lower_digits}
use Rattle.hex.proofs.HexLemmas.{IsAscii-encode_with}

-- each byte is ASCII: a test that computes
abbrev are_ascii : List ℕ → Bool
are_ascii [] = true
are_ascii (b ∷ bytes) = cond (nat_lt b 128) (are_ascii bytes) false

one_more : (b : ℕ) (bytes : List ℕ) (low : Bool) → nat_lt b 128 ≡ low → (are_ascii bytes ≡ true → IsAscii bytes) → cond low (are_ascii bytes) false ≡ true → IsAscii (b ∷ bytes)
one_more b bytes true is others e = IsAscii-cons b bytes (ltb-true b 128 is) (others e)
one_more b bytes false is others e = absurd cc

by_test : (bytes : List ℕ) → are_ascii bytes ≡ true → IsAscii bytes
by_test [] e = IsAscii-nil
by_test (b ∷ bytes) e = one_more b bytes (nat_lt b 128) refl (by_test bytes) e

pub digits_ascii : (bytes : List ℕ) → IsAscii (encode_lower bytes)
digits_ascii bytes = IsAscii-encode_with lower_digits bytes (by_test lower_digits refl)
