-- What a hexadecimal file stands for: digits of either case, two a byte, with blanks anywhere between them (own).
use Rattle.std.specs.Prelude.{ℕ, not, List, Option}
use Rattle.std.specs.List.{filter}
use Rattle.std.specs.Result.{result_ok}
use Rattle.aidl_base.specs.Blanks.{is_blank}
use Rattle.hex.specs.Hex.{decode_of}

-- the bytes of the digits; None where another byte stands, or the number of digits is odd
abbrev pub hexadecimal : List ℕ → Option (List ℕ)
hexadecimal file = result_ok (decode_of (filter (λ b. not (is_blank b)) file))
