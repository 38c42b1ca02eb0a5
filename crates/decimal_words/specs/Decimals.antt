-- Words that spell a number in decimal (own).
use Rattle.std.specs.Prelude.{ℕ, Bool, true, false, not, ◌&&◌, ◌==◌, nat_le, if◌then◌else◌, List, [], ◌∷◌, Option}
use Rattle.std.specs.Prelude.{Some, None}
use Rattle.std.specs.Char.{is_ascii_digit}
use Rattle.std.specs.List.{list_all}
use Rattle.std.specs.Str.Parse.{digits_value}

-- a first byte is there, and it isn't `0` unless it is the only one
abbrev pub begins_well : List ℕ → Bool
begins_well [] = false
begins_well (b ∷ []) = true
begins_well (b ∷ c ∷ word) = not (b == 48)

-- decimal digits without a leading zero
abbrev pub is_decimal : List ℕ → Bool
is_decimal word = list_all is_ascii_digit word && begins_well word

-- the number, where it lies between the two
unfoldable pub number_within : ℕ → ℕ → List ℕ → Option ℕ
number_within low high word =
    if is_decimal word && nat_le low (digits_value 10 word) && nat_le (digits_value 10 word) high
    then Some (digits_value 10 word) else None
