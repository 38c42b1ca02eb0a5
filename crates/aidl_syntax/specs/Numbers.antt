-- The forms of a number, and what they mean (own; the ranges are those of 64 bits).
use Rattle.std.specs.Prelude.{◌≡◌, ◌≤◌, ◌+◌, ◌-◌, ◌*◌, ℕ, Bool, true, false, not, ◌&&◌, ◌||◌, if◌then◌else◌, ◌==◌}
use Rattle.std.specs.Prelude.{nat_le, List, [], ◌∷◌, ◌++◌, ◌⊎◌}
use Rattle.std.specs.Char.{is_ascii_digit, is_ascii_hexdigit}
use Rattle.std.specs.List.{list_all}
use Rattle.aidl_base.specs.Identifiers.{begins}

-- the value of a digit from 0 to 9, A to F or a to f
abbrev pub digit_value : ℕ → ℕ
digit_value b = if nat_le b 57 then b - 48 else (if nat_le b 70 then b - 55 else b - 87)

-- the value of digits, the first the highest, behind digits of value `n`
abbrev pub value_from : ℕ → ℕ → List ℕ → ℕ
value_from base n [] = n
value_from base n (b ∷ bytes) = value_from base (n * base + digit_value b) bytes

-- `0`, or a digit 1 to 9 with further digits; at most 9223372036854775807
abbrev pub IsDecimal : List ℕ → ℕ → Type 0
IsDecimal body bits = (list_all is_ascii_digit body ≡ true) × (begins is_ascii_digit body ≡ true)
    × ((body ≡ 48 ∷ []) ⊎ (begins (λ b. b == 48) body ≡ false)) × (bits ≡ value_from 10 0 body)
    × (bits ≤ 9223372036854775807)

-- `0x` or `0X` with hexadecimal digits; at most 0xffffffffffffffff
abbrev pub IsHexadecimal : List ℕ → ℕ → Type 0
IsHexadecimal body bits = (x : ℕ) × (digits : List ℕ) × (body ≡ 48 ∷ x ∷ digits) × ((x == 120 || x == 88) ≡ true)
    × (list_all is_ascii_hexdigit digits ≡ true) × (begins is_ascii_hexdigit digits ≡ true)
    × (bits ≡ value_from 16 0 digits) × (bits ≤ 18446744073709551615)

-- nothing, or one `L` or `l`
abbrev pub is_suffix : List ℕ → Bool → Bool
is_suffix [] long = not long
is_suffix (b ∷ []) long = long && (b == 76 || b == 108)
is_suffix (b ∷ c ∷ bytes) long = false

abbrev pub IsBody : Bool → List ℕ → ℕ → Type 0
IsBody false body bits = IsDecimal body bits
IsBody true body bits = IsHexadecimal body bits

-- a body of one of the two forms and the suffix
abbrev pub IsNumeral : List ℕ → ℕ → Bool → Bool → Type 0
IsNumeral text bits hexadecimal long = (body suffix : List ℕ) × (text ≡ body ++ suffix)
    × (is_suffix suffix long ≡ true) × IsBody hexadecimal body bits
