-- Which versions and hashes an interface may have (own).
use Rattle.std.specs.Prelude.{◌≡◌, ℕ, ◌≤◌, true, List, length}
use Rattle.std.specs.List.{list_all}
use Rattle.hex.specs.Hex.{is_hex_digit}

-- a version is a number from 1 to 9,999
pub record IsVersion (version : ℕ) : Type 0 where
  pub first : 1 ≤ version
  pub last : version ≤ 9999

-- a hash is 40 hexadecimal digits
pub record IsHash (hash : List ℕ) : Type 0 where
  pub digits : list_all is_hex_digit hash ≡ true
  pub forty : length hash ≡ 40
