-- A number in a range fits so many bits, and the other way round.
use Rattle.std.proofs.Common.{◌≡◌, ℕ, ◌≤◌, ◌<◌, ◌^◌, ℤ, pos, negsuc, true, arith}
use Rattle.std.specs.Prelude.{FitsSigned}
use Rattle.std.specs.Int.{w8, w32, w64}
use Rattle.std.proofs.lemmas.Int.{ints}
use Rattle.std.proofs.lemmas.Bool.Decides.{nat_tests}
use Rattle.aidl_base.specs.declared.range.Range.TheVariants.{Byte, Char, Int, Long}
use Rattle.aidl_base.specs.Ranges.{is_in}

pub byte_fits : (n : ℤ) → is_in Byte n ≡ true → FitsSigned w8 n
byte_fits (pos n) e = let le : n ≤ 127 = grind (arith, nat_tests) in omega (arith, ints)
byte_fits (negsuc n) e = let le : n ≤ 127 = grind (arith, nat_tests) in omega (arith, ints)

pub int_fits : (n : ℤ) → is_in Int n ≡ true → FitsSigned w32 n
int_fits (pos n) e = let le : n ≤ 2147483647 = grind (arith, nat_tests) in omega (arith, ints)
int_fits (negsuc n) e = let le : n ≤ 2147483647 = grind (arith, nat_tests) in omega (arith, ints)

pub long_fits : (n : ℤ) → is_in Long n ≡ true → FitsSigned w64 n
long_fits (pos n) e = let le : n ≤ 9223372036854775807 = grind (arith, nat_tests) in omega (arith, ints)
long_fits (negsuc n) e = let le : n ≤ 9223372036854775807 = grind (arith, nat_tests) in omega (arith, ints)

-- a char, as a word
pub char_fits : (n : ℤ) → is_in Char n ≡ true → FitsSigned w32 n
char_fits (pos n) e = let le : n ≤ 65535 = grind (arith, nat_tests) in omega (arith, ints)
char_fits (negsuc n) e = cc

-- a byte, as a word
pub byte_fits_word : (n : ℤ) → is_in Byte n ≡ true → FitsSigned w32 n
byte_fits_word n e = let fits = byte_fits n e in omega (arith, ints)

pub fits_byte : (n : ℤ) → FitsSigned w8 n → is_in Byte n ≡ true
fits_byte (pos n) h = let le : n ≤ 127 = omega (arith, ints) in grind (arith, nat_tests)
fits_byte (negsuc n) h = let le : n ≤ 127 = omega (arith, ints) in grind (arith, nat_tests)

pub fits_int : (n : ℤ) → FitsSigned w32 n → is_in Int n ≡ true
fits_int (pos n) h = let le : n ≤ 2147483647 = omega (arith, ints) in grind (arith, nat_tests)
fits_int (negsuc n) h = let le : n ≤ 2147483647 = omega (arith, ints) in grind (arith, nat_tests)

pub fits_long : (n : ℤ) → FitsSigned w64 n → is_in Long n ≡ true
fits_long (pos n) h = let le : n ≤ 9223372036854775807 = omega (arith, ints) in grind (arith, nat_tests)
fits_long (negsuc n) h = let le : n ≤ 9223372036854775807 = omega (arith, ints) in grind (arith, nat_tests)

pub below_char : (n : ℕ) → n < 2 ^ 16 → is_in Char (pos n) ≡ true
below_char n lt = let le : n ≤ 65535 = omega arith in grind (arith, nat_tests)
