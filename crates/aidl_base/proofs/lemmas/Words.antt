-- Words, there and back.
use Rattle.std.proofs.Common.{◌≡◌, ℕ, ◌^◌, ◌<◌, ℤ, pos, negsuc, Bool, true, false, List, ◌++◌, length, nat_lt, Some, None, Ok, refl, ap, ◌∙◌, arith}
use Rattle.std.specs.Int.{w32, w64, to_le_bytes, from_le_bytes, cast_unsigned, cast_signed}
use Rattle.std.specs.Prelude.{FitsSigned}
use Rattle.std.proofs.lemmas.Nat.{le_bytes_4, le_bytes_8, from_le_bytes-to_le_bytes_4, from_le_bytes-to_le_bytes_8}
use Rattle.std.proofs.lemmas.Int.{ints, to_z-of_z, of_z-to_z}
use Rattle.std.proofs.lemmas.Bool.{le-ltb}
use Rattle.aidl_base.specs.Words.{word, word_of, long_word, long_of}
use Rattle.aidl_base.specs.Readings.{Read, ◌>>=◌, word_at, long_at, count_of, count_at}
use Rattle.aidl_base.proofs.lemmas.Lists.{AreBytes}

unsigned_below : (n : ℤ) → FitsSigned w32 n → cast_unsigned w32 n < 2 ^ 32
unsigned_below (pos n) fits = omega (arith, ints)
unsigned_below (negsuc n) fits = omega (arith, ints)

unsigned_long_below : (n : ℤ) → FitsSigned w64 n → cast_unsigned w64 n < 2 ^ 64
unsigned_long_below (pos n) fits = omega (arith, ints)
unsigned_long_below (negsuc n) fits = omega (arith, ints)

pub length-word : (n : ℤ) → length (word n) ≡ 4
length-word n = refl

pub length-long_word : (n : ℤ) → length (long_word n) ≡ 8
length-long_word n = refl

pub word_of-word : (n : ℤ) → FitsSigned w32 n → word_of (word n) ≡ n
word_of-word n fits = ap (cast_signed w32) (from_le_bytes-to_le_bytes_4 (cast_unsigned w32 n) (unsigned_below n fits)) ∙ to_z-of_z w32 n fits

pub long_of-long_word : (n : ℤ) → FitsSigned w64 n → long_of (long_word n) ≡ n
long_of-long_word n fits = ap (cast_signed w64) (from_le_bytes-to_le_bytes_8 (cast_unsigned w64 n) (unsigned_long_below n fits)) ∙ to_z-of_z w64 n fits

-- a word that was written is read, whatever follows it
pub word_again : (n : ℤ) (inside : Bool) (rest : List ℕ) → FitsSigned w32 n → word_at inside (word n ++ rest) ≡ Ok (n, rest)
word_again n inside rest fits =
    let enough : nat_lt (length (word n ++ rest)) 4 ≡ false = le-ltb _ _ (omega arith) in
    rw (enough, word_of-word n fits) refl

pub long_again : (n : ℤ) (inside : Bool) (rest : List ℕ) → FitsSigned w64 n → long_at inside (long_word n ++ rest) ≡ Ok (n, rest)
long_again n inside rest fits =
    let enough : nat_lt (length (long_word n ++ rest)) 8 ≡ false = le-ltb _ _ (omega arith) in
    rw (enough, long_of-long_word n fits) refl

pub fits_pos : (n : ℕ) → n < 2 ^ 31 → FitsSigned w32 (pos n)
fits_pos n lt = omega (arith, ints)

-- a count
pub count_again : (nullable : Bool) (n : ℕ) (inside : Bool) (rest : List ℕ) → n < 2 ^ 31 → count_at nullable inside (word (pos n) ++ rest) ≡ Ok (Some n, rest)
unfolding count_at
count_again nullable n inside rest lt =
    ap (λ (w : Read ℤ). w >>= λ x. count_of nullable x.0 >>= λ m. Ok (m, x.1)) (word_again (pos n) inside rest (fits_pos n lt))

pub null_again : (inside : Bool) (rest : List ℕ) → count_at true inside (word (negsuc 0) ++ rest) ≡ Ok (None, rest)
unfolding count_at
null_again inside rest = ap (λ (w : Read ℤ). w >>= λ x. count_of true x.0 >>= λ m. Ok (m, x.1)) (word_again (negsuc 0) inside rest (omega (arith, ints)))

below_word : (b : List ℕ) → AreBytes b → from_le_bytes w32 b < 2 ^ 32
below_word b bytes = omega (arith, bytes 0, bytes 1, bytes 2, bytes 3)

below_long : (b : List ℕ) → AreBytes b → from_le_bytes w64 b < 2 ^ 64
below_long b bytes = omega (arith, bytes 0, bytes 1, bytes 2, bytes 3, bytes 4, bytes 5, bytes 6, bytes 7)

signed_fits : (n : ℕ) → n < 2 ^ 32 → FitsSigned w32 (cast_signed w32 n)
signed_fits n lt = omega (arith, ints)

signed_long_fits : (n : ℕ) → n < 2 ^ 64 → FitsSigned w64 (cast_signed w64 n)
signed_long_fits n lt = omega (arith, ints)

-- four bytes are the word that is read of them
pub word-word_of : (b : List ℕ) → AreBytes b → length b ≡ 4 → word (word_of b) ≡ b
word-word_of b bytes len =
    let n = from_le_bytes w32 b in
    ap (to_le_bytes w32) (of_z-to_z w32 n (below_word b bytes)) ∙ le_bytes_4 b n len bytes refl

pub word_of-fits : (b : List ℕ) → AreBytes b → FitsSigned w32 (word_of b)
word_of-fits b bytes = signed_fits _ (below_word b bytes)

-- and eight the long
pub long_word-long_of : (b : List ℕ) → AreBytes b → length b ≡ 8 → long_word (long_of b) ≡ b
long_word-long_of b bytes len =
    let n = from_le_bytes w64 b in
    ap (to_le_bytes w64) (of_z-to_z w64 n (below_long b bytes)) ∙ le_bytes_8 b n len bytes refl

pub long_of-fits : (b : List ℕ) → AreBytes b → FitsSigned w64 (long_of b)
long_of-fits b bytes = signed_long_fits _ (below_long b bytes)
