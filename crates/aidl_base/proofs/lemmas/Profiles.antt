-- What each profile permits of what is written, and what an item of bytes and their padding is.
use Rattle.std.proofs.Common.{◌≡◌, ℕ, suc, ◌+◌, ◌-◌, ◌%◌, ◌^◌, ◌<◌, ◌≤◌, ℤ, pos, negsuc, Bool, true, List, length, take, drop, replicate, refl, sym, ap, ◌∙◌, arith, length-append}
use Rattle.std.specs.Prelude.{FitsSigned}
use Rattle.std.specs.Int.{w8}
use Rattle.std.proofs.lemmas.Int.{ints}
use Rattle.std.proofs.lemmas.List.{length-replicate, take-append-drop, length-take-le}
use Rattle.aidl_base.specs.declared.profile.Profile.{Profile}
use Rattle.aidl_base.specs.declared.profile.Profile.TheVariants.{Strict, Lenient}
use Rattle.aidl_base.specs.Profiles.{permits, byte_of, char_of, is_padding, IsPadded}
use Rattle.aidl_base.specs.Words.{pad, padding}
use Rattle.aidl_base.proofs.lemmas.Lists.{drop_front, take_front, zeros}

-- what is written is taken by both
pub permits_written : (p : Profile) (b : Bool) → b ≡ true → permits p b ≡ true
permits_written Strict b e = e
permits_written Lenient b e = refl

-- what the strict profile takes, the lenient one does
pub permits_strict : (b : Bool) → permits Strict b ≡ true → permits Lenient b ≡ true
permits_strict b e = refl

-- a byte is that of its word, and a char
pub byte_back : (n : ℤ) → FitsSigned w8 n → byte_of n ≡ n
byte_back (pos n) fits = omega (arith, ints)
byte_back (negsuc n) fits =
    let le : n < 128 = omega (arith, ints) in
    let low : (2 ^ 32 - suc n) % 256 ≡ 256 - suc n = omega arith in
    let high : 128 ≤ (2 ^ 32 - suc n) % 256 = omega arith in
    grind (arith, ints, low, high)

pub char_back : (n : ℕ) → n < 2 ^ 16 → char_of (pos n) ≡ n
char_back n lt = omega (arith, ints)

-- each word means a byte, and a char
pub byte_of-fits : (w : ℤ) → FitsSigned w8 (byte_of w)
byte_of-fits w = omega (arith, ints)

pub char_of-below : (w : ℤ) → char_of w < 2 ^ 16
char_of-below w = omega arith

-- bytes padded with zeros are padded, by both profiles
pub padded : (p : Profile) (bytes : List ℕ) → IsPadded p bytes (pad bytes)
padded p bytes = (replicate (padding (length bytes)) 0, refl, length-replicate _ _, permits_written p _ (zeros (padding (length bytes))))

module _ (p : Profile) (bytes b : List ℕ) (n : ℕ) (len : length bytes ≡ n) (is : IsPadded p bytes b) where
  pub length-padded : length b ≡ n + padding n
  length-padded = ap length is.1 ∙ length-append bytes is.0 ∙ ap (λ k. length bytes + k) is.2 ∙ ap (λ k. k + padding k) len

  pub front_padded : take n b ≡ bytes
  front_padded = ap (take n) is.1 ∙ take_front bytes is.0 n len

  pub tail_padded : is_padding p (drop n b) ≡ true
  tail_padded = ap (λ c. is_padding p (drop n c)) is.1 ∙ ap (is_padding p) (drop_front bytes is.0 n len) ∙ is.3

-- an item of n bytes and padding, by what follows the n bytes
pub padded_by : (p : Profile) (n : ℕ) (b : List ℕ) → length b ≡ n + padding n → is_padding p (drop n b) ≡ true → IsPadded p (take n b) b
padded_by p n b len tail =
    let front : length (take n b) ≡ n = length-take-le n b (omega arith) in
    let whole : length (take n b) + length (drop n b) ≡ n + padding n = sym (length-append (take n b) (drop n b)) ∙ ap length (take-append-drop n b) ∙ len in
    let rest : length (drop n b) ≡ padding n = omega arith in
    (drop n b, sym (take-append-drop n b), rest ∙ ap padding (sym front), tail)
