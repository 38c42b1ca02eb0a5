-- What a version keeps that is whole begins with 40 hexadecimal digits.
use Rattle.std.proofs.Common.{◌≡◌, ℕ, zero, suc, ◌*◌, ◌/◌, ◌%◌, ◌<◌, Bool, true, false, List, [], ◌∷◌, ◌++◌, length, take, slice_index, Option, Some, None, Result, Ok, Err, refl, sym, ap, subst, arith, length-append}
use Rattle.std.specs.Prelude.{◌||◌, IfOk, bytes_eq, codes}
use Rattle.std.specs.Int.{w32, to_be_bytes, byte_at, bytes_high_first}
use Rattle.std.specs.List.{list_all}
use Rattle.std.proofs.Math.Seq.{take-append_seam}
use Rattle.std.proofs.lemmas.Slice.Eq.{bytes_eq-Decides}
use Rattle.hex.proofs.HexLemmas.{IsDigits-lower_digits, length-encode_with}
use Rattle.hex.specs.Hex.{encode_with, hex_digit_value, is_hex_digit, lower_digits}
use Rattle.sha1.specs.Sha1.{digest_bytes, sha1}
use Rattle.aidl_base.specs.declared.memory.OutOfMemory.{OutOfMemory}
use Rattle.aidl_base.specs.declared.source_file.SourceFile.{SourceFile}
use Rattle.api_hash.specs.declared.hashing.Recipe.{Recipe}
use Rattle.api_hash.specs.declared.hashing.Recipe.TheVariants.{One, Two}
use Rattle.api_hash.specs.HashText.{digits, hash_text}
use Rattle.api_versions.specs.declared.version.Version.{Version}
use Rattle.api_versions.specs.Whole.{is_kept, is_whole}
use Rattle.ask_command.specs.Versions.{hash_of}
use Rattle.meta_calls.specs.Versions.{IsHash}

-- each is below 256
abbrev AreBytes : List ℕ → Type 0
AreBytes [] = Unit {0}
AreBytes (b ∷ bytes) = (b < 256) × AreBytes bytes

bytes_append : (xs ys : List ℕ) → AreBytes xs → AreBytes ys → AreBytes (xs ++ ys)
bytes_append [] ys h k = k
bytes_append (x ∷ xs) ys h k = (h.0, bytes_append xs ys h.1 k)

-- the two digits of a byte
digits_pass : (xs : List ℕ) → AreBytes xs → list_all is_hex_digit (encode_with lower_digits xs) ≡ true
unfolding encode_with
digits_pass [] h = refl
digits_pass (b ∷ rest) h =
    let high : hex_digit_value (slice_index lower_digits (b / 16)) ≡ Some (b / 16) = IsDigits-lower_digits (b / 16) (omega (arith, h.0)) in
    let low : hex_digit_value (slice_index lower_digits (b % 16)) ≡ Some (b % 16) = IsDigits-lower_digits (b % 16) (omega arith) in
    let others = digits_pass rest h.1 in
    rw (high, low) others

one_byte : (k n : ℕ) → byte_at k n < 256
one_byte zero n = omega arith
one_byte (suc i) n = omega arith

number_bytes : (k n : ℕ) → AreBytes (bytes_high_first k n) × (length (bytes_high_first k n) ≡ k)
number_bytes zero n = (tt, refl)
number_bytes (suc k) n = let r = number_bytes k n in ((one_byte k n, r.0), ap suc r.1)

digest_is : (h : List ℕ) (n : ℕ) → AreBytes (digest_bytes h n) × (length (digest_bytes h n) ≡ n * 4)
unfolding digest_bytes
digest_is h zero = (tt, refl)
digest_is h (suc n) =
    let r = digest_is h n in
    let word = number_bytes 4 (slice_index h n) in
    (bytes_append (digest_bytes h n) (to_be_bytes w32 (slice_index h n)) r.0 word.0, omega (arith, length-append (digest_bytes h n) (to_be_bytes w32 (slice_index h n)), r.1, word.1))

sha1_is : (m : List ℕ) → AreBytes (sha1 m) × (length (sha1 m) ≡ 20)
unfolding sha1
sha1_is m = digest_is _ 5

digits_are : (m : List ℕ) → IsHash (digits m)
digits_are m = let r = sha1_is m in record { digits = digits_pass (sha1 m) r.0; forty = omega (arith, length-encode_with lower_digits (sha1 m), r.1) }

front_is : (m rest : List ℕ) → IsHash (take 40 (digits m ++ rest))
front_is m rest =
    let all : take 40 (digits m ++ rest) ≡ digits m = subst (λ n. take n (digits m ++ rest) ≡ digits m) (digits_are m).forty (take-append_seam (digits m) rest) in
    subst IsHash (sym all) (digits_are m)

text_is : (files : List SourceFile) (r : Recipe) → IsHash (take 40 (hash_text files r))
text_is files r = front_is _ (codes "\n")

-- by one of two texts that a `.hash` has
kept_is : (kept : Option (List ℕ)) (a b : List ℕ) → IsHash (take 40 a) → IsHash (take 40 b) → (is_kept kept a || is_kept kept b) ≡ true → IsHash (hash_of kept)
kept_is None a b h k e = absurd cc
kept_is (Some kept) a b h k e = by (bytes_eq kept a) refl e
  where
    by : (t : Bool) → bytes_eq kept a ≡ t → (t || bytes_eq kept b) ≡ true → IsHash (take 40 kept)
    by true same e = subst (λ x. IsHash (take 40 x)) (sym ((bytes_eq-Decides kept a).0 same)) h
    by false other e = subst (λ x. IsHash (take 40 x)) (sym ((bytes_eq-Decides kept b).0 e)) k

pub whole_hash : (v : Version) (r : Result (List ℕ) OutOfMemory) → is_whole v ≡ true → IfOk r (λ hash. hash ≡ hash_of v.kept) → IfOk r IsHash
whole_hash v (Ok hash) whole e =
    subst IsHash (sym e) (kept_is v.kept (hash_text v.files One) (hash_text v.files (Two v.number)) (text_is v.files One) (text_is v.files (Two v.number)) whole)
whole_hash v (Err fault) whole e = tt
