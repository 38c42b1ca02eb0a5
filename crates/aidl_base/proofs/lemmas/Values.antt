-- Values of built-in types: what was spelled is read again, whatever follows it, and no spelling is a proper prefix of another.
use Rattle.std.proofs.Common.{◌≡◌, ℕ, ◌^◌, ◌<◌, ℤ, pos, negsuc, Bool, true, false, nat_lt, List, [], ◌++◌, length, Ok, refl, sym, ap, ◌∙◌, arith, length-append}
use Rattle.std.specs.Int.{w8, w32, w64}
use Rattle.std.specs.Prelude.{FitsSigned}
use Rattle.std.proofs.lemmas.List.{append-nil}
use Rattle.std.proofs.lemmas.Bool.{le-ltb}
use Rattle.std.proofs.lemmas.Int.{ints}
use Rattle.aidl_base.specs.Words.{word, long_word}
use Rattle.aidl_base.specs.Spellings.{spell_truth}
use Rattle.aidl_base.specs.declared.profile.Profile.{Profile}
use Rattle.aidl_base.specs.declared.profile.Profile.TheVariants.{Strict}
use Rattle.aidl_base.specs.Profiles.{is_truth_word, truth_of, is_byte_word, byte_of, is_char_word, char_of, IsWord}
use Rattle.aidl_base.specs.Readings.{Read, word_at, long_at, word_as, truth_at, byte_at, char_at}
use Rattle.aidl_base.proofs.lemmas.Lists.{take_front, drop_front}
use Rattle.aidl_base.proofs.lemmas.Profiles.{permits_written, byte_back, char_back}
use Rattle.aidl_base.proofs.lemmas.Ranges.{fits_byte, below_char, char_fits}
use Rattle.aidl_base.specs.declared.range.Range.TheVariants as range
use Rattle.aidl_base.specs.Ranges.{is_in}
use Rattle.std.proofs.lemmas.Bool.Decides.{nat_tests}
use Rattle.aidl_base.proofs.lemmas.Words.{word_of-word, word_again, long_again}

-- where one reading reads both spellings again, nothing follows the first in the second
pub prefix_by_reading : {A : Type 0} (read : List ℕ → Read A) (x y : A) (b c rest : List ℕ) → ((r : List ℕ) → read (b ++ r) ≡ Ok (x, r)) → ((r : List ℕ) → read (c ++ r) ≡ Ok (y, r)) → b ++ rest ≡ c → rest ≡ []
prefix_by_reading {A} read x y b c rest first second e =
    let both : ◌≡◌ {A = Read A} (Ok (x, rest)) (Ok (y, [])) = sym (first rest) ∙ ap read (e ∙ sym (append-nil c)) ∙ second [] in
    let pair : ◌≡◌ {A = A × List ℕ} (x, rest) (y, []) = cc in
    ap (λ p. p.1) pair

pub word_prefix : (m n : ℤ) (rest : List ℕ) → FitsSigned w32 m → FitsSigned w32 n → word m ++ rest ≡ word n → rest ≡ []
word_prefix m n rest p q e = prefix_by_reading (λ x. word_at false x) m n (word m) (word n) rest (λ r. word_again m false r p) (λ r. word_again n false r q) e

module _ {A : Type 0} (may : ℤ → Bool) (means : ℤ → A) (inside : Bool) (rest : List ℕ) where
  -- a word that means x is read as x, whatever follows it
  pub is_word_again : (b : List ℕ) (x : A) → IsWord may means b x → word_as may means inside (b ++ rest) ≡ Ok (x, rest)
  unfolding word_as
  is_word_again b x is =
      let enough : nat_lt (length (b ++ rest)) 4 ≡ false = le-ltb _ _ (omega (arith, is.0, length-append b rest)) in
      rw (enough, take_front b rest 4 is.0, drop_front b rest 4 is.0, is.1) (ap (λ y. Ok (y, rest)) is.2)

-- a word that was written for x is one that means x
pub written_word : {A : Type 0} (may : ℤ → Bool) (means : ℤ → A) (n : ℤ) (x : A) → FitsSigned w32 n → may n ≡ true → means n ≡ x → IsWord may means (word n) x
written_word may means n x fits ok is = let same = word_of-word n fits in (refl, ap may same ∙ ok, ap means same ∙ is)

pub truth_word : (p : Profile) (b : Bool) → IsWord (λ w. is_truth_word p w) truth_of (spell_truth b) b
truth_word p true = written_word (λ w. is_truth_word p w) truth_of (pos 1) true (omega (arith, ints)) (permits_written p true refl) refl
truth_word p false = written_word (λ w. is_truth_word p w) truth_of (pos 0) false (omega (arith, ints)) (permits_written p true refl) refl

pub byte_word : (p : Profile) (n : ℤ) → FitsSigned w8 n → IsWord (λ w. is_byte_word p w) byte_of (word n) n
byte_word p n fits = written_word (λ w. is_byte_word p w) byte_of n n (omega (arith, ints)) (permits_written p _ (fits_byte n fits)) (byte_back n fits)

pub char_word : (p : Profile) (n : ℕ) → n < 2 ^ 16 → IsWord (λ w. is_char_word p w) char_of (word (pos n)) n
char_word p n lt = written_word (λ w. is_char_word p w) char_of (pos n) n (omega (arith, ints)) (permits_written p _ (below_char n lt)) (char_back n lt)

-- a char's word, as a number
pub char_number_word : (p : Profile) (n : ℤ) → is_in range.Char n ≡ true → IsWord (λ w. is_char_word p w) (λ w. pos (char_of w)) (word n) n
char_number_word p (pos n) h =
    let lt : n < 2 ^ 16 = grind (arith, nat_tests) in
    written_word (λ w. is_char_word p w) (λ w. pos (char_of w)) (pos n) (pos n) (char_fits (pos n) h) (permits_written p _ h) (ap pos (char_back n lt))
char_number_word p (negsuc n) h = cc

pub truth_again : (p : Profile) (b inside : Bool) (rest : List ℕ) → truth_at p inside (spell_truth b ++ rest) ≡ Ok (b, rest)
truth_again p b inside rest = is_word_again (λ w. is_truth_word p w) truth_of inside rest (spell_truth b) b (truth_word p b)

pub truth_prefix : (a b : Bool) (rest : List ℕ) → spell_truth a ++ rest ≡ spell_truth b → rest ≡ []
truth_prefix a b rest e = prefix_by_reading (λ x. truth_at Strict false x) a b (spell_truth a) (spell_truth b) rest (λ r. truth_again Strict a false r) (λ r. truth_again Strict b false r) e

pub byte_again : (p : Profile) (n : ℤ) (inside : Bool) (rest : List ℕ) → FitsSigned w8 n → byte_at p inside (word n ++ rest) ≡ Ok (n, rest)
byte_again p n inside rest fits = is_word_again (λ w. is_byte_word p w) byte_of inside rest (word n) n (byte_word p n fits)

pub byte_prefix : (m n : ℤ) (rest : List ℕ) → FitsSigned w8 m → FitsSigned w8 n → word m ++ rest ≡ word n → rest ≡ []
byte_prefix m n rest p q e = word_prefix m n rest (omega (arith, ints)) (omega (arith, ints)) e

pub char_again : (p : Profile) (n : ℕ) (inside : Bool) (rest : List ℕ) → n < 2 ^ 16 → char_at p inside (word (pos n) ++ rest) ≡ Ok (n, rest)
char_again p n inside rest lt = is_word_again (λ w. is_char_word p w) char_of inside rest (word (pos n)) n (char_word p n lt)

pub char_prefix : (m n : ℕ) (rest : List ℕ) → m < 2 ^ 16 → n < 2 ^ 16 → word (pos m) ++ rest ≡ word (pos n) → rest ≡ []
char_prefix m n rest p q e = word_prefix (pos m) (pos n) rest (omega (arith, ints)) (omega (arith, ints)) e

pub long_prefix : (m n : ℤ) (rest : List ℕ) → FitsSigned w64 m → FitsSigned w64 n → long_word m ++ rest ≡ long_word n → rest ≡ []
long_prefix m n rest p q e = prefix_by_reading (λ x. long_at false x) m n (long_word m) (long_word n) rest (λ r. long_again m false r p) (λ r. long_again n false r q) e
