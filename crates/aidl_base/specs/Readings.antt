-- Reading values of built-in types off the front of bytes: the value and the bytes after it, or the status of the
-- first wrong item. The bytes are those up to the reader's limit, and `inside` says that the limit is the end of a
-- record (statuses: libutils, Errors.h; rules: own).
use Rattle.std.specs.Prelude.{ℕ, zero, suc, ◌+◌, ◌*◌, ◌%◌, ℤ, pos, negsuc, Bool, true, false, ◌&&◌, List, [], ◌∷◌}
use Rattle.std.specs.Prelude.{length, take, drop, Option, Some, None, Result, Ok, Err, nat_lt, nat_le, ◌==◌}
use Rattle.std.specs.Prelude.{if◌then◌else◌}
use Rattle.std.specs.Int.{w16, from_le_bytes}
use Rattle.std.specs.Char.Utf16.{has_unpaired_surrogate, utf16_lossy_chars}
use Rattle.aidl_base.specs.declared.profile.Profile.{Profile}
use Rattle.aidl_base.specs.Profiles.{is_truth_word, truth_of, is_byte_word, byte_of, is_char_word, char_of}
use Rattle.aidl_base.specs.Profiles.{all_zero, is_padding}
pub use Rattle.aidl_base.specs.Results.{◌>>=◌}
use Rattle.aidl_base.specs.Words.{word_of, long_of, padding}

abbrev pub bad_value : ℤ
bad_value = negsuc 21

abbrev pub not_enough : ℤ
not_enough = negsuc 60

abbrev pub unexpected_null : ℤ
unexpected_null = negsuc 2147483639

-- the status of an item that passes the limit, in a record or outside one
abbrev pub past : Bool → ℤ
past true = bad_value
past false = not_enough

-- a value, and the bytes after it
abbrev pub Read : Type 0 → Type 0
Read A = Result (A × List ℕ) ℤ

-- one item of n bytes
abbrev pub bytes_at : ℕ → Bool → List ℕ → Read (List ℕ)
bytes_at n inside b = if nat_lt (length b) n then Err (past inside) else Ok (take n b, drop n b)

abbrev pub word_at : Bool → List ℕ → Read ℤ
word_at inside b = if nat_lt (length b) 4 then Err (past inside) else Ok (word_of (take 4 b), drop 4 b)

abbrev pub long_at : Bool → List ℕ → Read ℤ
long_at inside b = if nat_lt (length b) 8 then Err (past inside) else Ok (long_of (take 8 b), drop 8 b)

-- a word that may stand for a value, as what it means
unfoldable pub word_as : {A : Type 0} → (ℤ → Bool) → (ℤ → A) → Bool → List ℕ → Read A
word_as may means inside b = do
  w ← word_at inside b
  if may w.0 then Ok (means w.0, w.1) else Err bad_value

-- a boolean, by a profile p
abbrev pub truth_at : Profile → Bool → List ℕ → Read Bool
truth_at p inside b = word_as (λ w. is_truth_word p w) truth_of inside b

-- a byte
abbrev pub byte_at : Profile → Bool → List ℕ → Read ℤ
byte_at p inside b = word_as (λ w. is_byte_word p w) byte_of inside b

-- a char, as its code unit
abbrev pub char_at : Profile → Bool → List ℕ → Read ℕ
char_at p inside b = word_as (λ w. is_char_word p w) char_of inside b

-- the count of a word, where None is null
abbrev pub count_of : Bool → ℤ → Result (Option ℕ) ℤ
count_of nullable (pos n) = Ok (Some n)
count_of nullable (negsuc zero) = if nullable then Ok None else Err unexpected_null
count_of nullable (negsuc (suc n)) = Err bad_value

unfoldable pub count_at : Bool → Bool → List ℕ → Read (Option ℕ)
count_at nullable inside b = do
  w ← word_at inside b
  n ← count_of nullable w.0
  Ok (n, w.1)

-- n raw bytes and their padding
unfoldable pub raw_at : Profile → ℕ → Bool → List ℕ → Read (List ℕ)
raw_at p n inside b = do
  x ← bytes_at (n + padding n) inside b
  if is_padding p (drop n x.0) then Ok (take n x.0, x.1) else Err bad_value

-- the bytes of the block of a text of n units
abbrev pub block_len : ℕ → ℕ
block_len n = let bytes = 2 * (n + 1) in bytes + padding bytes

-- the units of bytes, two each, least first
abbrev pub units_of : List ℕ → List ℕ
units_of (low ∷ high ∷ bytes) = from_le_bytes w16 (low ∷ high ∷ []) ∷ units_of bytes
units_of _ = []

-- what stands after the units of a text: one zero unit, and padding
abbrev pub ends_text : Profile → List ℕ → Bool
ends_text p tail = all_zero (take 2 tail) && is_padding p (drop 2 tail)

-- the text of a block of n units, if they are well-formed UTF-16 and the block ends as it has to
unfoldable pub text_of : Profile → ℕ → List ℕ → Option (List ℕ)
text_of p n bytes = let us = units_of (take (2 * n) bytes) in
    if has_unpaired_surrogate us then None
    else (if ends_text p (drop (2 * n) bytes) then Some (utf16_lossy_chars us) else None)

abbrev pub ok_or_bad_value : {A : Type 0} → Option A → Result A ℤ
ok_or_bad_value None = Err bad_value
ok_or_bad_value (Some x) = Ok x

-- the block of a text of n units
unfoldable pub block_at : Profile → ℕ → Bool → List ℕ → Read (List ℕ)
block_at p n inside b = do
  x ← bytes_at (block_len n) inside b
  text ← ok_or_bad_value (text_of p n x.0)
  Ok (text, x.1)

-- what stands after a count that isn't null
abbrev pub counted_at : {A : Type 0} → (ℕ → List ℕ → Read A) → Option ℕ → List ℕ → Read (Option A)
counted_at read None b = Ok (None, b)
counted_at read (Some n) b = do
  x ← read n b
  Ok (Some x.0, x.1)

-- a text, where None is null
unfoldable pub text_at : Profile → Bool → Bool → List ℕ → Read (Option (List ℕ))
text_at p nullable inside b = do
  n ← count_at nullable inside b
  counted_at (λ m c. block_at p m inside c) n.0 n.1

-- what may not be null
abbrev pub not_null : {A : Type 0} → Option A → Result A ℤ
not_null None = Err unexpected_null
not_null (Some x) = Ok x

-- a text that may not be null
unfoldable pub present_text_at : Profile → Bool → List ℕ → Read (List ℕ)
present_text_at p inside b = do
  x ← text_at p false inside b
  text ← not_null x.0
  Ok (text, x.1)

-- the size of a record by its size word, which counts itself (own)
abbrev pub size_of : ℤ → Result ℕ ℤ
size_of (pos z) = if nat_le 4 z && (z % 4 == 0) then Ok z else Err bad_value
size_of (negsuc z) = Err bad_value

-- n items in order, each by its own reading
abbrev pub items_at : {A : Type 0} → (List ℕ → Read A) → ℕ → List ℕ → Read (List A)
items_at read zero b = Ok ([], b)
items_at read (suc n) b = do
  first ← read b
  others ← items_at read n first.1
  Ok (first.0 ∷ others.0, others.1)

-- a count and as many items, where None is null
unfoldable pub sequence_at : {A : Type 0} → (Bool → List ℕ → Read A) → Bool → Bool → List ℕ → Read (Option (List A))
sequence_at read nullable inside b = do
  n ← count_at nullable inside b
  counted_at (λ m c. items_at (read inside) m c) n.0 n.1
