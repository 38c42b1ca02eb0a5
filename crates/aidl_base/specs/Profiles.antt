-- What each profile of reading permits (own; the lenient one after the way libbinder's Parcel.cpp reads). What a
-- word means is the same by both, and so is what is written.
use Rattle.std.specs.Prelude.{◌≡◌, ℕ, zero, ◌%◌, ◌^◌, ℤ, pos, Bool, true, false, ◌==◌, List, ◌∷◌, [], ◌++◌, length}
use Rattle.std.specs.List.{list_all}
use Rattle.std.specs.Int.{w8, w32, cast_unsigned, cast_signed}
use Rattle.aidl_base.specs.declared.profile.Profile.{Profile}
use Rattle.aidl_base.specs.declared.profile.Profile.TheVariants.{Strict, Lenient}
use Rattle.aidl_base.specs.declared.range.Range.TheVariants as range
use Rattle.aidl_base.specs.Ranges.{is_between, is_in}
use Rattle.aidl_base.specs.Words.{word_of, padding, units, unit_bytes}

-- The strict profile takes what is as it would be written, the lenient one takes any.
abbrev pub permits : Profile → Bool → Bool
permits Strict as_written = as_written
permits Lenient as_written = true

-- A boolean word, and so the marker of a parcelable or union, is written as 0 or 1.
abbrev pub is_truth_word : Profile → ℤ → Bool
is_truth_word p w = permits p (is_between (pos 0) (pos 1) w)

-- Any word but 0 is true (`readBool`: `tmp != 0`; `readParcelable`: `!have_parcelable`)
abbrev pub truth_of : ℤ → Bool
truth_of (pos zero) = false
truth_of _ = true

-- A byte word is written as -128 to 127.
abbrev pub is_byte_word : Profile → ℤ → Bool
is_byte_word p w = permits p (is_in range.Byte w)

-- A byte is the signed value of a word's least 8 bits (`readByte`: `static_cast<int8_t>(tmp)`)
abbrev pub byte_of : ℤ → ℤ
byte_of w = cast_signed w8 (cast_unsigned w32 w % 2 ^ 8)

-- A char word is written as 0 to 65535.
abbrev pub is_char_word : Profile → ℤ → Bool
is_char_word p w = permits p (is_in range.Char w)

-- A char is a word's least 16 bits (`readChar`: `char16_t(tmp)`)
abbrev pub char_of : ℤ → ℕ
char_of w = cast_unsigned w32 w % 2 ^ 16

-- every byte is zero
abbrev pub all_zero : List ℕ → Bool
all_zero bytes = list_all (λ x. x == 0) bytes

-- Padding is written as zeros (`readInplace` looks at none).
abbrev pub is_padding : Profile → List ℕ → Bool
is_padding p bytes = permits p (all_zero bytes)

-- Four bytes are a word that may stand for a value, and mean x.
abbrev pub IsWord : {A : Type 0} → (ℤ → Bool) → (ℤ → A) → List ℕ → A → Type 0
IsWord may means b x = (length b ≡ 4) × (may (word_of b) ≡ true) × (means (word_of b) ≡ x)

-- The bytes b are these bytes and their padding.
abbrev pub IsPadded : Profile → List ℕ → List ℕ → Type 0
IsPadded p bytes b = (tail : List ℕ) × (b ≡ bytes ++ tail) × (length tail ≡ padding (length bytes))
    × (is_padding p tail ≡ true)

-- The bytes b are the block of a text: its units, one zero unit, and padding.
abbrev pub IsTextBlock : Profile → List ℕ → List ℕ → Type 0
IsTextBlock p x b = IsPadded p (unit_bytes (units x ++ 0 ∷ [])) b
