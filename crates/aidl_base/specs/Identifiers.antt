-- What an identifier is, as a test of its bytes (AOSP, "AIDL language").
use Rattle.std.specs.Prelude.{ℕ, Bool, false, ◌&&◌, ◌||◌, ◌==◌, List, [], ◌∷◌, is_none}
use Rattle.std.specs.Char.{is_ascii_digit, is_ascii_alphabetic}
use Rattle.std.specs.List.{list_all}
use Rattle.aidl_base.specs.Reserved.{reserved_of}

-- a letter or `_`
abbrev pub is_letter : ℕ → Bool
is_letter b = is_ascii_alphabetic b || b == 95

-- a letter, `_` or a digit
abbrev pub is_word_byte : ℕ → Bool
is_word_byte b = is_letter b || is_ascii_digit b

-- a first byte is there, and it is of the class
abbrev pub begins : (ℕ → Bool) → List ℕ → Bool
begins class [] = false
begins class (b ∷ bytes) = class b

-- a letter or `_`, then letters, digits and `_`, and no reserved word
abbrev pub is_identifier : List ℕ → Bool
is_identifier word = begins is_letter word && list_all is_word_byte word && is_none (reserved_of word)
