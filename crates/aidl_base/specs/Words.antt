-- Words, padding and text blocks, as lists of bytes (libbinder, Parcel.cpp: `writeAligned`, `pad_size`,
-- `writeString16`).
use Rattle.std.specs.Prelude.{ℕ, ◌-◌, ◌%◌, ℤ, List, [], ◌∷◌, ◌++◌, length, replicate}
use Rattle.std.specs.Int.{w16, w32, w64, to_le_bytes, from_le_bytes, cast_unsigned, cast_signed}
use Rattle.std.specs.List.{flat_map}
use Rattle.std.specs.Char.Escape.{encode_utf16}

-- a number's four bytes, least first, in two's complement
abbrev pub word : ℤ → List ℕ
word n = to_le_bytes w32 (cast_unsigned w32 n)

-- a number's eight bytes, least first, in two's complement
abbrev pub long_word : ℤ → List ℕ
long_word n = to_le_bytes w64 (cast_unsigned w64 n)

-- the number of a word's four bytes
abbrev pub word_of : List ℕ → ℤ
word_of bytes = cast_signed w32 (from_le_bytes w32 bytes)

-- the number of a long's eight bytes
abbrev pub long_of : List ℕ → ℤ
long_of bytes = cast_signed w64 (from_le_bytes w64 bytes)

-- the fewest zeros that make a length a multiple of 4
abbrev pub padding : ℕ → ℕ
padding n = (4 - n % 4) % 4

-- bytes, followed by those zeros
abbrev pub pad : List ℕ → List ℕ
pad bytes = bytes ++ replicate (padding (length bytes)) 0

-- the UTF-16 units of a text
abbrev pub units : List ℕ → List ℕ
units text = flat_map encode_utf16 text

-- units as bytes, two each, least first
abbrev pub unit_bytes : List ℕ → List ℕ
unit_bytes us = flat_map (to_le_bytes w16) us

-- a text's block: its units and one zero unit, padded
abbrev pub block : List ℕ → List ℕ
block text = pad (unit_bytes (units text ++ 0 ∷ []))
