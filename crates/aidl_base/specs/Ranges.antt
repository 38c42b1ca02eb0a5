-- The ranges of numbers (AIDL language, "Types"): of a byte, a char, an int and a long, both ends included.
use Rattle.std.specs.Prelude.{ℤ, pos, negsuc, int_le, Bool, ◌&&◌}
use Rattle.aidl_base.specs.declared.range.Range.{Range}
use Rattle.aidl_base.specs.declared.range.Range.TheVariants.{Byte, Char, Int, Long}

-- from one number to another, both included
abbrev pub is_between : ℤ → ℤ → ℤ → Bool
is_between low high n = int_le low n && int_le n high

-- the number is in the range
abbrev pub is_in : Range → ℤ → Bool
is_in Byte n = is_between (negsuc 127) (pos 127) n
is_in Char n = is_between (pos 0) (pos 65535) n
is_in Int n = is_between (negsuc 2147483647) (pos 2147483647) n
is_in Long n = is_between (negsuc 9223372036854775807) (pos 9223372036854775807) n
