-- The widths of numbers (own, after AOSP, "AIDL language": integers of 32 and of 64 bits in two's complement).
use Rattle.std.specs.Prelude.{ℕ, ℤ, Bool}
use Rattle.std.specs.Int as int
use Rattle.std.specs.Int.{w32, w64}
use Rattle.aidl_base.specs.Ranges.{is_in}
use Rattle.aidl_base.specs.declared.range.Range.TheVariants.{Int, Long}
use Rattle.const_values.specs.declared.width.Width.{Width}
use Rattle.const_values.specs.declared.width.Width.TheVariants.{Narrow, Wide}

-- the bits of a width
abbrev pub form_of : Width → int.Width
form_of Narrow = w32
form_of Wide = w64

-- their number
abbrev pub bit_count : Width → ℕ
bit_count Narrow = 32
bit_count Wide = 64

-- the wider of two: 64 where one of them is 64
abbrev pub wider : Width → Width → Width
wider Narrow other = other
wider Wide other = Wide

-- the numbers of a width: those of an int or of a long
abbrev pub is_within : Width → ℤ → Bool
is_within Narrow = is_in Int
is_within Wide = is_in Long
