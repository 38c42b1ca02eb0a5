-- Lengths of `out` arrays, while they are read.
use Rattle.std.specs.Prelude.{ℕ, ◌+◌, ◌≤◌, pos, Bool, IsTrue}
use Rattle.aidl_values.specs.Data.{Data, null, number}

-- null where it may be, or a length that takes the sum no further than 65,536
abbrev pub IsLengthWithin : Bool → ℕ → Data → Type 0
IsLengthWithin nullable sum null = IsTrue nullable
IsLengthWithin nullable sum (number (pos n)) = sum + n ≤ 65536
IsLengthWithin nullable sum _ = ⊥
