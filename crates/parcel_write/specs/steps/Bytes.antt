-- Values that are bytes.
use Rattle.std.specs.Prelude.{FitsSigned}
use Rattle.std.specs.Int.{w8}
use Rattle.aidl_values.specs.Data.{Data, number, Items, none, item}

-- a number is one that a signed byte holds
abbrev pub IsByte : Data → Type 0
IsByte (number n) = FitsSigned w8 n
IsByte _ = Unit {0}

abbrev pub AreByteValues : Items → Type 0
AreByteValues none = Unit {0}
AreByteValues (item v vs) = IsByte v × AreByteValues vs
