-- Texts that are joined (own).
use Rattle.std.specs.Prelude.{ℕ, nat_le, if◌then◌else◌, List, ◌++◌, length, Result, Ok, Err}
use Rattle.const_values.specs.declared.fault.ConstFault.{ConstFault}
use Rattle.const_values.specs.declared.fault.ConstFault.TheVariants.{Overflow}
use Rattle.const_values.specs.Operands.{Operand, text}

-- the characters of both, where they are no more than 4,096
abbrev pub joined : List ℕ → List ℕ → Result Operand ConstFault
joined a b = if nat_le (length (a ++ b)) 4096 then Ok (text (a ++ b)) else Err Overflow
