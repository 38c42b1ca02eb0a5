-- The numbers of the faults (own).
use Rattle.std.specs.Prelude.{ℕ}
use Rattle.const_values.specs.declared.fault.ConstFault.{ConstFault}
use Rattle.const_values.specs.declared.fault.ConstFault.TheVariants as fault

-- the number of a fault
abbrev pub fault_number : ConstFault → ℕ
fault_number fault.Overflow = 1
fault_number fault.DivideByZero = 2
fault_number fault.BadShift = 3
fault_number fault.Mismatch = 4
fault_number fault.Cycle = 5
fault_number fault.UnknownName = 6
fault_number fault.DoesNotFit = 7
