-- How a walk ends that finds too many declarations, or no memory.
use Rattle.std.specs.Prelude.{◌<◌, List, length}
use Rattle.declared_names.specs.declared.walk_fault.WalkFault.{WalkFault}
use Rattle.declared_names.specs.declared.walk_fault.WalkFault.TheVariants as fault
use Rattle.declared_names.specs.Declarations.{Entry}

abbrev pub IsFull : List Entry → WalkFault → Type 0
IsFull all fault.Full = 16384 < length all
IsFull all fault.OutOfMemory = Unit {0}
