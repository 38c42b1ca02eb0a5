-- The number, the place and the printed name of a fault. Want of memory has none of them.
use Rattle.std.specs.Prelude.{ℕ, List, Option, Some, None, codes}
use Rattle.aidl_lexer.specs.declared.fault.LexFault.{LexFault}
use Rattle.aidl_lexer.specs.declared.fault.LexFault.TheVariants as fault
use Rattle.aidl_lexer.specs.declared.fault.FaultKind.{FaultKind}
use Rattle.aidl_lexer.specs.declared.fault.FaultKind.TheVariants as reason

abbrev pub fault_number : FaultKind → ℕ
fault_number reason.BadByte = 1
fault_number reason.OpenComment = 2
fault_number reason.OpenLiteral = 3
fault_number reason.BadNumber = 4

abbrev pub number_of : LexFault → Option ℕ
number_of (fault.BadByte offset) = Some 1
number_of (fault.OpenComment offset) = Some 2
number_of (fault.OpenLiteral offset) = Some 3
number_of (fault.BadNumber offset) = Some 4
number_of fault.OutOfMemory = None

abbrev pub offset_of : LexFault → Option ℕ
offset_of (fault.BadByte offset) = Some offset
offset_of (fault.OpenComment offset) = Some offset
offset_of (fault.OpenLiteral offset) = Some offset
offset_of (fault.BadNumber offset) = Some offset
offset_of fault.OutOfMemory = None

abbrev pub name_of : LexFault → Option (List ℕ)
name_of (fault.BadByte offset) = Some (codes "BadByte")
name_of (fault.OpenComment offset) = Some (codes "OpenComment")
name_of (fault.OpenLiteral offset) = Some (codes "OpenLiteral")
name_of (fault.BadNumber offset) = Some (codes "BadNumber")
name_of fault.OutOfMemory = None
