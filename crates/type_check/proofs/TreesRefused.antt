-- Where trees are refused, their files are.
use Rattle.std.proofs.Common.{List, inr}
use Rattle.aidl_base.specs.declared.source_file.SourceFile.{SourceFile}
use Rattle.type_check.specs.declared.fault.CheckFault.{CheckFault}
use Rattle.type_check.specs.declared.fault.CheckFault.TheVariants as fault
use Rattle.type_check.specs.Refusals.{AreTreesRefused, IsRefusal}

pub trees-refused : (files : List SourceFile) (e : CheckFault) → AreTreesRefused files e → IsRefusal files e
trees-refused files (fault.Limit l) h = inr h
trees-refused files (fault.Lex rows) h = absurd h.2
trees-refused files (fault.Syntax rows) h = absurd h.2
trees-refused files (fault.Breaches rows) h = h
trees-refused files fault.OutOfMemory h = tt
