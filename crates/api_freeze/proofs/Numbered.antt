-- A refusal for the limits of files, of a number that passes none.
use Rattle.std.proofs.Common.{ℕ, ◌+◌, ◌≤◌, List, Err, inr}
use Rattle.aidl_base.specs.declared.source_file.SourceFile.{SourceFile}
use Rattle.aidl_schema.specs.declared.schema.Decl.{Decl}
use Rattle.api_freeze.specs.steps.Following.{Fits, Numbers}
use Rattle.api_freeze.specs.declared.fault.FreezeFault.{FreezeFault}
use Rattle.api_freeze.specs.declared.fault.FreezeFault.TheVariants as fault

pub unfit_numbered : (S : List Decl) (count : ℕ) (files : List SourceFile) (e : FreezeFault) → count + 1 ≤ 9999 → Fits S files (Err e) → Numbers S count files (Err e)
unfit_numbered S count files (fault.Limit l) few h = inr (few, h)
unfit_numbered S count files fault.OutOfMemory few h = tt
unfit_numbered S count files (fault.Torn torn) few h = absurd h
unfit_numbered S count files (fault.Unreadable version vs cause) few h = absurd h
unfit_numbered S count files (fault.Unchanged version) few h = absurd h
unfit_numbered S count files (fault.Incompatible rows) few h = absurd h
unfit_numbered S count files (fault.Versions e) few h = absurd h
unfit_numbered S count files (fault.Write e) few h = absurd h
