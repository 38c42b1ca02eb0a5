-- What a step of a command has got of the store, or why the command ends there (own).
use Rattle.std.specs.Prelude.{◌≡◌, Option, Result, Ok, Err}
use Rattle.aidl_outside.specs.declared.store.StoreFault.{StoreFault}
use Rattle.aidl_outside.specs.declared.store.StoreFault.TheVariants as store
use Rattle.aidl_outside.specs.Asks.{Asks}
use Rattle.aidl_outside.specs.Causes.{Rose}
use Rattle.aidl_outside.specs.Faults.{FailedIn, StoreFaults}
use Rattle.aidl_outside.specs.Files.{Files}
use Rattle.aidl_outside.specs.Told.{Tells}
use Rattle.tool_frame.specs.declared.halt.Halt.{Halt}
use Rattle.tool_frame.specs.declared.halt.Halt.TheVariants.{Answered, StoreFailed, OutOfMemory}
use Rattle.tool_frame.specs.declared.printed.Early.{Early}
use Rattle.tool_frame.specs.declared.printed.Early.TheVariants as early
use Rattle.tool_frame.specs.declared.printed.Printed.{Printed}
use Rattle.tool_frame.specs.Answer.{Answer, Found}
use Rattle.tool_frame.specs.Results.{printed}
use Rattle.tool_frame.specs.Seen.{StoreSeen}

-- an early end ends a command that reads
abbrev pub halt_of : Early → Halt
halt_of (early.Answered p) = Answered p
halt_of early.OutOfMemory = OutOfMemory

-- so does a fault of the store
abbrev pub halt_by : StoreFault → Halt
halt_by store.Failed = StoreFailed
halt_by store.OutOfMemory = OutOfMemory

-- the store's faults are as they were, but where one of its calls failed
abbrev pub HaltCause : {T : Type 0} → StoreFaults → StoreFaults → Result T Halt → Type 0
HaltCause before now (Ok x) = now ≡ before
HaltCause before now (Err (Answered p)) = now ≡ before
HaltCause before now (Err StoreFailed) = Rose before now
HaltCause before now (Err OutOfMemory) = now ≡ before

-- the call that failed is one of those that are asked for
abbrev pub FailsAsking : {T : Type 0} → Option Files → StoreFaults → Result T Halt → Asks → Type 0
FailsAsking kept faults (Ok x) asked = Unit {0}
FailsAsking kept faults (Err (Answered p)) asked = Unit {0}
FailsAsking kept faults (Err StoreFailed) asked = FailedIn faults (asked kept)
FailsAsking kept faults (Err OutOfMemory) asked = Unit {0}

-- what is said of what a step has got, or of the answer that the command ends with
abbrev pub IsSaid : {T : Type 0} → (T → Type 0) → (Answer → Type 0) → Result T Halt → Type 0
IsSaid Is Ends (Ok x) = Is x
IsSaid Is Ends (Err (Answered p)) = Ends (printed p)
IsSaid Is Ends (Err StoreFailed) = Unit {0}
IsSaid Is Ends (Err OutOfMemory) = Unit {0}

-- That is said by the files, where the store tells them; these are as they were; and a call of the store that
-- failed is one that is asked for.
pub record Gets {T : Type 0} (asks : Asks) (Is : Files → T → Type 0) (Ends : Files → Answer
    → Type 0) (before now : StoreSeen) (result : Result T Halt) : Type 0 where
  pub said : Tells before.kept (λ files. IsSaid (Is files) (Ends files) result)
  pub unchanged : now.kept ≡ before.kept
  pub cause : HaltCause before.faults now.faults result
  pub failed : FailsAsking before.kept now.faults result asks

-- what is found by the files, seen as `view` sees it, or the refusal
abbrev pub Loads : {T A : Type 0} → Asks → (T → A) → (Files → Found A) → StoreSeen → StoreSeen → Result T Halt → Type 0
Loads asks view found before now result =
    Gets asks (λ files x. found files ≡ Ok (view x)) (λ files a. found files ≡ Err a) before now result

-- what is printed, also where it is a refusal, is an answer that is meant by the files
abbrev pub Prints : Asks → (Files → Answer → Type 0) → StoreSeen → StoreSeen → Result Printed Halt → Type 0
Prints asks means before now result = Gets asks (λ files p. means files (printed p)) means before now result
