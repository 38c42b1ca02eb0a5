-- What is left of a store by what was answered of a command that writes.
use Rattle.std.specs.Prelude.{◌≡◌, List, Option, Some, None, Result, Ok, Err}
use Rattle.aidl_outside.specs.Asks.{Asks}
use Rattle.aidl_outside.specs.Faults.{FailedIn, StoreFaults}
use Rattle.aidl_outside.specs.Files.{Files}
use Rattle.aidl_outside.specs.Writes.{Write, written}
use Rattle.tool_frame.specs.declared.halt.Halt.{Halt}
use Rattle.tool_frame.specs.declared.halt.Halt.TheVariants.{Answered, StoreFailed, OutOfMemory}
use Rattle.tool_frame.specs.declared.printed.Printed.{Printed}
use Rattle.tool_frame.specs.Acts.{Acts, acts_by, writes_of}
use Rattle.tool_frame.specs.Answer.{Answer}
use Rattle.tool_frame.specs.Ended.{StopsAtStore, WroteSome}
use Rattle.tool_frame.specs.Results.{printed}

-- all was written that goes with an answer
abbrev pub Acted : (Files → Acts) → Option Files → Option Files → Answer → Type 0
Acted acts None now answer = now ≡ None
Acted acts (Some files) now answer = (made : List Write) × acts files made answer × (now ≡ Some (written made files))

-- by what was answered, and the store's faults then: all; after a want of memory some; after a failed call none, or
-- those before the one that failed
abbrev pub ActsAs : Asks → (Files → Acts) → Option Files → Option Files → StoreFaults → Result Printed Halt → Type 0
ActsAs asks acts before now faults (Ok p) = Acted acts before now (printed p)
ActsAs asks acts before now faults (Err (Answered p)) = Acted acts before now (printed p)
ActsAs asks acts before now faults (Err StoreFailed) = FailedIn faults (StopsAtStore (acts_by asks acts) before now)
ActsAs asks acts before now faults (Err OutOfMemory) = WroteSome (writes_of acts) before now
