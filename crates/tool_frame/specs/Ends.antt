-- How a command ends that only reads: by what was answered of the files that were read.
use Rattle.std.specs.Prelude.{◌≡◌, ℕ, List, Option, Result, Ok, Err}
use Rattle.aidl_outside.specs.Faults.{SinkFaults}
use Rattle.tool_frame.specs.declared.exit.Exit.{Exit}
use Rattle.tool_frame.specs.declared.exit.Exit.TheVariants.{OutOfMemory as NoMemory, StoreFailed}
use Rattle.tool_frame.specs.declared.halt.Halt.{Halt}
use Rattle.tool_frame.specs.declared.halt.Halt.TheVariants as halt
use Rattle.tool_frame.specs.declared.printed.Early.{Early}
use Rattle.tool_frame.specs.declared.printed.Early.TheVariants.{Answered, OutOfMemory}
use Rattle.tool_frame.specs.declared.printed.Printed.{Printed}
use Rattle.tool_frame.specs.Exit.{number_of}
use Rattle.tool_frame.specs.Prints.{Prints}
use Rattle.tool_frame.specs.Results.{printed}

-- this exit, with nothing put
pub record EndsSilent (cause : Exit) (before now : Option (List ℕ)) (faults_before faults_now : SinkFaults)
    (exit : ℕ) : Type 0 where
  pub exits : exit ≡ number_of cause
  pub silent : now ≡ before
  pub good : faults_now ≡ faults_before

-- the answer is printed; or memory was wanted before
abbrev pub PrintsGiven : Result Printed Early → Option (List ℕ) → Option (List ℕ) → SinkFaults → SinkFaults → ℕ → Type 0
PrintsGiven (Ok p) before now faults_before faults_now exit =
    Prints (printed p) before now faults_before faults_now exit
PrintsGiven (Err (Answered p)) before now faults_before faults_now exit =
    Prints (printed p) before now faults_before faults_now exit
PrintsGiven (Err OutOfMemory) before now faults_before faults_now exit =
    EndsSilent NoMemory before now faults_before faults_now exit

-- the same of what was answered of the files that were read, unless a call of the store failed
abbrev pub EndsRead : Result Printed Halt → Option (List ℕ) → Option (List ℕ) → SinkFaults → SinkFaults → ℕ → Type 0
EndsRead (Ok p) before now faults_before faults_now exit = Prints (printed p) before now faults_before faults_now exit
EndsRead (Err (halt.Answered p)) before now faults_before faults_now exit =
    Prints (printed p) before now faults_before faults_now exit
EndsRead (Err halt.StoreFailed) before now faults_before faults_now exit =
    EndsSilent StoreFailed before now faults_before faults_now exit
EndsRead (Err halt.OutOfMemory) before now faults_before faults_now exit =
    EndsSilent NoMemory before now faults_before faults_now exit
