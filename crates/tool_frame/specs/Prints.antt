-- How a text is put, and how an answer is printed (own).
use Rattle.std.specs.Prelude.{◌≡◌, ◌≢◌, ℕ, ⊤, ◌⊎◌, List, [], ◌++◌, Option, Result, Ok, Err}
use Rattle.aidl_outside.specs.Causes.{Rose}
use Rattle.aidl_outside.specs.Faults.{FailedIn, SinkFaults}
use Rattle.aidl_outside.specs.Told.{Adds, AddsFront}
use Rattle.tool_frame.specs.declared.exit.Exit.{Exit}
use Rattle.tool_frame.specs.declared.exit.Exit.TheVariants.{SinkFailed, OutOfMemory}
use Rattle.tool_frame.specs.Answer.{Answer}
use Rattle.tool_frame.specs.Exit.{number_of}
use Rattle.tool_frame.specs.Verdict.{exit_of}

-- A piece of the text was due, which isn't empty: all before it was put, and then a front of it.
abbrev pub CutAt : List ℕ → Option (List ℕ) → Option (List ℕ) → List ℕ → Type 0
CutAt text before now piece = (done rest put unput : List ℕ) × (text ≡ done ++ piece ++ rest)
    × (piece ≡ put ++ unput) × (piece ≢ []) × Adds before now (done ++ put)

-- a put failed, or memory was wanted: a front of the text was put
pub record IsCut (text : List ℕ) (before now : Option (List ℕ)) (faults_before faults_now : SinkFaults)
    (exit : ℕ) : Type 0 where
  pub exits : (exit ≡ number_of SinkFailed) ⊎ (exit ≡ number_of OutOfMemory)
  pub fault : exit ≡ number_of SinkFailed → Rose faults_before faults_now
  pub due : exit ≡ number_of SinkFailed → FailedIn faults_now (CutAt text before now)
  pub good : exit ≢ number_of SinkFailed → faults_now ≡ faults_before
  pub front : AddsFront before now text

-- a text was put; or the exit with which the run ends
abbrev pub PutsText : List ℕ → Option (List ℕ) → Option (List ℕ) → SinkFaults → SinkFaults → Result ⊤ Exit → Type 0
PutsText text before now faults_before faults_now (Ok u) = Adds before now text × (faults_now ≡ faults_before)
PutsText text before now faults_before faults_now (Err exit) =
    IsCut text before now faults_before faults_now (number_of exit)

-- its exit and its whole text; or the sink failed or memory was wanted, and a front of it
pub record Prints (a : Answer) (before now : Option (List ℕ)) (faults_before faults_now : SinkFaults)
    (exit : ℕ) : Type 0 where
  pub exits : (exit ≡ exit_of a.verdict) ⊎ ((exit ≡ number_of SinkFailed) ⊎ (exit ≡ number_of OutOfMemory))
  pub fault : exit ≡ number_of SinkFailed → Rose faults_before faults_now
  pub due : exit ≡ number_of SinkFailed → FailedIn faults_now (CutAt a.text before now)
  pub good : exit ≢ number_of SinkFailed → faults_now ≡ faults_before
  pub whole : exit ≡ exit_of a.verdict → Adds before now a.text
  pub front : AddsFront before now a.text
