-- How a run of one course goes: what it left of the outside, which told its files or not (own).
use Rattle.std.specs.Prelude.{◌≡◌, ◌≢◌, ℕ, ◌⊎◌, Bool, true, List, [], ◌++◌, Option, Some, None}
use Rattle.aidl_outside.specs.declared.link.Carried.{Carried}
use Rattle.aidl_outside.specs.Carries.{AreFaithful}
use Rattle.aidl_outside.specs.Causes.{Rose}
use Rattle.aidl_outside.specs.Faults.{FailedIn, LinkFaults, SinkFaults, untold}
use Rattle.aidl_outside.specs.Told.{Adds, AddsFront}
use Rattle.tool_frame.specs.declared.exit.Exit.TheVariants.{SinkFailed, OutOfMemory, LinkFailed}
use Rattle.tool_frame.specs.Answer.{after_text}
use Rattle.tool_frame.specs.Course.{Course, due_after, answer_after}
use Rattle.tool_frame.specs.Exit.{number_of}
use Rattle.tool_frame.specs.Meaning.{AreDue}
use Rattle.aidl_outside.specs.Parcel.{Parcel}
use Rattle.tool_frame.specs.Prints.{CutAt}
use Rattle.tool_frame.specs.Seen.{Seen}
use Rattle.tool_frame.specs.Verdict.{exit_of, IsVerdict}

-- the parcel that a course has due after some entries
abbrev pub due_in : Course → List Carried → Option Parcel → Type 0
due_in course entries parcel = parcel ≡ due_after course entries

-- The parcels that were carried: those that the log gained, each the one that was due, and delivered as it was sent
-- by a faithful link.
pub record CarriedBy (course : Course) (before now : Seen) (entries : List Carried) : Type 0 where
  pub log : Adds before.log now.log entries
  pub are_due : AreDue (due_in course) [] entries
  pub faithful : before.is_faithful ≡ true → AreFaithful entries

-- the exit and the text are those of the course's answer, and nothing more is due
abbrev pub EndsCourse : Course → Seen → Seen → ℕ → Type 0
EndsCourse course before now exit = (entries : List Carried) × CarriedBy course before now entries
    × (due_after course entries ≡ None)
    × (exit ≡ exit_of (answer_after course entries).verdict)
    × Adds before.told now.told (answer_after course entries).text

-- a front of the course's text was put
abbrev pub PutsCourseFront : Course → Seen → Seen → Type 0
PutsCourseFront course before now = (entries : List Carried) × CarriedBy course before now entries
    × AddsFront before.told now.told (answer_after course entries).text

-- a piece of the course's text was due
abbrev pub CutsCourse : Course → Seen → Seen → List ℕ → Type 0
CutsCourse course before now piece = (entries : List Carried) × CarriedBy course before now entries
    × CutAt (answer_after course entries).text before.told now.told piece

-- a parcel was due, and all the text before it was put
abbrev pub StopsCourse : Course → Seen → Seen → Parcel → Type 0
StopsCourse course before now parcel = (entries : List Carried) × CarriedBy course before now entries
    × (due_after course entries ≡ Some parcel)
    × Adds before.told now.told (answer_after course entries).text

-- the exits of a course, each with its cause; the store wasn't touched
pub record RanCourse (course : Course) (before now : Seen) (exit : ℕ) : Type 0 where
  pub exits : IsVerdict exit
      ⊎ ((exit ≡ number_of SinkFailed) ⊎ ((exit ≡ number_of OutOfMemory) ⊎ (exit ≡ number_of LinkFailed)))
  pub kept : now.kept ≡ before.kept
  pub store_good : now.store_faults ≡ before.store_faults
  pub sink_fault : exit ≡ number_of SinkFailed → Rose before.sink_faults now.sink_faults
  pub sink_due : exit ≡ number_of SinkFailed → FailedIn now.sink_faults (CutsCourse course before now)
  pub sink_good : exit ≢ number_of SinkFailed → now.sink_faults ≡ before.sink_faults
  pub link_fault : exit ≡ number_of LinkFailed → Rose before.link_faults now.link_faults
  pub link_good : exit ≢ number_of LinkFailed → now.link_faults ≡ before.link_faults
  pub link_nature : now.is_faithful ≡ before.is_faithful
  pub answer : IsVerdict exit → EndsCourse course before now exit
  pub front : (exit ≡ number_of SinkFailed) ⊎ (exit ≡ number_of OutOfMemory) → PutsCourseFront course before now
  pub stopped : exit ≡ number_of LinkFailed → FailedIn now.link_faults (StopsCourse course before now)

-- Once these entries were carried and this text was printed, the rest of a course is this one.
pub record ComesTo (course : Course) (entries : List Carried) (text : List ℕ) (rest : Course) : Type 0 where
  pub are_due : AreDue (due_in course) [] entries
  pub due : (more : List Carried) → due_after course (entries ++ more) ≡ due_after rest more
  pub answer : (more : List Carried) → answer_after course (entries ++ more) ≡ after_text text (answer_after rest more)

-- So far a course went well, up to the rest of it.
pub record Went (course rest : Course) (before now : Seen) : Type 0 where
  pub entries : List Carried
  pub text : List ℕ
  pub comes : ComesTo course entries text rest
  pub log : Adds before.log now.log entries
  pub faithful : before.is_faithful ≡ true → AreFaithful entries
  pub told : Adds before.told now.told text
  pub kept : now.kept ≡ before.kept
  pub store_good : now.store_faults ≡ before.store_faults
  pub sink_good : now.sink_faults ≡ before.sink_faults
  pub link_good : now.link_faults ≡ before.link_faults
  pub link_nature : now.is_faithful ≡ before.is_faithful

-- what is seen of a sink and a link alone
abbrev pub seen_alone : {K L : Type 0} → (K → Option (List ℕ)) → (K → SinkFaults) → (L → Option (List Carried))
    → (L → Bool) → (L → LinkFaults) → K → L → Seen
seen_alone told sink_faults log is_faithful link_faults sink link = record {
  kept = None;
  store_faults = untold 0;
  told = told sink;
  sink_faults = sink_faults sink;
  log = log link;
  is_faithful = is_faithful link;
  link_faults = link_faults link;
}
