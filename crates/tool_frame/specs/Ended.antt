-- How a run of the program ends: its exit has its cause, and this is what it left of the outside (own).
use Rattle.std.specs.Prelude.{◌≡◌, ◌≢◌, ℕ, ◌⊎◌, List, [], ◌∷◌, ◌++◌, Option, Some, None, true, All, codes}
use Rattle.aidl_outside.specs.declared.link.Carried.{Carried}
use Rattle.aidl_outside.specs.Asks.{IsWrite}
use Rattle.aidl_outside.specs.Causes.{Rose}
use Rattle.aidl_outside.specs.Faults.{FailedIn, StoreCall, writing}
use Rattle.aidl_outside.specs.Files.{Files}
use Rattle.aidl_outside.specs.Told.{Tells, Adds, AddsFront}
use Rattle.aidl_outside.specs.Writes.{ChangesOnly, Write, written}
use Rattle.tool_frame.specs.declared.exit.Exit.TheVariants.{RefusedWords, StoreFailed, SinkFailed, OutOfMemory}
use Rattle.tool_frame.specs.declared.exit.Exit.TheVariants.{LinkFailed}
use Rattle.tool_frame.specs.Answer.{Answer, line}
use Rattle.tool_frame.specs.Exit.{number_of}
use Rattle.tool_frame.specs.Meaning.{Meaning, AreDue, CarriesNothing, Meant}
use Rattle.tool_frame.specs.Meaning.Meant.{unknown, means}
use Rattle.aidl_outside.specs.Parcel.{Parcel}
use Rattle.tool_frame.specs.Prints.{CutAt}
use Rattle.tool_frame.specs.Seen.{Seen}
use Rattle.tool_frame.specs.Verdict.{exit_of, IsVerdict}

-- which writes are meant, of the files before
abbrev pub Writes : Type 1
Writes = Files → List Write → Type 0

-- all writes were made
abbrev pub WroteAll : Writes → Option Files → Option Files → Type 0
WroteAll are_meant None now = now ≡ None
WroteAll are_meant (Some files) now = (made : List Write) × are_meant files made × (now ≡ Some (written made files))

-- none or the first of them were made
abbrev pub WroteSome : Writes → Option Files → Option Files → Type 0
WroteSome are_meant None now = now ≡ None
WroteSome are_meant (Some files) now = (now ≡ Some files)
    ⊎ ((made rest : List Write) × are_meant files (made ++ rest) × (now ≡ Some (written made files)))

-- The first of them were made, maybe none, and the call is that of the next one, which changed at most its path; of
-- a store that doesn't tell its files, the call is a write.
abbrev pub FailedAt : Writes → Option Files → Option Files → StoreCall → Type 0
FailedAt are_meant None now call = IsWrite call × (now ≡ None)
FailedAt are_meant (Some files) now call =
    (made rest : List Write) × (w : Write) × are_meant files (made ++ w ∷ rest)
    × ChangesOnly (Some (written made files)) now w.path × (call ≡ writing w.path)

-- The call of the store that failed is one that the command makes: one that it asks, before any write, or, of a
-- command that may write, the next write.
abbrev pub StopsAtStore : Meaning → Option Files → Option Files → StoreCall → Type 0
StopsAtStore m before now call = (m.asks before call × (now ≡ before))
    ⊎ ((m.may_write ≡ true) × FailedAt m.writes before now call)

-- The parcels that were carried: those that the log gained, each the one that was due, and delivered as it was sent
-- by a faithful link.
abbrev pub CarriedThese : Meaning → Files → Seen → Seen → List Carried → Type 0
CarriedThese m files before now entries = Adds before.log now.log entries
    × AreDue (m.due files) [] entries
    × (before.is_faithful ≡ true → All (λ (entry : Carried). entry.delivered ≡ entry.sent) entries)

-- the exit and the text are those of an answer that is meant, and nothing more is due
abbrev pub EndsAsMeant : Meaning → Seen → Seen → ℕ → Files → Type 0
EndsAsMeant m before now exit files = (entries : List Carried) × CarriedThese m files before now entries
    × m.due files entries None
    × (answer : Answer) × m.answers files entries answer
    × (exit ≡ exit_of answer.verdict)
    × Adds before.told now.told answer.text

-- nothing was put, or a front of the text of an answer that is meant
abbrev pub PutsFront : Meaning → Seen → Seen → Files → Type 0
PutsFront m before now files = (entries : List Carried) × CarriedThese m files before now entries
    × ((now.told ≡ before.told)
    ⊎ ((answer : Answer) × m.answers files entries answer × AddsFront before.told now.told answer.text))

-- a piece of the text of an answer that is meant was due
abbrev pub CutsAnswer : Meaning → Seen → Seen → List ℕ → Files → Type 0
CutsAnswer m before now piece files = (entries : List Carried) × CarriedThese m files before now entries
    × (answer : Answer) × m.answers files entries answer × CutAt answer.text before.told now.told piece

-- a parcel was due, and all the text before it was put
abbrev pub StopsAtCarry : Meaning → Seen → Seen → Parcel → Files → Type 0
StopsAtCarry m before now parcel files = (entries : List Carried) × CarriedThese m files before now entries
    × m.due files entries (Some parcel)
    × (answer : Answer) × m.answers files entries answer
    × Adds before.told now.told answer.text

-- the exits of words with a meaning: a verdict, or why there is none
abbrev pub IsExit : ℕ → Type 0
IsExit exit = IsVerdict exit ⊎ ((exit ≡ number_of StoreFailed)
    ⊎ ((exit ≡ number_of SinkFailed) ⊎ ((exit ≡ number_of OutOfMemory) ⊎ (exit ≡ number_of LinkFailed))))

pub record Ended (m : Meaning) (before now : Seen) (exit : ℕ) : Type 0 where
  -- the exits; that of the store, the sink or the link comes only where its count of faults rose, and after any
  -- other exit its faults are as they were; that of the link never comes where nothing is carried; and the link is
  -- as faithful as before
  pub exits : IsExit exit
  pub store_fault : exit ≡ number_of StoreFailed → Rose before.store_faults now.store_faults
  pub store_good : exit ≢ number_of StoreFailed → now.store_faults ≡ before.store_faults
  pub sink_fault : exit ≡ number_of SinkFailed → Rose before.sink_faults now.sink_faults
  pub sink_good : exit ≢ number_of SinkFailed → now.sink_faults ≡ before.sink_faults
  pub link_fault : exit ≡ number_of LinkFailed → Rose before.link_faults now.link_faults
  pub link_good : exit ≢ number_of LinkFailed → now.link_faults ≡ before.link_faults
  pub link_nature : now.is_faithful ≡ before.is_faithful
  pub no_link_fault : CarriesNothing m → exit ≢ number_of LinkFailed
  -- what failed: a call of the store that the command makes, a piece of its text, which isn't empty, or the parcel
  -- that was due
  pub store_due : exit ≡ number_of StoreFailed → FailedIn now.store_faults (StopsAtStore m before.kept now.kept)
  pub sink_due : exit ≡ number_of SinkFailed
      → FailedIn now.sink_faults (λ piece. (piece ≢ []) × Tells before.kept (CutsAnswer m before now piece))
  pub link_due : exit ≡ number_of LinkFailed
      → FailedIn now.link_faults (λ parcel. Tells before.kept (StopsAtCarry m before now parcel))
  -- what was written: all; after a want of memory some; `store_due` says it after a fault of the store
  pub wrote : IsVerdict exit ⊎ ((exit ≡ number_of SinkFailed) ⊎ (exit ≡ number_of LinkFailed))
      → WroteAll m.writes before.kept now.kept
  pub wrote_some : exit ≡ number_of OutOfMemory → WroteSome m.writes before.kept now.kept
  -- what was carried, where nothing ever is, and after a fault of the store
  pub carries_nothing : CarriesNothing m ⊎ (exit ≡ number_of StoreFailed) → now.log ≡ before.log
  -- what was printed: after a verdict the text of an answer that is meant, nothing after a fault of the store, and
  -- a front after one of the sink or a want of memory
  pub answer : IsVerdict exit → Tells before.kept (EndsAsMeant m before now exit)
  pub silent : exit ≡ number_of StoreFailed → now.told ≡ before.told
  pub front : (exit ≡ number_of SinkFailed) ⊎ (exit ≡ number_of OutOfMemory)
      → Tells before.kept (PutsFront m before now)
  -- where no count rose, it ends as is meant, or memory was wanted
  pub complete : (Rose before.store_faults now.store_faults → ⊥) → (Rose before.sink_faults now.sink_faults → ⊥)
      → (Rose before.link_faults now.link_faults → ⊥)
      → (exit ≡ number_of OutOfMemory) ⊎ (IsVerdict exit × Tells before.kept (EndsAsMeant m before now exit))

abbrev pub refused_words : List ℕ
refused_words = line (codes "refused words")

-- words that are refused, with the exit that says so unless the sink or memory failed
pub record Refused (before now : Seen) (exit : ℕ) : Type 0 where
  pub exits : (exit ≡ number_of RefusedWords) ⊎ ((exit ≡ number_of SinkFailed) ⊎ (exit ≡ number_of OutOfMemory))
  pub untouched : now ≡ record before { told = now.told; sink_faults = now.sink_faults }
  pub sink_fault : exit ≡ number_of SinkFailed → Rose before.sink_faults now.sink_faults
  pub sink_due : exit ≡ number_of SinkFailed → FailedIn now.sink_faults (CutAt refused_words before.told now.told)
  pub sink_good : exit ≢ number_of SinkFailed → now.sink_faults ≡ before.sink_faults
  pub whole : exit ≡ number_of RefusedWords → Adds before.told now.told refused_words
  pub front : AddsFront before.told now.told refused_words

-- of words without a meaning, and of words with one
abbrev pub Ran : Meant → Seen → Seen → ℕ → Type 0
Ran unknown before now exit = Refused before now exit
Ran (means m) before now exit = Ended m before now exit
