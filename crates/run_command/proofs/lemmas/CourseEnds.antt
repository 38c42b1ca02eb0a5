-- How `run` ends, by what was prepared and what was then run.
use Rattle.std.proofs.Common.{◌≡◌, ℕ, List, Option, None, Err, refl, sym, ap, ◌∙◌, subst, arith, inl, inr}
use Rattle.aidl_outside.specs.Asks.{Asks}
use Rattle.aidl_outside.specs.Causes.{Rose}
use Rattle.aidl_outside.specs.Faults.{FailedIn, SinkFaults, StoreFaults, untold}
use Rattle.aidl_outside.specs.Files.{Files}
use Rattle.aidl_outside.specs.Told.{Tells}
use Rattle.run_command.specs.Running.{Takes}
use Rattle.run_command.specs.steps.Running.{RanSome}
use Rattle.tool_frame.specs.declared.halt.Halt.{Halt}
use Rattle.tool_frame.specs.declared.halt.Halt.TheVariants.{Answered, StoreFailed, OutOfMemory}
use Rattle.tool_frame.specs.Answer.{Answer}
use Rattle.tool_frame.specs.Course.{Course, at_once}
use Rattle.tool_frame.specs.Ended.{Ended}
use Rattle.tool_frame.specs.Ends.{EndsRead}
use Rattle.tool_frame.specs.Halts.{Gets}
use Rattle.tool_frame.specs.Meaning.{carries_by}
use Rattle.tool_frame.specs.Results.{printed}
use Rattle.tool_frame.specs.Seen.{Seen}
use Rattle.tool_frame.proofs.lemmas.Courses.{ended_carried, ended_early, ran_printed, with_store}
use Rattle.aidl_outside.proofs.lemmas.Telling.{tells}

-- what is seen without the store
abbrev pub alone : Seen → Seen
alone seen = record seen { kept = None; store_faults = untold 0 }

module _ (asks : Asks) (takes : Files → Takes) (before now : Seen) (kept : now.kept ≡ before.kept) where
  -- A course of what was loaded ran, or memory was wanted before any.
  pub ended_some : (some : Takes) (exit : ℕ) → now.store_faults ≡ before.store_faults → Tells before.kept (λ files. (course : Course) → some course → takes files course)
      → RanSome some (alone before) (alone now) exit → Ended (carries_by asks takes) before now exit
  ended_some some exit good told (inl (course, is, ran)) =
      ended_carried asks takes course before now exit (tells before.kept _ _ (λ files also. also course is) told) (with_store course before now exit kept good ran)
  ended_some some exit good told (inr (five, same)) =
      ended_early asks takes before now exit (inr five) (λ three. absurd (omega arith)) (λ other. good) (λ three. absurd (omega arith)) kept (ap (λ s. s.told) same) (ap (λ s. s.sink_faults) same)
      (ap (λ s. s.log) same) (ap (λ s. s.link_faults) same) (ap (λ s. s.is_faithful) same)

  -- A call of the store failed.
  pub ended_failed : Rose before.store_faults now.store_faults → FailedIn now.store_faults (asks before.kept) → alone now ≡ alone before → Ended (carries_by asks takes) before now 3
  ended_failed rose failed same =
      ended_early asks takes before now 3 (inl refl) (λ three. rose) (λ other. absurd (other refl)) (λ three. failed) kept (ap (λ s. s.told) same) (ap (λ s. s.sink_faults) same)
      (ap (λ s. s.log) same) (ap (λ s. s.link_faults) same) (ap (λ s. s.is_faithful) same)

  -- Memory was wanted while the store was read.
  pub ended_lost : now.store_faults ≡ before.store_faults → alone now ≡ alone before → Ended (carries_by asks takes) before now 5
  ended_lost good same =
      ended_early asks takes before now 5 (inr refl) (λ three. absurd (omega arith)) (λ other. good) (λ three. absurd (omega arith)) kept (ap (λ s. s.told) same) (ap (λ s. s.sink_faults) same)
      (ap (λ s. s.log) same) (ap (λ s. s.link_faults) same) (ap (λ s. s.is_faithful) same)

-- What was read, put and failed since.
module _ (asks : Asks) (takes : Files → Takes) (before : Seen) (kept : Option Files) (store_faults : StoreFaults) (told : Option (List ℕ)) (sink_faults : SinkFaults) where
  abbrev pub after_read : Seen
  after_read = record before { kept = kept; store_faults = store_faults; told = told; sink_faults = sink_faults }

  unprinted : told ≡ before.told → sink_faults ≡ before.sink_faults → alone after_read ≡ alone before
  unprinted silent good =
      ap (λ t. let s : Seen = record (alone before) { told = t; sink_faults = sink_faults } in s) silent ∙ ap (λ n. let s : Seen = record (alone before) { sink_faults = n } in s) good

  -- Nothing was prepared.
  pub ended_halted : {T : Type 0} (Is : Files → T → Type 0) (Ends : Files → Answer → Type 0) (exit : ℕ) (halt : Halt)
      → Gets {T = T} asks Is Ends (record { kept = before.kept; faults = before.store_faults }) (record { kept = kept; faults = store_faults }) (Err halt)
      → ((files : Files) (a : Answer) → Ends files a → takes files (at_once a))
      → EndsRead (Err halt) before.told told before.sink_faults sink_faults exit → Ended (carries_by asks takes) before after_read exit
  ended_halted Is Ends exit (Answered p) gets meant ends =
      ended_carried asks takes (at_once (printed p)) before after_read exit (tells before.kept _ _ (λ files said. meant files (printed p) said) gets.said)
      (with_store (at_once (printed p)) before after_read exit gets.unchanged gets.cause (ran_printed (alone before) told sink_faults (printed p) exit ends))
  ended_halted Is Ends exit StoreFailed gets meant ends =
      subst (Ended (carries_by asks takes) before after_read) (sym ends.exits) (ended_failed asks takes before after_read gets.unchanged gets.cause gets.failed (unprinted ends.silent ends.good))
  ended_halted Is Ends exit OutOfMemory gets meant ends =
      subst (Ended (carries_by asks takes) before after_read) (sym ends.exits) (ended_lost asks takes before after_read gets.unchanged gets.cause (unprinted ends.silent ends.good))
