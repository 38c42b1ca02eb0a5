-- How a run of a command ends that neither writes nor carries.
use Rattle.std.proofs.Common.{◌≡◌, ℕ, ◌≤◌, List, [], Option, Some, None, refl, sym, ap, subst, arith, inl, inr}
use Rattle.std.specs.Prelude.{◌≢◌, ◌⊎◌, Result, Ok, Err}
use Rattle.std.proofs.lemmas.List.{append-nil}
use Rattle.aidl_outside.specs.declared.link.Carried.{Carried}
use Rattle.aidl_outside.specs.Asks.{Asks}
use Rattle.aidl_outside.specs.Causes.{Rose}
use Rattle.aidl_outside.specs.Faults.{FailedIn}
use Rattle.aidl_outside.specs.Files.{Files}
use Rattle.aidl_outside.specs.Told.{Tells, Adds, AddsFront}
use Rattle.tool_frame.specs.declared.verdict.Verdict.{Verdict}
use Rattle.tool_frame.specs.declared.verdict.Verdict.TheVariants.{Done, Negative, LimitPassed}
use Rattle.tool_frame.specs.Answer.{Answer}
use Rattle.tool_frame.specs.Ended.{Ended, Writes, WroteAll, WroteSome, CarriedThese, CutsAnswer, EndsAsMeant, PutsFront, StopsAtStore}
use Rattle.tool_frame.specs.Meaning.{reads_by}
use Rattle.tool_frame.specs.Seen.{Seen}
use Rattle.tool_frame.specs.Verdict.{exit_of, IsVerdict}
use Rattle.tool_frame.specs.declared.halt.Halt.{Halt}
use Rattle.tool_frame.specs.declared.halt.Halt.TheVariants.{Answered, StoreFailed, OutOfMemory}
use Rattle.tool_frame.specs.Halts.{FailsAsking, HaltCause, IsSaid}
use Rattle.tool_frame.specs.declared.printed.Printed.{Printed}
use Rattle.tool_frame.specs.Ends.{EndsRead}
use Rattle.tool_frame.specs.Prints.{CutAt, Prints}
use Rattle.tool_frame.specs.Results.{printed}
use Rattle.aidl_outside.proofs.lemmas.Failing.{failed_as}
use Rattle.aidl_outside.proofs.lemmas.Telling.{tells}

pub verdict_exit : (v : Verdict) → IsVerdict (exit_of v)
verdict_exit verdict = (verdict, refl)

pub nothing_carried : (log : Option (List Carried)) → Adds log log []
nothing_carried None = refl
nothing_carried (Some before) = ap (λ now. Some now) (sym (append-nil before))

abbrev pub Nothing : Writes
Nothing files made = made ≡ []

pub all_written : (kept : Option Files) → WroteAll Nothing kept kept
all_written None = refl
all_written (Some files) = ([], refl, refl)

pub some_written : (kept : Option Files) → WroteSome Nothing kept kept
some_written None = refl
some_written (Some files) = inl refl

-- a verdict, a fault of the store or the sink, or want of memory
abbrev pub IsReadExit : ℕ → Type 0
IsReadExit exit = IsVerdict exit ⊎ ((exit ≡ 3) ⊎ ((exit ≡ 4) ⊎ (exit ≡ 5)))

pub not_verdict : (exit : ℕ) → 2 ≤ exit → exit ≤ 6 → IsVerdict exit → ⊥
not_verdict exit low high (Done, zero) = omega arith
not_verdict exit low high (Negative, one) = omega arith
not_verdict exit low high (LimitPassed, seven) = omega arith

pub not_six : (exit : ℕ) → IsReadExit exit → exit ≡ 6 → ⊥
not_six exit (inl verdict) six = not_verdict exit (omega arith) (omega arith) verdict
not_six exit (inr (inl three)) six = omega arith
not_six exit (inr (inr (inl four))) six = omega arith
not_six exit (inr (inr (inr five))) six = omega arith

pub not_both : (exit : ℕ) → exit ≡ 3 → (exit ≡ 4) ⊎ (exit ≡ 5) → ⊥
not_both exit three (inl four) = omega arith
not_both exit three (inr five) = omega arith

pub widened : (exit : ℕ) → IsReadExit exit → IsVerdict exit ⊎ ((exit ≡ 3) ⊎ ((exit ≡ 4) ⊎ ((exit ≡ 5) ⊎ (exit ≡ 6))))
widened exit (inl verdict) = inl verdict
widened exit (inr (inl three)) = inr (inl three)
widened exit (inr (inr (inl four))) = inr (inr (inl four))
widened exit (inr (inr (inr five))) = inr (inr (inr (inl five)))

pub told_always : {A : Type 0} {Q : A → Type 0} (told : Option A) → ((a : A) → Q a) → Tells told Q
told_always None h = tt
told_always (Some a) h = h a

-- the exits of a print
abbrev pub IsPrintExit : Answer → ℕ → Type 0
IsPrintExit a exit = (exit ≡ exit_of a.verdict) ⊎ ((exit ≡ 4) ⊎ (exit ≡ 5))

pub exits_of : (a : Answer) (exit : ℕ) → IsPrintExit a exit → IsReadExit exit
exits_of a exit (inl e) = inl (subst IsVerdict (sym e) (verdict_exit a.verdict))
exits_of a exit (inr (inl four)) = inr (inr (inl four))
exits_of a exit (inr (inr five)) = inr (inr (inr five))

pub not_three : (a : Answer) (exit : ℕ) → IsPrintExit a exit → exit ≡ 3 → ⊥
not_three a exit (inl e) three = not_verdict exit (omega arith) (omega arith) (subst IsVerdict (sym e) (verdict_exit a.verdict))
not_three a exit (inr (inl four)) three = omega arith
not_three a exit (inr (inr five)) three = omega arith

pub verdict_is : (a : Answer) (exit : ℕ) → IsPrintExit a exit → IsVerdict exit → exit ≡ exit_of a.verdict
verdict_is a exit (inl e) verdict = e
verdict_is a exit (inr (inl four)) verdict = absurd (not_verdict exit (omega arith) (omega arith) verdict)
verdict_is a exit (inr (inr five)) verdict = absurd (not_verdict exit (omega arith) (omega arith) verdict)

module _ (asks : Asks) (answers : Files → Answer → Type 0) (before now : Seen) (exit : ℕ)
    (kept : now.kept ≡ before.kept) (log : now.log ≡ before.log) (link : now.link_faults ≡ before.link_faults) (nature : now.is_faithful ≡ before.is_faithful) where
  -- the exit and the text are those of an answer
  abbrev IsMeant : Files → Type 0
  IsMeant files = (answer : Answer) × answers files answer × (exit ≡ exit_of answer.verdict) × Adds before.told now.told answer.text

  -- nothing was put, or a front of the text of an answer
  abbrev IsFront : Files → Type 0
  IsFront files = (now.told ≡ before.told) ⊎ ((answer : Answer) × answers files answer × AddsFront before.told now.told answer.text)

  -- a piece of the text of an answer was due
  abbrev IsCutAt : List ℕ → Files → Type 0
  IsCutAt piece files = (answer : Answer) × answers files answer × CutAt answer.text before.told now.told piece

  these : (files : Files) → CarriedThese (reads_by asks answers) files before now []
  these files = (subst (λ l. Adds before.log l []) (sym log) (nothing_carried before.log), tt, λ faithful k entry none. absurd (omega arith))

  as_meant : Tells before.kept IsMeant → Tells before.kept (EndsAsMeant (reads_by asks answers) before now exit)
  as_meant told = tells before.kept _ _ (λ files meant. ([], these files, refl, meant.0, meant.1, meant.2, meant.3)) told

  cuts_answer : (piece : List ℕ) → Tells before.kept (IsCutAt piece) → Tells before.kept (CutsAnswer (reads_by asks answers) before now piece)
  cuts_answer piece told = tells before.kept _ _ (λ files cut. ([], these files, cut.0, cut.1, cut.2)) told

  -- nothing was written before the call that failed
  asked : FailedIn now.store_faults (asks before.kept) → FailedIn now.store_faults (StopsAtStore (reads_by asks answers) before.kept now.kept)
  asked failed = failed_as now.store_faults _ _ (λ call is. inl (is, kept)) failed

  -- a piece that was due of what is answered
  cut : FailedIn now.sink_faults (λ piece. (piece ≢ []) × Tells before.kept (IsCutAt piece))
      → FailedIn now.sink_faults (λ piece. (piece ≢ []) × Tells before.kept (CutsAnswer (reads_by asks answers) before now piece))
  cut failed = failed_as now.sink_faults _ _ (λ piece is. (is.0, cuts_answer piece is.1)) failed

  puts_front : Tells before.kept IsFront → Tells before.kept (PutsFront (reads_by asks answers) before now)
  puts_front told = tells before.kept _ _ (λ files front. ([], these files, front)) told

  complete_by : IsReadExit exit → (exit ≡ 3 → Rose before.store_faults now.store_faults) → (exit ≡ 4 → Rose before.sink_faults now.sink_faults)
      → (IsVerdict exit → Tells before.kept (EndsAsMeant (reads_by asks answers) before now exit))
      → (Rose before.store_faults now.store_faults → ⊥) → (Rose before.sink_faults now.sink_faults → ⊥)
      → (exit ≡ 5) ⊎ (IsVerdict exit × Tells before.kept (EndsAsMeant (reads_by asks answers) before now exit))
  complete_by (inl verdict) store sink meant no_store no_sink = inr (verdict, meant verdict)
  complete_by (inr (inl three)) store sink meant no_store no_sink = absurd (no_store (store three))
  complete_by (inr (inr (inl four))) store sink meant no_store no_sink = absurd (no_sink (sink four))
  complete_by (inr (inr (inr five))) store sink meant no_store no_sink = inl five

  -- a run that neither wrote nor carried
  ended : (exits : IsReadExit exit)
      → (store_fault : exit ≡ 3 → Rose before.store_faults now.store_faults)
      → (store_good : exit ≢ 3 → now.store_faults ≡ before.store_faults)
      → (sink_fault : exit ≡ 4 → Rose before.sink_faults now.sink_faults)
      → (sink_good : exit ≢ 4 → now.sink_faults ≡ before.sink_faults)
      → (store_due : exit ≡ 3 → FailedIn now.store_faults (asks before.kept))
      → (sink_due : exit ≡ 4 → FailedIn now.sink_faults (λ piece. (piece ≢ []) × Tells before.kept (IsCutAt piece)))
      → (answered : IsVerdict exit → Tells before.kept IsMeant)
      → (silent : exit ≡ 3 → now.told ≡ before.told)
      → (front : (exit ≡ 4) ⊎ (exit ≡ 5) → Tells before.kept IsFront)
      → Ended (reads_by asks answers) before now exit
  ended exits store_fault store_good sink_fault sink_good store_due sink_due answered silent front = record {
    exits = widened exit exits;
    store_fault = store_fault;
    store_good = store_good;
    sink_fault = sink_fault;
    sink_good = sink_good;
    link_fault = λ six. absurd (not_six exit exits six);
    link_good = λ other. link;
    link_nature = nature;
    no_link_fault = λ quiet six. not_six exit exits six;
    store_due = λ three. asked (store_due three);
    sink_due = λ four. cut (sink_due four);
    link_due = λ six. absurd (not_six exit exits six);
    wrote = λ ends. subst (λ k. WroteAll Nothing before.kept k) (sym kept) (all_written before.kept);
    wrote_some = λ five. subst (λ k. WroteSome Nothing before.kept k) (sym kept) (some_written before.kept);
    carries_nothing = λ why. log;
    answer = λ verdict. as_meant (answered verdict);
    silent = silent;
    front = λ ends. puts_front (front ends);
    complete = λ no_store no_sink no_link. complete_by exits store_fault sink_fault (λ verdict. as_meant (answered verdict)) no_store no_sink;
  }

module _ (asks : Asks) (answers : Files → Answer → Type 0) (before now : Seen)
    (kept : now.kept ≡ before.kept) (log : now.log ≡ before.log) (link : now.link_faults ≡ before.link_faults) (nature : now.is_faithful ≡ before.is_faithful) where
  -- a read that failed
  pub ended_by_store : Rose before.store_faults now.store_faults → FailedIn now.store_faults (asks before.kept) → now.told ≡ before.told → now.sink_faults ≡ before.sink_faults → Ended (reads_by asks answers) before now 3
  ended_by_store rose due told sink =
      ended asks answers before now 3 kept log link nature (inr (inl refl)) (λ three. rose) (λ other. absurd (other refl)) (λ four. absurd (omega arith)) (λ other. sink)
      (λ three. due) (λ four. absurd (omega arith))
      (λ verdict. absurd (not_verdict 3 (omega arith) (omega arith) verdict)) (λ three. told) (λ ends. absurd (not_both 3 refl ends))

  -- want of memory before anything was put
  pub ended_by_memory : now.store_faults ≡ before.store_faults → now.told ≡ before.told → now.sink_faults ≡ before.sink_faults → Ended (reads_by asks answers) before now 5
  ended_by_memory store told sink =
      ended asks answers before now 5 kept log link nature (inr (inr (inr refl))) (λ three. absurd (omega arith)) (λ other. store) (λ four. absurd (omega arith)) (λ other. sink)
      (λ three. absurd (omega arith)) (λ four. absurd (omega arith))
      (λ verdict. absurd (not_verdict 5 (omega arith) (omega arith) verdict)) (λ three. absurd (omega arith))
      (λ ends. told_always before.kept (λ files. inl told))

  -- an answer that was printed
  pub ended_by_print : (a : Answer) (exit : ℕ) → Tells before.kept (λ files. answers files a) → now.store_faults ≡ before.store_faults
      → Prints a before.told now.told before.sink_faults now.sink_faults exit → Ended (reads_by asks answers) before now exit
  ended_by_print a exit is store prints =
      ended asks answers before now exit kept log link nature (exits_of a exit prints.exits) (λ three. absurd (not_three a exit prints.exits three)) (λ other. store) prints.fault prints.good
      (λ three. absurd (not_three a exit prints.exits three))
      (λ four. failed_as now.sink_faults _ _ (λ piece due. (due.6, tells before.kept _ _ (λ files meant. (a, meant, due)) is)) (prints.due four))
      (λ verdict. let e = verdict_is a exit prints.exits verdict in tells before.kept _ _ (λ files meant. (a, meant, e, prints.whole e)) is)
      (λ three. absurd (not_three a exit prints.exits three))
      (λ ends. tells before.kept _ _ (λ files meant. inr (a, meant, prints.front)) is)

  -- what was answered of the files that were read
  pub ended_read : (exit : ℕ) (answered : Result Printed Halt) → HaltCause before.store_faults now.store_faults answered
      → FailsAsking before.kept now.store_faults answered asks → Tells before.kept (λ files. IsSaid (λ p. answers files (printed p)) (answers files) answered)
      → EndsRead answered before.told now.told before.sink_faults now.sink_faults exit → Ended (reads_by asks answers) before now exit
  ended_read exit (Ok p) cause due given ends = ended_by_print (printed p) exit given cause ends
  ended_read exit (Err (Answered p)) cause due given ends = ended_by_print (printed p) exit given cause ends
  ended_read exit (Err StoreFailed) cause due given ends = subst (Ended (reads_by asks answers) before now) (sym ends.exits) (ended_by_store cause due ends.silent ends.good)
  ended_read exit (Err OutOfMemory) cause due given ends = subst (Ended (reads_by asks answers) before now) (sym ends.exits) (ended_by_memory cause ends.silent ends.good)
