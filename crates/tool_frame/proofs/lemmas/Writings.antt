-- How a run of a command ends that writes and doesn't carry.
use Rattle.std.proofs.Common.{◌≡◌, ℕ, ◌≤◌, List, [], Option, Some, None, refl, sym, subst, arith, inl, inr}
use Rattle.std.specs.Prelude.{◌≢◌, ◌⊎◌, Result, Ok, Err}
use Rattle.std.proofs.lemmas.List.{append-nil}
use Rattle.aidl_outside.specs.Asks.{Asks}
use Rattle.aidl_outside.specs.Causes.{Rose}
use Rattle.aidl_outside.specs.Faults.{FailedIn, StoreCall, StoreFaults}
use Rattle.aidl_outside.specs.Files.{Files}
use Rattle.aidl_outside.specs.Told.{Tells, Adds, AddsFront}
use Rattle.aidl_outside.specs.Writes.{Write}
use Rattle.tool_frame.specs.Acts.{Acts, acts_by, writes_of, answers_of}
use Rattle.tool_frame.specs.Answer.{Answer}
use Rattle.tool_frame.specs.Ended.{Ended, WroteAll, WroteSome, FailedAt, CarriedThese, CutsAnswer, EndsAsMeant, PutsFront, StopsAtStore}
use Rattle.tool_frame.specs.Seen.{Seen}
use Rattle.tool_frame.specs.Verdict.{exit_of, IsVerdict}
use Rattle.tool_frame.specs.declared.halt.Halt.{Halt}
use Rattle.tool_frame.specs.declared.halt.Halt.TheVariants.{Answered, StoreFailed, OutOfMemory}
use Rattle.tool_frame.specs.Halts.{HaltCause}
use Rattle.tool_frame.specs.declared.printed.Printed.{Printed}
use Rattle.tool_frame.specs.steps.Acts.{Acted, ActsAs}
use Rattle.tool_frame.specs.Ends.{EndsRead}
use Rattle.tool_frame.specs.Prints.{CutAt, Prints}
use Rattle.tool_frame.specs.Results.{printed}
use Rattle.tool_frame.proofs.lemmas.Endings.{IsReadExit, exits_of, nothing_carried, not_both, not_six, not_three, not_verdict, told_always, verdict_is, widened}
use Rattle.aidl_outside.proofs.lemmas.Failing.{failed_as}
use Rattle.aidl_outside.proofs.lemmas.Telling.{tells}

module _ (acts : Files → Acts) where
  -- all that was meant is some of it
  some_of_all : (before now : Option Files) → WroteAll (writes_of acts) before now → WroteSome (writes_of acts) before now
  some_of_all None now same = same
  some_of_all (Some files) now (made, is, e) = inr (made, [], subst (λ ws. writes_of acts files ws) (sym (append-nil made)) is, e)

  all_acted : (before now : Option Files) (a : Answer) → Acted acts before now a → WroteAll (writes_of acts) before now
  all_acted None now a same = same
  all_acted (Some files) now a (made, is, e) = (made, (a, is), e)

  answers_acted : (before now : Option Files) (a : Answer) → Acted acts before now a → Tells before (λ files. answers_of acts files a)
  answers_acted None now a same = tt
  answers_acted (Some files) now a (made, is, e) = (made, is)

module _ (asks : Asks) (acts : Files → Acts) (before now : Seen) (exit : ℕ)
    (log : now.log ≡ before.log) (link : now.link_faults ≡ before.link_faults) (nature : now.is_faithful ≡ before.is_faithful) where
  -- the exit and the text are those of an answer
  abbrev IsMeant : Files → Type 0
  IsMeant files = (answer : Answer) × answers_of acts files answer × (exit ≡ exit_of answer.verdict) × Adds before.told now.told answer.text

  -- nothing was put, or a front of the text of an answer
  abbrev IsFront : Files → Type 0
  IsFront files = (now.told ≡ before.told) ⊎ ((answer : Answer) × answers_of acts files answer × AddsFront before.told now.told answer.text)

  -- a piece of the text of an answer was due
  abbrev IsCutAt : List ℕ → Files → Type 0
  IsCutAt piece files = (answer : Answer) × answers_of acts files answer × CutAt answer.text before.told now.told piece

  these : (files : Files) → CarriedThese (acts_by asks acts) files before now []
  these files = (subst (λ l. Adds before.log l []) (sym log) (nothing_carried before.log), tt, λ faithful k entry none. absurd (omega arith))

  as_meant : Tells before.kept IsMeant → Tells before.kept (EndsAsMeant (acts_by asks acts) before now exit)
  as_meant told = tells before.kept _ _ (λ files meant. ([], these files, refl, meant.0, meant.1, meant.2, meant.3)) told

  cuts_answer : (piece : List ℕ) → Tells before.kept (IsCutAt piece) → Tells before.kept (CutsAnswer (acts_by asks acts) before now piece)
  cuts_answer piece told = tells before.kept _ _ (λ files cut. ([], these files, cut.0, cut.1, cut.2)) told

  -- a piece that was due of what is answered
  cut : FailedIn now.sink_faults (λ piece. (piece ≢ []) × Tells before.kept (IsCutAt piece))
      → FailedIn now.sink_faults (λ piece. (piece ≢ []) × Tells before.kept (CutsAnswer (acts_by asks acts) before now piece))
  cut failed = failed_as now.sink_faults _ _ (λ piece is. (is.0, cuts_answer piece is.1)) failed

  puts_front : Tells before.kept IsFront → Tells before.kept (PutsFront (acts_by asks acts) before now)
  puts_front told = tells before.kept _ _ (λ files front. ([], these files, front)) told

  complete_by : IsReadExit exit → (exit ≡ 3 → Rose before.store_faults now.store_faults) → (exit ≡ 4 → Rose before.sink_faults now.sink_faults)
      → (IsVerdict exit → Tells before.kept (EndsAsMeant (acts_by asks acts) before now exit))
      → (Rose before.store_faults now.store_faults → ⊥) → (Rose before.sink_faults now.sink_faults → ⊥)
      → (exit ≡ 5) ⊎ (IsVerdict exit × Tells before.kept (EndsAsMeant (acts_by asks acts) before now exit))
  complete_by (inl verdict) store sink meant no_store no_sink = inr (verdict, meant verdict)
  complete_by (inr (inl three)) store sink meant no_store no_sink = absurd (no_store (store three))
  complete_by (inr (inr (inl four))) store sink meant no_store no_sink = absurd (no_sink (sink four))
  complete_by (inr (inr (inr five))) store sink meant no_store no_sink = inl five

  ended : (exits : IsReadExit exit)
      → (store_fault : exit ≡ 3 → Rose before.store_faults now.store_faults)
      → (store_good : exit ≢ 3 → now.store_faults ≡ before.store_faults)
      → (sink_fault : exit ≡ 4 → Rose before.sink_faults now.sink_faults)
      → (sink_good : exit ≢ 4 → now.sink_faults ≡ before.sink_faults)
      → (wrote : IsVerdict exit ⊎ ((exit ≡ 4) ⊎ (exit ≡ 6)) → WroteAll (writes_of acts) before.kept now.kept)
      → (wrote_some : exit ≡ 5 → WroteSome (writes_of acts) before.kept now.kept)
      → (store_due : exit ≡ 3 → FailedIn now.store_faults (StopsAtStore (acts_by asks acts) before.kept now.kept))
      → (sink_due : exit ≡ 4 → FailedIn now.sink_faults (λ piece. (piece ≢ []) × Tells before.kept (IsCutAt piece)))
      → (answered : IsVerdict exit → Tells before.kept IsMeant)
      → (silent : exit ≡ 3 → now.told ≡ before.told)
      → (front : (exit ≡ 4) ⊎ (exit ≡ 5) → Tells before.kept IsFront)
      → Ended (acts_by asks acts) before now exit
  ended exits store_fault store_good sink_fault sink_good wrote wrote_some store_due sink_due answered silent front = record {
    exits = widened exit exits;
    store_fault = store_fault;
    store_good = store_good;
    sink_fault = sink_fault;
    sink_good = sink_good;
    link_fault = λ six. absurd (not_six exit exits six);
    link_good = λ other. link;
    link_nature = nature;
    no_link_fault = λ quiet six. not_six exit exits six;
    store_due = store_due;
    sink_due = λ four. cut (sink_due four);
    link_due = λ six. absurd (not_six exit exits six);
    wrote = wrote;
    wrote_some = wrote_some;
    carries_nothing = λ why. log;
    answer = λ verdict. as_meant (answered verdict);
    silent = silent;
    front = λ ends. puts_front (front ends);
    complete = λ no_store no_sink no_link. complete_by exits store_fault sink_fault (λ verdict. as_meant (answered verdict)) no_store no_sink;
  }

no_write_exit : (exit : ℕ) → 2 ≤ exit → exit ≤ 3 → IsVerdict exit ⊎ ((exit ≡ 4) ⊎ (exit ≡ 6)) → ⊥
no_write_exit exit low high (inl verdict) = not_verdict exit (omega arith) (omega arith) verdict
no_write_exit exit low high (inr (inl four)) = omega arith
no_write_exit exit low high (inr (inr six)) = omega arith

no_write_five : (exit : ℕ) → exit ≡ 5 → IsVerdict exit ⊎ ((exit ≡ 4) ⊎ (exit ≡ 6)) → ⊥
no_write_five exit five (inl verdict) = not_verdict exit (omega arith) (omega arith) verdict
no_write_five exit five (inr (inl four)) = omega arith
no_write_five exit five (inr (inr six)) = omega arith

module _ (asks : Asks) (acts : Files → Acts) (before now : Seen)
    (log : now.log ≡ before.log) (link : now.link_faults ≡ before.link_faults) (nature : now.is_faithful ≡ before.is_faithful) where
  -- a call of the store that failed
  ended_by_store : FailedIn now.store_faults (StopsAtStore (acts_by asks acts) before.kept now.kept) → Rose before.store_faults now.store_faults → now.told ≡ before.told
      → now.sink_faults ≡ before.sink_faults → Ended (acts_by asks acts) before now 3
  ended_by_store failed rose told sink =
      ended asks acts before now 3 log link nature (inr (inl refl)) (λ three. rose) (λ other. absurd (other refl)) (λ four. absurd (omega arith)) (λ other. sink)
      (λ why. absurd (no_write_exit 3 (omega arith) (omega arith) why)) (λ five. absurd (omega arith)) (λ three. failed) (λ four. absurd (omega arith))
      (λ verdict. absurd (not_verdict 3 (omega arith) (omega arith) verdict)) (λ three. told) (λ ends. absurd (not_both 3 refl ends))

  -- want of memory before anything was put
  ended_by_memory : WroteSome (writes_of acts) before.kept now.kept → now.store_faults ≡ before.store_faults → now.told ≡ before.told
      → now.sink_faults ≡ before.sink_faults → Ended (acts_by asks acts) before now 5
  ended_by_memory some store told sink =
      ended asks acts before now 5 log link nature (inr (inr (inr refl))) (λ three. absurd (omega arith)) (λ other. store) (λ four. absurd (omega arith)) (λ other. sink)
      (λ why. absurd (no_write_five 5 refl why)) (λ five. some) (λ three. absurd (omega arith)) (λ four. absurd (omega arith))
      (λ verdict. absurd (not_verdict 5 (omega arith) (omega arith) verdict)) (λ three. absurd (omega arith))
      (λ ends. told_always before.kept (λ files. inl told))

  -- an answer that was printed
  ended_by_print : (a : Answer) (exit : ℕ) → Acted acts before.kept now.kept a → now.store_faults ≡ before.store_faults
      → Prints a before.told now.told before.sink_faults now.sink_faults exit → Ended (acts_by asks acts) before now exit
  ended_by_print a exit acted store prints =
      let all = all_acted acts before.kept now.kept a acted in
      let is = answers_acted acts before.kept now.kept a acted in
      ended asks acts before now exit log link nature (exits_of a exit prints.exits) (λ three. absurd (not_three a exit prints.exits three)) (λ other. store) prints.fault prints.good
      (λ why. all) (λ five. some_of_all acts before.kept now.kept all) (λ three. absurd (not_three a exit prints.exits three))
      (λ four. failed_as now.sink_faults _ _ (λ piece due. (due.6, tells before.kept _ _ (λ files meant. (a, meant, due)) is)) (prints.due four))
      (λ verdict. let e = verdict_is a exit prints.exits verdict in tells before.kept _ _ (λ files meant. (a, meant, e, prints.whole e)) is)
      (λ three. absurd (not_three a exit prints.exits three))
      (λ ends. tells before.kept _ _ (λ files meant. inr (a, meant, prints.front)) is)

  -- what was answered, by what was left of the store
  pub ended_wrote : (exit : ℕ) (answered : Result Printed Halt) → HaltCause before.store_faults now.store_faults answered
      → ActsAs asks acts before.kept now.kept now.store_faults answered
      → EndsRead answered before.told now.told before.sink_faults now.sink_faults exit → Ended (acts_by asks acts) before now exit
  ended_wrote exit (Ok p) cause acted ends = ended_by_print (printed p) exit acted cause ends
  ended_wrote exit (Err (Answered p)) cause acted ends = ended_by_print (printed p) exit acted cause ends
  ended_wrote exit (Err StoreFailed) cause failed ends = subst (Ended (acts_by asks acts) before now) (sym ends.exits) (ended_by_store failed cause ends.silent ends.good)
  ended_wrote exit (Err OutOfMemory) cause some ends = subst (Ended (acts_by asks acts) before now) (sym ends.exits) (ended_by_memory some cause ends.silent ends.good)

-- nothing was written yet
none_yet : (acts : Files → Acts) (before now : Option Files) → now ≡ before → WroteSome (writes_of acts) before now
none_yet acts None now same = same
none_yet acts (Some files) now same = inl same

-- an answer with nothing written
acted_unwritten : (acts : Files → Acts) (before now : Option Files) (a : Answer) → now ≡ before → Tells before (λ files. acts files [] a) → Acted acts before now a
acted_unwritten acts None now a same is = same
acted_unwritten acts (Some files) now a same is = ([], is, same)

-- an end before any write, with an answer that may be given so, or a call that failed
abbrev pub MayEnd : Asks → (Files → Acts) → Option Files → StoreFaults → Halt → Type 0
MayEnd asks acts before faults (Answered p) = Tells before (λ files. acts files [] (printed p))
MayEnd asks acts before faults StoreFailed = FailedIn faults (asks before)
MayEnd asks acts before faults OutOfMemory = Unit {0}

pub ends_unwritten : (asks : Asks) (acts : Files → Acts) (before now : Option Files) (faults : StoreFaults) (halt : Halt) → now ≡ before → MayEnd asks acts before faults halt
    → ActsAs asks acts before now faults (Err halt)
ends_unwritten asks acts before now faults (Answered p) same may = acted_unwritten acts before now (printed p) same may
ends_unwritten asks acts before now faults StoreFailed same failed = failed_as faults _ _ (λ call is. inl (is, same)) failed
ends_unwritten asks acts before now faults OutOfMemory same may = none_yet acts before now same

-- what implies it
module _ (less more : Files → Acts) (files : Files) (wider : (made : List Write) (a : Answer) → less files made a → more files made a) where
  some_more : (now : Option Files) → WroteSome (writes_of less) (Some files) now → WroteSome (writes_of more) (Some files) now
  some_more now (inl same) = inl same
  some_more now (inr (made, rest, (a, is), e)) = inr (made, rest, (a, wider _ a is), e)

  failed_more : (now : Option Files) (call : StoreCall) → FailedAt (writes_of less) (Some files) now call → FailedAt (writes_of more) (Some files) now call
  failed_more now call (made, rest, w, (a, is), changes, called) = (made, rest, w, (a, wider _ a is), changes, called)

  stops_more : (asks wide : Asks) (now : Option Files) (call : StoreCall) → (asks (Some files) call → wide (Some files) call)
      → StopsAtStore (acts_by asks less) (Some files) now call → StopsAtStore (acts_by wide more) (Some files) now call
  stops_more asks wide now call also (inl (is, same)) = inl (also is, same)
  stops_more asks wide now call also (inr (may, failed)) = inr (may, failed_more now call failed)

  told_more : (asks wide : Asks) (now : Option Files) (faults : StoreFaults) (answered : Result Printed Halt)
      → ((call : StoreCall) → asks (Some files) call → wide (Some files) call) → ActsAs asks less (Some files) now faults answered → ActsAs wide more (Some files) now faults answered
  told_more asks wide now faults (Ok p) also (made, is, e) = (made, wider _ _ is, e)
  told_more asks wide now faults (Err (Answered p)) also (made, is, e) = (made, wider _ _ is, e)
  told_more asks wide now faults (Err OutOfMemory) also some = some_more now some
  told_more asks wide now faults (Err StoreFailed) also failed = failed_as faults _ _ (λ call. stops_more asks wide now call (also call)) failed

stops_untold : (asks wide : Asks) (less more : Files → Acts) (now : Option Files) (call : StoreCall) → (asks None call → wide None call)
    → StopsAtStore (acts_by asks less) None now call → StopsAtStore (acts_by wide more) None now call
stops_untold asks wide less more now call also (inl (is, same)) = inl (also is, same)
stops_untold asks wide less more now call also (inr failed) = inr failed

same_untold : (asks wide : Asks) (less more : Files → Acts) (now : Option Files) (faults : StoreFaults) (answered : Result Printed Halt)
    → ((call : StoreCall) → asks None call → wide None call) → ActsAs asks less None now faults answered → ActsAs wide more None now faults answered
same_untold asks wide less more now faults (Ok p) also h = h
same_untold asks wide less more now faults (Err (Answered p)) also h = h
same_untold asks wide less more now faults (Err OutOfMemory) also h = h
same_untold asks wide less more now faults (Err StoreFailed) also h = failed_as faults _ _ (λ call. stops_untold asks wide less more now call (also call)) h

pub acts_more : (asks wide : Asks) (less more : Files → Acts) (before now : Option Files) (faults : StoreFaults) (answered : Result Printed Halt)
    → ((call : StoreCall) → asks before call → wide before call) → Tells before (λ files. (made : List Write) (a : Answer) → less files made a → more files made a)
    → ActsAs asks less before now faults answered → ActsAs wide more before now faults answered
acts_more asks wide less more None now faults answered also wider h = same_untold asks wide less more now faults answered also h
acts_more asks wide less more (Some files) now faults answered also wider h = told_more less more files wider asks wide now faults answered also h
