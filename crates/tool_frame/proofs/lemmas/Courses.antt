-- How a run of a command ends that carries, by how its course ran; and courses step by step.
use Rattle.std.proofs.Common.{◌≡◌, ℕ, Bool, false, List, [], ◌∷◌, ◌++◌, Option, Some, None, refl, sym, ap, ◌∙◌, subst, arith, inl, inr, append_assoc, append-nil}
use Rattle.std.specs.Prelude.{◌≢◌, ◌⊎◌}
use Rattle.std.proofs.lemmas.List.Elements.{All-append}
use Rattle.aidl_outside.specs.declared.link.Carried.{Carried}
use Rattle.aidl_outside.specs.Asks.{Asks}
use Rattle.aidl_outside.specs.Causes.{Rose}
use Rattle.aidl_outside.specs.Faults.{FailedIn, SinkFaults, untold}
use Rattle.aidl_outside.specs.Files.{Files}
use Rattle.aidl_outside.specs.Told.{Tells, Adds, AddsFront}
use Rattle.aidl_outside.specs.Writes.{Write}
use Rattle.tool_frame.specs.declared.verdict.Verdict.TheVariants.{Done}
use Rattle.tool_frame.specs.Answer.{Answer, after_text}
use Rattle.tool_frame.specs.Course.{Course, prints, ends, at_once, due_after, answer_after}
use Rattle.tool_frame.specs.Ended.{Ended, WroteAll, WroteSome, CarriedThese, CutsAnswer, EndsAsMeant, PutsFront, StopsAtCarry, StopsAtStore}
use Rattle.tool_frame.specs.Meaning.{AreDue, carries_by, CarriesNothing, does_by, Meaning}
use Rattle.aidl_outside.specs.Parcel.{Parcel}
use Rattle.tool_frame.specs.Seen.{Seen}
use Rattle.tool_frame.specs.Verdict.{exit_of, IsVerdict}
use Rattle.tool_frame.specs.Courses.{due_in, CarriedBy, CutsCourse, EndsCourse, PutsCourseFront, StopsCourse, RanCourse, ComesTo, Went}
use Rattle.tool_frame.specs.Prints.{CutAt, Prints}
use Rattle.tool_frame.proofs.lemmas.Endings.{Nothing, all_written, some_written, not_verdict, nothing_carried, told_always, verdict_exit}
use Rattle.aidl_outside.proofs.lemmas.Failing.{failed_as}
use Rattle.aidl_outside.proofs.lemmas.Telling.{tells}

-- the exits of a course
abbrev IsCourseExit : ℕ → Type 0
IsCourseExit exit = IsVerdict exit ⊎ ((exit ≡ 4) ⊎ ((exit ≡ 5) ⊎ (exit ≡ 6)))

not_three : (exit : ℕ) → IsCourseExit exit → exit ≡ 3 → ⊥
not_three exit (inl verdict) three = not_verdict exit (omega arith) (omega arith) verdict
not_three exit (inr (inl four)) three = omega arith
not_three exit (inr (inr (inl five))) three = omega arith
not_three exit (inr (inr (inr six))) three = omega arith

widened : (exit : ℕ) → IsCourseExit exit → IsVerdict exit ⊎ ((exit ≡ 3) ⊎ ((exit ≡ 4) ⊎ ((exit ≡ 5) ⊎ (exit ≡ 6))))
widened exit (inl verdict) = inl verdict
widened exit (inr (inl four)) = inr (inr (inl four))
widened exit (inr (inr (inl five))) = inr (inr (inr (inl five)))
widened exit (inr (inr (inr six))) = inr (inr (inr (inr six)))

-- Where the course is one that the command may take over the files, what it does is what is meant. It begins once the writes are made,
-- which leave the files `kept`.
module _ (asks : Asks) (writes : Files → List Write → Type 0) (takes : Files → Course → Type 0) (files : Files) (course : Course) (is : takes files course) (kept : Option Files) (before now : Seen) where
  -- what was seen once the writes were made
  abbrev written : Seen
  written = record before { kept = kept }

  due_also : (front entries : List Carried) → AreDue (due_in course) front entries → AreDue ((does_by asks writes takes).due files) front entries
  due_also front [] h = tt
  due_also front (entry ∷ entries) h = ((course, is, h.0), due_also (front ++ entry ∷ []) entries h.1)

  these : (entries : List Carried) → CarriedBy course written now entries → CarriedThese (does_by asks writes takes) files before now entries
  these entries h = (h.log, due_also [] entries h.are_due, h.faithful)

  as_meant : (exit : ℕ) → EndsCourse course written now exit → EndsAsMeant (does_by asks writes takes) before now exit files
  as_meant exit h = (h.0, these h.0 h.1, (course, is, sym h.2), answer_after course h.0, (course, is, refl), h.3, h.4)

  puts_front : PutsCourseFront course written now → PutsFront (does_by asks writes takes) before now files
  puts_front h = (h.0, these h.0 h.1, inr (answer_after course h.0, (course, is, refl), h.2))

  cuts : (piece : List ℕ) → CutsCourse course written now piece → CutsAnswer (does_by asks writes takes) before now piece files
  cuts piece h = (h.0, these h.0 h.1, answer_after course h.0, (course, is, refl), h.2)

  stops : (parcel : Parcel) → StopsCourse course written now parcel → StopsAtCarry (does_by asks writes takes) before now parcel files
  stops parcel h = (h.0, these h.0 h.1, (course, is, sym h.2), answer_after course h.0, (course, is, refl), h.3)

-- all writes are some of them
some_of_all : (writes : Files → List Write → Type 0) (before now : Option Files) → WroteAll writes before now → WroteSome writes before now
some_of_all writes None now same = same
some_of_all writes (Some files) now (made, meant, e) = inr (made, [], subst (λ ws. writes files ws) (sym (append-nil made)) meant, e)

-- a command that first writes, if it may, and then carries
abbrev pub does : Bool → Asks → (Files → List Write → Type 0) → (Files → Course → Type 0) → Meaning
does may_write asks writes takes = record (does_by asks writes takes) { may_write = may_write }

-- The writes were made, and the run ended as its course did.
module _ (may_write : Bool) (asks : Asks) (writes : Files → List Write → Type 0) (takes : Files → Course → Type 0) (course : Course) (kept : Option Files) (before now : Seen) (exit : ℕ)
    (wrote : WroteAll writes before.kept kept) (is : Tells before.kept (λ files. takes files course)) (ran : RanCourse course (record before { kept = kept }) now exit) where
  told_ends : IsVerdict exit → Tells before.kept (EndsAsMeant (does may_write asks writes takes) before now exit)
  told_ends verdict = tells before.kept _ _ (λ files taken. as_meant asks writes takes files course taken kept before now exit (ran.answer verdict)) is

  complete_by : IsCourseExit exit → (Rose before.sink_faults now.sink_faults → ⊥) → (Rose before.link_faults now.link_faults → ⊥)
      → (exit ≡ 5) ⊎ (IsVerdict exit × Tells before.kept (EndsAsMeant (does may_write asks writes takes) before now exit))
  complete_by (inl verdict) no_sink no_link = inr (verdict, told_ends verdict)
  complete_by (inr (inl four)) no_sink no_link = absurd (no_sink (ran.sink_fault four))
  complete_by (inr (inr (inl five))) no_sink no_link = inl five
  complete_by (inr (inr (inr six))) no_sink no_link = absurd (no_link (ran.link_fault six))

  never_quiet : CarriesNothing (does may_write asks writes takes) ⊎ (exit ≡ 3) → now.log ≡ before.log
  never_quiet (inl quiet) = cc
  never_quiet (inr three) = absurd (not_three exit ran.exits three)

  never_carried : CarriesNothing (does may_write asks writes takes) → exit ≢ 6
  never_carried quiet = λ six. cc

  -- a piece that was due of the course
  cut : FailedIn now.sink_faults (CutsCourse course (record before { kept = kept }) now)
      → FailedIn now.sink_faults (λ piece. (piece ≢ []) × Tells before.kept (CutsAnswer (does may_write asks writes takes) before now piece))
  cut failed = failed_as now.sink_faults _ _ (λ piece due. (due.2.6, tells before.kept _ _ (λ files taken. cuts asks writes takes files course taken kept before now piece due) is)) failed

  -- the parcel that was due of the course
  stopped : FailedIn now.link_faults (StopsCourse course (record before { kept = kept }) now)
      → FailedIn now.link_faults (λ parcel. Tells before.kept (StopsAtCarry (does may_write asks writes takes) before now parcel))
  stopped failed = failed_as now.link_faults _ _ (λ parcel due. tells before.kept _ _ (λ files taken. stops asks writes takes files course taken kept before now parcel due) is) failed

  all : WroteAll writes before.kept now.kept
  all = subst (λ k. WroteAll writes before.kept k) (sym ran.kept) wrote

  pub ended_done : Ended (does may_write asks writes takes) before now exit
  ended_done = record {
    exits = widened exit ran.exits;
    store_fault = λ three. absurd (not_three exit ran.exits three);
    store_good = λ other. ran.store_good;
    sink_fault = ran.sink_fault;
    sink_good = ran.sink_good;
    link_fault = ran.link_fault;
    link_good = ran.link_good;
    link_nature = ran.link_nature;
    no_link_fault = never_carried;
    store_due = λ three. absurd (not_three exit ran.exits three);
    sink_due = λ four. cut (ran.sink_due four);
    link_due = λ six. stopped (ran.stopped six);
    wrote = λ ends. all;
    wrote_some = λ five. some_of_all writes before.kept now.kept all;
    carries_nothing = never_quiet;
    answer = told_ends;
    silent = λ three. absurd (not_three exit ran.exits three);
    front = λ ends. tells before.kept _ _ (λ files taken. puts_front asks writes takes files course taken kept before now (ran.front ends)) is;
    complete = λ no_store no_sink no_link. complete_by ran.exits no_sink no_link;
  }

-- The same of a command that writes nothing.
pub ended_carried : (asks : Asks) (takes : Files → Course → Type 0) (course : Course) (before now : Seen) (exit : ℕ) → Tells before.kept (λ files. takes files course) → RanCourse course before now exit
    → Ended (carries_by asks takes) before now exit
ended_carried asks takes course before now exit is ran = ended_done false asks Nothing takes course before.kept before now exit (all_written before.kept) is ran

-- The run ended before its course began: a call of the store failed, or memory was wanted.
module _ (may_write : Bool) (asks : Asks) (writes : Files → List Write → Type 0) (takes : Files → Course → Type 0) (before now : Seen) (exit : ℕ)
    (exits : (exit ≡ 3) ⊎ (exit ≡ 5)) (fault : exit ≡ 3 → Rose before.store_faults now.store_faults) (good : exit ≢ 3 → now.store_faults ≡ before.store_faults)
    (due : exit ≡ 3 → FailedIn now.store_faults (StopsAtStore (does may_write asks writes takes) before.kept now.kept)) (some : exit ≡ 5 → WroteSome writes before.kept now.kept)
    (told : now.told ≡ before.told) (sink : now.sink_faults ≡ before.sink_faults)
    (log : now.log ≡ before.log) (link : now.link_faults ≡ before.link_faults) (nature : now.is_faithful ≡ before.is_faithful) where
  no_end : (exit ≡ 3) ⊎ (exit ≡ 5) → IsVerdict exit ⊎ ((exit ≡ 4) ⊎ (exit ≡ 6)) → ⊥
  no_end (inl three) (inl verdict) = not_verdict exit (omega arith) (omega arith) verdict
  no_end (inl three) (inr (inl four)) = omega arith
  no_end (inl three) (inr (inr six)) = omega arith
  no_end (inr five) (inl verdict) = not_verdict exit (omega arith) (omega arith) verdict
  no_end (inr five) (inr (inl four)) = omega arith
  no_end (inr five) (inr (inr six)) = omega arith

  early_exits : (exit ≡ 3) ⊎ (exit ≡ 5) → IsVerdict exit ⊎ ((exit ≡ 3) ⊎ ((exit ≡ 4) ⊎ ((exit ≡ 5) ⊎ (exit ≡ 6))))
  early_exits (inl three) = inr (inl three)
  early_exits (inr five) = inr (inr (inr (inl five)))

  early_complete : (exit ≡ 3) ⊎ (exit ≡ 5) → (Rose before.store_faults now.store_faults → ⊥) → (exit ≡ 5) ⊎ (IsVerdict exit × Tells before.kept (EndsAsMeant (does may_write asks writes takes) before now exit))
  early_complete (inl three) no_store = absurd (no_store (fault three))
  early_complete (inr five) no_store = inl five

  nothing : (files : Files) → CarriedThese (does may_write asks writes takes) files before now []
  nothing files = (subst (λ l. Adds before.log l []) (sym log) (nothing_carried before.log), tt, λ faithful k entry none. absurd (omega arith))

  pub ended_before : Ended (does may_write asks writes takes) before now exit
  ended_before = record {
    exits = early_exits exits;
    store_fault = fault;
    store_good = good;
    sink_fault = λ four. absurd (no_end exits (inr (inl four)));
    sink_good = λ other. sink;
    link_fault = λ six. absurd (no_end exits (inr (inr six)));
    link_good = λ other. link;
    link_nature = nature;
    no_link_fault = λ quiet six. absurd (no_end exits (inr (inr six)));
    store_due = due;
    sink_due = λ four. absurd (no_end exits (inr (inl four)));
    link_due = λ six. absurd (no_end exits (inr (inr six)));
    wrote = λ ends. absurd (no_end exits ends);
    wrote_some = some;
    carries_nothing = λ why. log;
    answer = λ verdict. absurd (no_end exits (inl verdict));
    silent = λ three. told;
    front = λ ends. told_always before.kept (λ files. ([], nothing files, inl told));
    complete = λ no_store no_sink no_link. early_complete exits no_store;
  }

-- The same of a command that writes nothing.
pub ended_early : (asks : Asks) (takes : Files → Course → Type 0) (before now : Seen) (exit : ℕ)
    → (exit ≡ 3) ⊎ (exit ≡ 5) → (exit ≡ 3 → Rose before.store_faults now.store_faults) → (exit ≢ 3 → now.store_faults ≡ before.store_faults)
    → (exit ≡ 3 → FailedIn now.store_faults (asks before.kept))
    → now.kept ≡ before.kept → now.told ≡ before.told → now.sink_faults ≡ before.sink_faults
    → now.log ≡ before.log → now.link_faults ≡ before.link_faults → now.is_faithful ≡ before.is_faithful → Ended (carries_by asks takes) before now exit
ended_early asks takes before now exit exits fault good due kept told sink log link nature =
    ended_before false asks Nothing takes before now exit exits fault good (λ three. failed_as now.store_faults _ _ (λ call is. inl (is, kept)) (due three))
    (λ five. subst (λ k. WroteSome Nothing before.kept k) (sym kept) (some_written before.kept)) told sink log link nature

-- it was delivered as it was sent
abbrev delivered_so : Carried → Type 0
delivered_so entry = entry.delivered ≡ entry.sent

-- what was added, and then more
pub adds_both : {T : Type 0} (before mid now : Option (List T)) (xs ys : List T) → Adds before mid xs → Adds mid now ys → Adds before now (xs ++ ys)
adds_both None mid now xs ys h k = subst (λ m. Adds m now ys) h k
adds_both (Some old) mid now xs ys h k = let all : Adds (Some (old ++ xs)) now ys = subst (λ m. Adds m now ys) h k in all ∙ ap Some (append_assoc old xs ys)

due_append : (due : List Carried → Option Parcel → Type 0) (front xs ys : List Carried) → AreDue due front xs → AreDue due (front ++ xs) ys → AreDue due front (xs ++ ys)
due_append due front [] ys h k = subst (λ es. AreDue due es ys) (append-nil front) k
due_append due front (x ∷ xs) ys h k = (h.0, due_append due (front ++ x ∷ []) xs ys h.1 (subst (λ es. AreDue due es ys) (sym (append_assoc front (x ∷ []) xs)) k))

-- what is due of a rest is due of the whole course
due_shift : (course rest : Course) (xs : List Carried) → ((more : List Carried) → due_after course (xs ++ more) ≡ due_after rest more)
    → (front ys : List Carried) → AreDue (due_in rest) front ys → AreDue (due_in course) (xs ++ front) ys
due_shift course rest xs e front [] h = tt
due_shift course rest xs e front (y ∷ ys) h =
    (h.0 ∙ sym (e front), subst (λ es. AreDue (due_in course) es ys) (sym (append_assoc xs front (y ∷ []))) (due_shift course rest xs e (front ++ y ∷ []) ys h.1))

due_on : (course rest : Course) (xs ys : List Carried) → ((more : List Carried) → due_after course (xs ++ more) ≡ due_after rest more)
    → AreDue (due_in course) [] xs → AreDue (due_in rest) [] ys → AreDue (due_in course) [] (xs ++ ys)
due_on course rest xs ys e h k =
    due_append (due_in course) [] xs ys h (subst (λ es. AreDue (due_in course) es ys) (append-nil xs) (due_shift course rest xs e [] ys k))

-- text before text
texts : (t u : List ℕ) (a : Answer) → after_text t (after_text u a) ≡ after_text (t ++ u) a
texts t u a = let whole : List ℕ → Answer = λ x. record { text = x; verdict = a.verdict } in ap whole (sym (append_assoc t u a.text))

pub comes_on : (course mid rest : Course) (xs ys : List Carried) (t u : List ℕ) → ComesTo course xs t mid → ComesTo mid ys u rest → ComesTo course (xs ++ ys) (t ++ u) rest
comes_on course mid rest xs ys t u h k = record {
  are_due = due_on course mid xs ys h.due h.are_due k.are_due;
  due = λ more. ap (due_after course) (append_assoc xs ys more) ∙ h.due (ys ++ more) ∙ k.due more;
  answer = λ more. ap (answer_after course) (append_assoc xs ys more) ∙ h.answer (ys ++ more) ∙ ap (after_text t) (k.answer more) ∙ texts t u (answer_after rest more);
}

-- a piece that is due after a text
cut_later : (front text : List ℕ) (before mid now : Option (List ℕ)) (piece : List ℕ) → Adds before mid front → CutAt text mid now piece → CutAt (front ++ text) before now piece
cut_later front text before mid now piece adds (done, rest, put, unput, e, f, some, more) = (
  front ++ done,
  rest,
  put,
  unput,
  ap (λ x. front ++ x) e ∙ sym (append_assoc front (done ++ piece) rest) ∙ ap (λ x. x ++ rest) (sym (append_assoc front done piece)),
  f,
  some,
  subst (Adds before now) (sym (append_assoc front done put)) (adds_both before mid now front (done ++ put) adds more),
)

-- a piece that is due is so with more text behind
cut_longer : (text more : List ℕ) (before now : Option (List ℕ)) (piece : List ℕ) → CutAt text before now piece → CutAt (text ++ more) before now piece
cut_longer text more before now piece (done, rest, put, unput, e, f, some, adds) = (
  done,
  rest ++ more,
  put,
  unput,
  ap (λ x. x ++ more) e ∙ append_assoc (done ++ piece) rest more,
  f,
  some,
  adds,
)

module _ (course mid : Course) (a b : Seen) (went : Went course mid a b) where
  -- one part of a course, and then another
  pub went_on : (rest : Course) (c : Seen) → Went mid rest b c → Went course rest a c
  went_on rest c more = record {
    entries = went.entries ++ more.entries;
    text = went.text ++ more.text;
    comes = comes_on course mid rest went.entries more.entries went.text more.text went.comes more.comes;
    log = adds_both a.log b.log c.log went.entries more.entries went.log more.log;
    faithful = λ f. All-append delivered_so went.entries more.entries (went.faithful f) (more.faithful (went.link_nature ∙ f));
    told = adds_both a.told b.told c.told went.text more.text went.told more.told;
    kept = more.kept ∙ went.kept;
    store_good = more.store_good ∙ went.store_good;
    sink_good = more.sink_good ∙ went.sink_good;
    link_good = more.link_good ∙ went.link_good;
    link_nature = more.link_nature ∙ went.link_nature;
  }

  carried_on : (c : Seen) (entries : List Carried) → CarriedBy mid b c entries → CarriedBy course a c (went.entries ++ entries)
  carried_on c entries h = record {
    log = adds_both a.log b.log c.log went.entries entries went.log h.log;
    are_due = due_on course mid went.entries entries went.comes.due went.comes.are_due h.are_due;
    faithful = λ f. All-append delivered_so went.entries entries (went.faithful f) (h.faithful (went.link_nature ∙ f));
  }

  -- all the text of the whole
  whole_text : (entries : List Carried) → went.text ++ (answer_after mid entries).text ≡ (answer_after course (went.entries ++ entries)).text
  whole_text entries = ap (λ (x : Answer). x.text) (sym (went.comes.answer entries))

  told_on : (c : Seen) (entries : List Carried) → Adds b.told c.told (answer_after mid entries).text → Adds a.told c.told (answer_after course (went.entries ++ entries)).text
  told_on c entries h = subst (Adds a.told c.told) (whole_text entries) (adds_both a.told b.told c.told went.text (answer_after mid entries).text went.told h)

  ends_on : (c : Seen) (exit : ℕ) → EndsCourse mid b c exit → EndsCourse course a c exit
  ends_on c exit h = (went.entries ++ h.0, carried_on c h.0 h.1, went.comes.due h.0 ∙ h.2, h.3 ∙ ap (λ (x : Answer). exit_of x.verdict) (sym (went.comes.answer h.0)), told_on c h.0 h.4)

  front_on : (c : Seen) → PutsCourseFront mid b c → PutsCourseFront course a c
  front_on c h = (
    went.entries ++ h.0,
    carried_on c h.0 h.1,
    (went.text ++ h.2.0, h.2.1, sym (whole_text h.0) ∙ ap (λ x. went.text ++ x) h.2.2 ∙ sym (append_assoc went.text h.2.0 h.2.1), adds_both a.told b.told c.told went.text h.2.0 went.told h.2.3),
  )

  stops_on : (c : Seen) (parcel : Parcel) → StopsCourse mid b c parcel → StopsCourse course a c parcel
  stops_on c parcel h = (went.entries ++ h.0, carried_on c h.0 h.1, went.comes.due h.0 ∙ h.2, told_on c h.0 h.3)

  cuts_on : (c : Seen) (piece : List ℕ) → CutsCourse mid b c piece → CutsCourse course a c piece
  cuts_on c piece h = (
    went.entries ++ h.0,
    carried_on c h.0 h.1,
    subst (λ text. CutAt text a.told c.told piece) (whole_text h.0) (cut_later went.text (answer_after mid h.0).text a.told b.told c.told piece went.told h.2),
  )

  -- one part of a course, and then its end
  pub went_ended : (c : Seen) (exit : ℕ) → RanCourse mid b c exit → RanCourse course a c exit
  went_ended c exit ran = record {
    exits = ran.exits;
    kept = ran.kept ∙ went.kept;
    store_good = ran.store_good ∙ went.store_good;
    sink_fault = λ four. subst (λ n. Rose n c.sink_faults) went.sink_good (ran.sink_fault four);
    sink_due = λ four. failed_as c.sink_faults _ _ (cuts_on c) (ran.sink_due four);
    sink_good = λ other. ran.sink_good other ∙ went.sink_good;
    link_fault = λ six. subst (λ n. Rose n c.link_faults) went.link_good (ran.link_fault six);
    link_good = λ other. ran.link_good other ∙ went.link_good;
    link_nature = ran.link_nature ∙ went.link_nature;
    answer = λ verdict. ends_on c exit (ran.answer verdict);
    front = λ ends. front_on c (ran.front ends);
    stopped = λ six. failed_as c.link_faults _ _ (stops_on c) (ran.stopped six);
  }

pub nothing_told : (told : Option (List ℕ)) → Adds told told []
nothing_told None = refl
nothing_told (Some old) = ap (λ now. Some now) (sym (append-nil old))

-- nothing of it yet
pub went_none : (course : Course) (now : Seen) → Went course course now now
went_none course now = record {
  entries = [];
  text = [];
  comes = record { are_due = tt; due = λ more. refl; answer = λ more. refl };
  log = nothing_carried now.log;
  faithful = λ f k entry none. absurd (omega arith);
  told = nothing_told now.told;
  kept = refl;
  store_good = refl;
  sink_good = refl;
  link_good = refl;
  link_nature = refl;
}

-- no parcel was carried yet
pub carried_none : (course : Course) (before now : Seen) → now.log ≡ before.log → CarriedBy course before now []
carried_none course before now same = record { log = subst (λ l. Adds before.log l []) (sym same) (nothing_carried before.log); are_due = tt; faithful = λ f k entry none. absurd (omega arith) }

not_front : (exit : ℕ) → exit ≡ 0 → (exit ≡ 4) ⊎ (exit ≡ 5) → ⊥
not_front exit zero (inl four) = omega arith
not_front exit zero (inr five) = omega arith

-- A course that is at its end has run.
pub ran_end : (now : Seen) → RanCourse (ends Done) now now 0
ran_end now = record {
  exits = inl (verdict_exit Done);
  kept = refl;
  store_good = refl;
  sink_fault = λ four. absurd (omega arith);
  sink_due = λ four. absurd (omega arith);
  sink_good = λ other. refl;
  link_fault = λ six. absurd (omega arith);
  link_good = λ other. refl;
  link_nature = refl;
  answer = λ verdict. ([], carried_none (ends Done) now now refl, refl, refl, nothing_told now.told);
  front = λ either. absurd (not_front 0 refl either);
  stopped = λ six. absurd (omega arith);
}

-- Memory was wanted before anything was done.
pub ran_none : (course : Course) (now : Seen) → RanCourse course now now 5
ran_none course now = record {
  exits = inr (inr (inl refl));
  kept = refl;
  store_good = refl;
  sink_fault = λ four. absurd (omega arith);
  sink_due = λ four. absurd (omega arith);
  sink_good = λ other. refl;
  link_fault = λ six. absurd (omega arith);
  link_good = λ other. refl;
  link_nature = refl;
  answer = λ verdict. absurd (not_verdict 5 (omega arith) (omega arith) verdict);
  front = λ either. ([], carried_none course now now refl, ([], (answer_after course []).text, refl, nothing_told now.told));
  stopped = λ six. absurd (omega arith);
}

-- What a sink tells after a put, and its count.
module _ (before : Seen) (told : Option (List ℕ)) (faults : SinkFaults) where
  abbrev after_put : Seen
  after_put = record before { told = told; sink_faults = faults }

  -- the text was put
  pub put_went : (text : List ℕ) (next : Course) → Adds before.told told text → faults ≡ before.sink_faults → Went (prints text next) next before after_put
  put_went text next adds good = record {
    entries = [];
    text = text;
    comes = record { are_due = tt; due = λ more. refl; answer = λ more. refl };
    log = nothing_carried before.log;
    faithful = λ f k entry none. absurd (omega arith);
    told = adds;
    kept = refl;
    store_good = refl;
    sink_good = good;
    link_good = refl;
    link_nature = refl;
  }

  cut_exits : (exit : ℕ) → (exit ≡ 4) ⊎ (exit ≡ 5) → IsCourseExit exit
  cut_exits exit (inl four) = inr (inl four)
  cut_exits exit (inr five) = inr (inr (inl five))

  cut_no_verdict : (exit : ℕ) → (exit ≡ 4) ⊎ (exit ≡ 5) → IsVerdict exit → ⊥
  cut_no_verdict exit (inl four) verdict = not_verdict exit (omega arith) (omega arith) verdict
  cut_no_verdict exit (inr five) verdict = not_verdict exit (omega arith) (omega arith) verdict

  cut_not_six : (exit : ℕ) → (exit ≡ 4) ⊎ (exit ≡ 5) → exit ≡ 6 → ⊥
  cut_not_six exit (inl four) six = omega arith
  cut_not_six exit (inr five) six = omega arith

  -- a front of the text was put
  pub put_cut : (text : List ℕ) (next : Course) (exit : ℕ) → (exit ≡ 4) ⊎ (exit ≡ 5) → (exit ≡ 4 → Rose before.sink_faults faults) → (exit ≢ 4 → faults ≡ before.sink_faults)
      → (exit ≡ 4 → FailedIn faults (CutAt text before.told told)) → AddsFront before.told told text → RanCourse (prints text next) before after_put exit
  put_cut text next exit exits fault good due cut = record {
    exits = cut_exits exit exits;
    kept = refl;
    store_good = refl;
    sink_fault = fault;
    sink_due = λ four. failed_as faults _ _ (λ piece is. ([], carried_none (prints text next) before after_put refl, cut_longer text (answer_after next []).text before.told told piece is)) (due four);
    sink_good = good;
    link_fault = λ six. absurd (cut_not_six exit exits six);
    link_good = λ other. refl;
    link_nature = refl;
    answer = λ verdict. absurd (cut_no_verdict exit exits verdict);
    front = λ either. (
      [],
      carried_none (prints text next) before after_put refl,
      (cut.0, cut.1 ++ (answer_after next []).text, ap (λ x. x ++ (answer_after next []).text) cut.2 ∙ append_assoc cut.0 cut.1 (answer_after next []).text, cut.3),
    );
    stopped = λ six. absurd (cut_not_six exit exits six);
  }

  -- an answer that was printed at once
  pub ran_printed : (a : Answer) (exit : ℕ) → Prints a before.told told before.sink_faults faults exit → RanCourse (at_once a) before after_put exit
  ran_printed a exit printed = by_exits printed.exits
    where
      by_exits : (exit ≡ exit_of a.verdict) ⊎ ((exit ≡ 4) ⊎ (exit ≡ 5)) → RanCourse (at_once a) before after_put exit
      by_exits (inr either) = put_cut a.text (ends a.verdict) exit either printed.fault printed.good printed.due printed.front
      by_exits (inl e) = record {
        exits = inl verdict;
        kept = refl;
        store_good = refl;
        sink_fault = printed.fault;
        sink_due = λ four. absurd (not_verdict exit (omega arith) (omega arith) verdict);
        sink_good = printed.good;
        link_fault = λ six. absurd (not_verdict exit (omega arith) (omega arith) verdict);
        link_good = λ other. refl;
        link_nature = refl;
        answer = λ v. ([], carried_none (at_once a) before after_put refl, refl, e, subst (Adds before.told told) (sym (append-nil a.text)) (printed.whole e));
        front = λ either. absurd (cut_no_verdict exit either verdict);
        stopped = λ six. absurd (not_verdict exit (omega arith) (omega arith) verdict);
      }
        where
          verdict : IsVerdict exit
          verdict = subst IsVerdict (sym e) (verdict_exit a.verdict)

-- The store's part is added, which wasn't touched.
module _ (course : Course) (before now : Seen) (exit : ℕ) (kept : now.kept ≡ before.kept) (store : now.store_faults ≡ before.store_faults) where
  abbrev alone : Seen → Seen
  alone seen = record seen { kept = None; store_faults = untold 0 }

  again : (entries : List Carried) → CarriedBy course (alone before) (alone now) entries → CarriedBy course before now entries
  again entries h = record { log = h.log; are_due = h.are_due; faithful = h.faithful }

  pub with_store : RanCourse course (alone before) (alone now) exit → RanCourse course before now exit
  with_store ran = record {
    exits = ran.exits;
    kept = kept;
    store_good = store;
    sink_fault = ran.sink_fault;
    sink_due = λ four. failed_as now.sink_faults _ _ (λ piece e. (e.0, again e.0 e.1, e.2)) (ran.sink_due four);
    sink_good = ran.sink_good;
    link_fault = ran.link_fault;
    link_good = ran.link_good;
    link_nature = ran.link_nature;
    answer = λ verdict. let e = ran.answer verdict in (e.0, again e.0 e.1, e.2, e.3, e.4);
    front = λ either. let e = ran.front either in (e.0, again e.0 e.1, e.2);
    stopped = λ six. failed_as now.link_faults _ _ (λ parcel e. (e.0, again e.0 e.1, e.2, e.3)) (ran.stopped six);
  }

-- what is due is so of each front
pub due_front : (due : List Carried → Option Parcel → Type 0) (front xs ys : List Carried) → AreDue due front (xs ++ ys) → AreDue due front xs
due_front due front [] ys h = tt
due_front due front (x ∷ xs) ys h = (h.0, due_front due (front ++ x ∷ []) xs ys h.1)
