-- What a line of a calls file adds to a run, whatever is done at its end; and the lines of a run, each of which is put.
use Rattle.std.proofs.Common.{◌≡◌, ℕ, suc, ◌+◌, ◌==◌, ℤ, Bool, true, List, [], ◌∷◌, ◌++◌, length, Option, Some, None, Result, Ok, Err, refl, sym, ap, ◌∙◌, subst, arith, inl, inr}
use Rattle.std.specs.Prelude.{◌⊎◌, ⊤}
use Rattle.std.proofs.lemmas.Bool.{eqb-true}
use Rattle.aidl_base.specs.declared.profile.Profile.{Profile}
use Rattle.aidl_outside.specs.declared.link.Carried.{Carried}
use Rattle.aidl_outside.specs.Carries.{AreFaithful}
use Rattle.aidl_outside.specs.Causes.{Rose}
use Rattle.aidl_outside.specs.Faults.{LinkFaults, SinkFaults}
use Rattle.aidl_outside.specs.Told.{Adds}
use Rattle.aidl_schema.specs.declared.schema.Decl.{Decl}
use Rattle.call_scripts.specs.Refusal.{Judged}
use Rattle.call_runner.specs.declared.line.LineRun.{LineRun}
use Rattle.call_runner.specs.declared.line.Methods.{Methods}
use Rattle.call_runner.specs.declared.line.RunFault.{RunFault}
use Rattle.call_runner.specs.declared.line.RunFault.TheVariants.{LinkFault, OutOfMemory}
use Rattle.call_runner.specs.Lines.{LineData, refused, call_code, entries, line_of, received, reply_entries, reply_sent, reported, request_entry}
use Rattle.call_runner.specs.Runs.{IsFirst, LineRuns, Stops, line_data, methods_by}
use Rattle.call_scripts.specs.Calls.{CallData, callee}
use Rattle.call_scripts.specs.Script.{script}
use Rattle.run_command.specs.CallLines.{lines_of}
use Rattle.run_command.specs.Running.{After, call_after, line_course, lines_course, piece, puts, reply_course, reply_parcel}
use Rattle.run_command.specs.steps.Steps.{Steps}
use Rattle.tool_frame.specs.Course.{Course, ends, prints, due_after, answer_after}
use Rattle.tool_frame.specs.declared.verdict.Verdict.TheVariants.{Done}
use Rattle.tool_frame.specs.declared.exit.Exit.{Exit}
use Rattle.tool_frame.specs.Exit.{number_of}
use Rattle.tool_frame.specs.Meaning.{AreDue}
use Rattle.aidl_outside.specs.Parcel.{Parcel, parcel_of}
use Rattle.tool_frame.specs.Seen.{Seen}
use Rattle.tool_frame.specs.Courses.{due_in, CarriedBy, ComesTo, RanCourse, Went}
use Rattle.tool_frame.specs.Prints.{PutsText}
use Rattle.aidl_outside.proofs.lemmas.Failing.{failed_as}
use Rattle.tool_frame.proofs.lemmas.Courses.{comes_on, due_front, nothing_told, put_cut, put_went, ran_end, went_ended, went_on}
use Rattle.tool_frame.proofs.lemmas.Endings.{not_verdict}
use Rattle.wire_model.specs.Calls.{AnswerData}
use Rattle.wire_model.specs.Receiver.{Received, client}

comes_at : (course : Course) → ComesTo course [] [] course
comes_at course = record { are_due = tt; due = λ more. refl; answer = λ more. refl }

same_report : (x : Result Received ℤ) (got other : Result AnswerData ℤ) → reported x None got ≡ reported x None other
same_report (Err status) got other = refl
same_report (Ok r) got other = refl

none_left : (ms rest : List Carried) → ◌≡◌ {A = List Carried} [] (ms ++ rest) → rest ≡ []
none_left [] rest e = sym e
none_left (m ∷ ms) rest e = cc

module _ (p : Profile) (A B : List Decl) (after : After) where
  -- once these were carried, the rest of a line's course is what is done at its end
  abbrev LineComes : Judged CallData → List Carried → Option Methods → LineData → Type 0
  LineComes meant carried ms out = ComesTo (line_course p A B after meant) carried [] (after carried ms out)

  module _ (c : CallData) (b r : List ℕ) where
    abbrev after_by : Option (List ℕ) → List ℕ → Course
    after_by sent reply = after (request_entry A c b ∷ reply_entries (call_code A c) sent reply) (methods_by c c.server (received p A B c b))
        (reported (received p A B c b) sent (client p (callee A c) reply))

    -- where no reply is sent, none is looked at
    same_after : (sent : Option (List ℕ)) → sent ≡ None → after_by sent r ≡ after_by sent []
    same_after None e = ap (λ out. after (request_entry A c b ∷ []) (methods_by c c.server (received p A B c b)) out)
        (same_report (received p A B c b) (client p (callee A c) r) (client p (callee A c) []))
    same_after (Some sent) e = cc

    reply_comes : (sent : Option (List ℕ)) → (sent ≡ None → call_after p A B after c b r ≡ call_after p A B after c b [])
        → ComesTo (reply_course p A B after c b sent) (reply_entries (call_code A c) sent r) [] (call_after p A B after c b r)
    reply_comes None same =
        subst (λ course. ComesTo (call_after p A B after c b []) [] [] course) (sym (same refl)) (comes_at (call_after p A B after c b []))
    reply_comes (Some sent) same = record { are_due = (refl, tt); due = λ more. refl; answer = λ more. refl }

    request_comes : ComesTo (line_course p A B after (Ok c)) (request_entry A c b ∷ []) [] (reply_course p A B after c b (reply_sent p A B c b))
    request_comes = record { are_due = (refl, tt); due = λ more. refl; answer = λ more. refl }

    call_comes : LineComes (Ok c) (entries p A B c b r) (methods_by c c.server (received p A B c b)) (line_of p A B c b r)
    call_comes = comes_on (line_course p A B after (Ok c)) (reply_course p A B after c b (reply_sent p A B c b)) (call_after p A B after c b r)
        (request_entry A c b ∷ []) (reply_entries (call_code A c) (reply_sent p A B c b) r) [] [] request_comes (reply_comes (reply_sent p A B c b) (same_after (reply_sent p A B c b)))

    -- This parcel is due after some of what is carried, and nothing was put yet.
    abbrev StopsAt : Course → List Carried → Parcel → Type 0
    StopsAt course made parcel = (due_after course made ≡ Some parcel) × ((answer_after course made).text ≡ [])

    no_first : (ms rest : List Carried) (parcel : Parcel) → ◌≡◌ {A = List Carried} [] (ms ++ rest) → IsFirst rest parcel → ⊥
    no_first ms rest parcel e first = subst (λ es. IsFirst es parcel) (none_left ms rest e) first

    stop_reply : (sent : Option (List ℕ)) (ms rest : List Carried) (parcel : Parcel) → reply_entries (call_code A c) sent r ≡ ms ++ rest → IsFirst rest parcel
        → StopsAt (reply_course p A B after c b sent) ms parcel
    stop_reply None ms rest parcel e first = absurd (no_first ms rest parcel e first)
    stop_reply (Some sent) [] rest parcel e first = let is : parcel ≡ reply_parcel A c sent = subst (λ es. IsFirst es parcel) (sym e) first in (ap Some (sym is), refl)
    stop_reply (Some sent) (m ∷ ms) rest parcel e first = let more : ◌≡◌ {A = List Carried} [] (ms ++ rest) = cc in absurd (no_first ms rest parcel more first)

    stop_call : (made rest : List Carried) (parcel : Parcel) → entries p A B c b r ≡ made ++ rest → IsFirst rest parcel → StopsAt (line_course p A B after (Ok c)) made parcel
    stop_call [] rest parcel e first = let is : parcel ≡ parcel_of (request_entry A c []) = subst (λ es. IsFirst es parcel) (sym e) first in (ap Some (sym is), refl)
    stop_call (m ∷ ms) rest parcel e first =
        let same : m ≡ request_entry A c b = cc in
        let more : reply_entries (call_code A c) (reply_sent p A B c b) r ≡ ms ++ rest = cc in
        subst (λ x. StopsAt (line_course p A B after (Ok c)) (x ∷ ms) parcel) (sym same) (stop_reply (reply_sent p A B c b) ms rest parcel more first)

  along : (meant : Judged CallData) (run : LineRun) (es : List Carried) (ms : Option Methods) (out : LineData) → run.carried ≡ es → run.methods ≡ ms → line_data run.out ≡ out
      → LineComes meant es ms out → LineComes meant run.carried run.methods (line_data run.out)
  along meant run es ms out e f g h =
      subst (λ x. LineComes meant x run.methods (line_data run.out)) (sym e) (subst (λ x. LineComes meant es x (line_data run.out)) (sym f) (subst (λ x. LineComes meant es ms x) (sym g) h))

  line_comes : (meant : Judged CallData) (run : LineRun) → LineRuns p A B meant run → LineComes meant run.carried run.methods (line_data run.out)
  line_comes (Err why) run h = along (Err why) run [] None (refused why) h.0 h.2 h.1 (comes_at (line_course p A B after (Err why)))
  line_comes (Ok c) run h = along (Ok c) run (entries p A B c h.0 h.1) (methods_by c c.server (received p A B c h.0)) (line_of p A B c h.0 h.1) h.2 h.4 h.3 (call_comes c h.0 h.1)

  -- what a link tells after a line
  module _ (meant : Judged CallData) (before : Seen) (log : Option (List Carried)) (is_faithful : Bool) (faults : LinkFaults) (nature : is_faithful ≡ before.is_faithful) where
    abbrev after_line : Seen
    after_line = record before { log = log; is_faithful = is_faithful; link_faults = faults }

    -- The line was run, up to what is done at its end.
    pub line_went : (run : LineRun) → LineRuns p A B meant run → Adds before.log log run.carried → (before.is_faithful ≡ true → AreFaithful run.carried) → faults ≡ before.link_faults
        → Went (line_course p A B after meant) (after run.carried run.methods (line_data run.out)) before after_line
    line_went run runs adds faithful good = record {
      entries = run.carried;
      text = [];
      comes = line_comes meant run runs;
      log = adds;
      faithful = faithful;
      told = nothing_told before.told;
      kept = refl;
      store_good = refl;
      sink_good = refl;
      link_good = good;
      link_nature = nature;
    }

    carried_some : (m : Judged CallData) (fault : RunFault) → m ≡ meant → Stops p A B m before.is_faithful before.log log faults fault
        → (made : List Carried) × CarriedBy (line_course p A B after m) before after_line made
    carried_some (Err why) fault same h = ([], record { log = h.0; are_due = tt; faithful = λ f i entry none. absurd (omega arith) })
    carried_some (Ok c) fault same h = (
      h.2,
      record {
        log = h.5;
        are_due = due_front (due_in (line_course p A B after (Ok c))) [] h.2 h.3 (subst (λ es. AreDue (due_in (line_course p A B after (Ok c))) [] es) h.4 (call_comes c h.0 h.1).are_due);
        faithful = h.6;
      },
    )

    -- Memory was wanted.
    pub line_memory : Stops p A B meant before.is_faithful before.log log faults OutOfMemory → faults ≡ before.link_faults → RanCourse (line_course p A B after meant) before after_line 5
    line_memory stops good = record {
      exits = inr (inr (inl refl));
      kept = refl;
      store_good = refl;
      sink_fault = λ four. absurd (omega arith);
      sink_due = λ four. absurd (omega arith);
      sink_good = λ other. refl;
      link_fault = λ six. absurd (omega arith);
      link_good = λ other. good;
      link_nature = nature;
      answer = λ verdict. absurd (not_verdict 5 (omega arith) (omega arith) verdict);
      front = λ either. let some = carried_some meant OutOfMemory refl stops in (some.0, some.1, ([], (answer_after (line_course p A B after meant) some.0).text, refl, nothing_told before.told));
      stopped = λ six. absurd (omega arith);
    }

  not_front : (exit : ℕ) → exit ≡ 6 → (exit ≡ 4) ⊎ (exit ≡ 5) → ⊥
  not_front exit six (inl four) = omega arith
  not_front exit six (inr five) = omega arith

  -- A call of the link failed.
  pub line_link : (meant : Judged CallData) (before : Seen) (log : Option (List Carried)) (is_faithful : Bool) (faults : LinkFaults) → is_faithful ≡ before.is_faithful
      → Stops p A B meant before.is_faithful before.log log faults LinkFault → Rose before.link_faults faults
      → RanCourse (line_course p A B after meant) before (record before { log = log; is_faithful = is_faithful; link_faults = faults }) 6
  unfolding carried_some
  line_link (Err why) before log is_faithful faults nature stops rose = let never : ⊥ = cc in absurd never
  line_link (Ok c) before log is_faithful faults nature stops rose = record {
    exits = inr (inr (inr refl));
    kept = refl;
    store_good = refl;
    sink_fault = λ four. absurd (omega arith);
    sink_due = λ four. absurd (omega arith);
    sink_good = λ other. refl;
    link_fault = λ six. rose;
    link_good = λ other. absurd (other refl);
    link_nature = nature;
    answer = λ verdict. absurd (not_verdict 6 (omega arith) (omega arith) verdict);
    front = λ either. absurd (not_front 6 refl either);
    stopped = λ six. failed_as faults _ _ (λ parcel first. let stop = stop_call c stops.0 stops.1 stops.2 stops.3 parcel stops.4 first in
        (some.0, some.1, stop.0, subst (Adds before.told before.told) (sym stop.1) (nothing_told before.told))) (stops.7 refl);
  }
    where
      some : (made : List Carried) × CarriedBy (line_course p A B after (Ok c)) before (record before { log = log; is_faithful = is_faithful; link_faults = faults }) made
      some = carried_some (Ok c) before log is_faithful faults nature (Ok c) LinkFault refl stops

-- A line was run, and its text was put, or not all of it.
module _ (p : Profile) (A B : List Decl) (trace : Bool) (k : ℕ) (next : Course) (meant : Judged CallData)
    (before : Seen) (log : Option (List Carried)) (is_faithful : Bool) (faults : LinkFaults) (nature : is_faithful ≡ before.is_faithful) where
  abbrev whole : Course
  whole = line_course p A B (puts A B trace k next) meant

  abbrev ran : Seen
  ran = record before { log = log; is_faithful = is_faithful; link_faults = faults }

  pub line_steps : (run : LineRun) (told : Option (List ℕ)) (count : SinkFaults) (given : Result ⊤ Exit) → LineRuns p A B meant run → Adds before.log log run.carried
      → (before.is_faithful ≡ true → AreFaithful run.carried) → faults ≡ before.link_faults
      → PutsText (piece A B trace k run.carried run.methods (line_data run.out)) before.told told before.sink_faults count given
      → Steps whole next before (record ran { told = told; sink_faults = count }) given
  line_steps run told count (Ok u) runs adds faithful good put =
      let text = piece A B trace k run.carried run.methods (line_data run.out) in
      went_on whole (prints text next) before ran (line_went p A B (puts A B trace k next) meant before log is_faithful faults nature run runs adds faithful good) next (record ran { told = told; sink_faults = count })
      (put_went ran told count text next put.0 put.1)
  line_steps run told count (Err exit) runs adds faithful good put =
      let text = piece A B trace k run.carried run.methods (line_data run.out) in
      went_ended whole (prints text next) before ran (line_went p A B (puts A B trace k next) meant before log is_faithful faults nature run runs adds faithful good) (record ran { told = told; sink_faults = count }) (number_of exit)
      (put_cut ran told count text next (number_of exit) put.exits put.fault put.good put.due put.front)

-- A line of those that are left went well, or the run ended in it.
module _ (p : Profile) (A B : List Decl) (trace : Bool) (k : ℕ) (whole : Course) (rest line after : List ℕ) (start now later : Seen)
    (cuts : lines_of rest ≡ line ∷ lines_of after) (went : Went whole (lines_course p A B trace k (lines_of rest)) start now) where
  abbrev left : Course
  left = lines_course p A B trace (k + 1) (lines_of after)

  abbrev here : Course
  here = line_course p A B (puts A B trace k left) (script A B line)

  so_far : Went whole here start now
  so_far = subst (λ ls. Went whole (lines_course p A B trace k ls) start now) cuts went

  pub next_went : Went here left now later → Went whole left start later
  next_went more = went_on whole here start now so_far left later more

  pub next_ended : (exit : ℕ) → RanCourse here now later exit → RanCourse whole start later exit
  next_ended exit ran = went_ended whole here start now so_far later exit ran

pub still_faithful : (before now : Bool) → now ≡ before → before ≡ true → now ≡ true
still_faithful before now nature faithful = nature ∙ faithful

-- No line is left.
pub lines_ended : (p : Profile) (A B : List Decl) (trace : Bool) (k : ℕ) (whole : Course) (rest : List ℕ) (start now : Seen) → rest ≡ []
    → Went whole (lines_course p A B trace k (lines_of rest)) start now → RanCourse whole start now 0
lines_ended p A B trace k whole rest start now none went =
    went_ended whole (ends Done) start now (subst (λ xs. Went whole (lines_course p A B trace k (lines_of xs)) start now) none went) now 0 (ran_end now)

pub empty_list : (xs : List ℕ) (t : Bool) → t ≡ (length xs == 0) → t ≡ true → xs ≡ []
empty_list [] t e f = refl
empty_list (x ∷ xs) t e f = let none : suc (length xs) ≡ 0 = eqb-true (length (x ∷ xs)) 0 (sym e ∙ f) in absurd (omega arith)
