-- Lines that are counted, and what is printed of them.
use Rattle.std.proofs.Common.{◌≡◌, ℕ, ◌≤◌, List, [], ◌∷◌, length, Option, Some, None, Result, Ok, Err, sym, subst, arith}
use Rattle.aidl_base.specs.declared.profile.Profile.{Profile}
use Rattle.aidl_base.specs.declared.profile.Profile.TheVariants.{Strict}
use Rattle.aidl_outside.specs.Faults.{SinkFaults}
use Rattle.aidl_outside.specs.declared.link.Carried.{Carried}
use Rattle.aidl_schema.specs.declared.schema.Decl.{Decl}
use Rattle.call_runner.specs.declared.line.LineRun.{LineRun}
use Rattle.call_runner.specs.Lines.{call_code, reply_entries, reply_sent}
use Rattle.call_runner.specs.Runs.{LineRuns}
use Rattle.call_scripts.specs.Calls.{CallData}
use Rattle.call_scripts.specs.Refusal.{Judged}
use Rattle.call_scripts.specs.Script.{script}
use Rattle.make_command.specs.Making.{counted_course}
use Rattle.make_command.specs.Tally.{Counts, counted}
use Rattle.run_command.specs.CallLines.{lines_of}
use Rattle.run_command.specs.Running.{line_course}
use Rattle.tool_frame.specs.Answer.{Answer}
use Rattle.tool_frame.specs.Course.{Course, at_once}
use Rattle.tool_frame.specs.Courses.{RanCourse, Went}
use Rattle.tool_frame.specs.Ends.{PrintsGiven}
use Rattle.tool_frame.specs.Results.{Gives, printed}
use Rattle.tool_frame.specs.Seen.{Seen}
use Rattle.tool_frame.specs.declared.printed.Early.{Early}
use Rattle.tool_frame.specs.declared.printed.Early.TheVariants.{Answered, OutOfMemory}
use Rattle.tool_frame.specs.declared.printed.Printed.{Printed}
use Rattle.tool_frame.proofs.lemmas.Courses.{ran_none, ran_printed, went_ended, went_on}

-- at most two parcels are carried of a line
one_reply : (code : ℕ) (sent : Option (List ℕ)) (r : List ℕ) → length (reply_entries code sent r) ≤ 1
one_reply code None r = omega arith
one_reply code (Some sent) r = omega arith

pub few_carried : (p : Profile) (A B : List Decl) (meant : Judged CallData) (run : LineRun) → LineRuns p A B meant run → length run.carried ≤ 2
few_carried p A B (Err why) run h = subst (λ (es : List Carried). length es ≤ 2) (sym h.0) (omega arith)
few_carried p A B (Ok c) run h =
    let one : length (reply_entries (call_code A c) (reply_sent p A B c h.0) h.1) ≤ 1 = one_reply (call_code A c) (reply_sent p A B c h.0) h.1 in
    subst (λ (es : List Carried). length es ≤ 2) (sym h.2) (omega arith)

-- Of the lines that are left one is run.
module _ (A B : List Decl) (last : Counts → Course) (whole : Course) (c : Counts) (rest line after : List ℕ) (start now later : Seen)
    (cuts : lines_of rest ≡ line ∷ lines_of after) (went : Went whole (counted_course A B last c (lines_of rest)) start now) where
  -- what comes of it, by the counts after it
  abbrev left : Counts → Course
  left d = counted_course A B last d (lines_of after)

  abbrev here : Course
  here = line_course Strict A B (λ carried methods out. left (counted c carried out)) (script A B line)

  so_far : Went whole here start now
  so_far = subst (λ ls. Went whole (counted_course A B last c ls) start now) cuts went

  pub next_went : (d : Counts) → Went here (left d) now later → Went whole (left d) start later
  next_went d more = went_on whole here start now so_far (left d) later more

  pub next_ended : (exit : ℕ) → RanCourse here now later exit → RanCourse whole start later exit
  next_ended exit ran = went_ended whole here start now so_far later exit ran

-- no line is left
pub none_left : (A B : List Decl) (last : Counts → Course) (whole : Course) (c : Counts) (rest : List ℕ) (start now : Seen) → rest ≡ []
    → Went whole (counted_course A B last c (lines_of rest)) start now → Went whole (last c) start now
none_left A B last whole c rest start now none went = subst (λ xs. Went whole (counted_course A B last c (lines_of xs)) start now) none went

-- an answer was printed, or memory was wanted before
module _ (a : Answer) (before : Seen) (told : Option (List ℕ)) (faults : SinkFaults) (exit : ℕ) where
  abbrev after : Seen
  after = record before { told = told; sink_faults = faults }

  pub gave : (given : Result Printed Early) → Gives given a → PrintsGiven given before.told told before.sink_faults faults exit → RanCourse (at_once a) before after exit
  gave (Ok p) h prints = subst (λ x. RanCourse (at_once x) before after exit) h (ran_printed before told faults (printed p) exit prints)
  gave (Err (Answered p)) h prints = subst (λ x. RanCourse (at_once x) before after exit) h (ran_printed before told faults (printed p) exit prints)
  gave (Err OutOfMemory) h silent =
      subst (λ e. RanCourse (at_once a) before after e) (sym silent.exits)
      (subst (λ t. RanCourse (at_once a) before (record before { told = t; sink_faults = faults }) 5) (sym silent.silent)
      (subst (λ n. RanCourse (at_once a) before (record before { sink_faults = n }) 5) (sym silent.good) (ran_none (at_once a) before)))
