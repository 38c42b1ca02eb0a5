-- What is put of a line is what the line is projected to.
use Rattle.std.proofs.Common.{◌≡◌, ℕ, ◌+◌, Bool, List, [], ◌∷◌, ◌++◌, Option, Some, None, option_map, Result, Ok, Err, IfOk, refl, sym, ap, ◌∙◌, subst, arith, inl, inr}
use Rattle.std.specs.Prelude.{◌⊎◌, ⊤, IfErr}
use Rattle.std.proofs.lemmas.List.Elements.{All-head, All-tail}
use Rattle.aidl_base.specs.declared.profile.Profile.{Profile}
use Rattle.aidl_outside.specs.Faults.{SinkFaults}
use Rattle.aidl_outside.specs.declared.link.Carried.{Carried}
use Rattle.aidl_outside.specs.declared.link.Way.TheVariants.{Reply}
use Rattle.aidl_outside.specs.Carries.{AreFaithful, entry}
use Rattle.aidl_outside.specs.Told.{Adds}
use Rattle.aidl_schema.specs.declared.schema.Decl.{Decl}
use Rattle.aidl_schema.specs.Broken.{Break}
use Rattle.call_scripts.specs.Refusal.{Judged}
use Rattle.call_runner.specs.Lines.{call_code, entries, reply_entries, reply_sent, request_entry}
use Rattle.call_runner.specs.declared.line.LineOut.{LineOut}
use Rattle.call_runner.specs.declared.line.LineOut.TheVariants as out
use Rattle.call_runner.specs.declared.line.LineRun.{LineRun}
use Rattle.call_runner.specs.declared.line.Methods.{Methods}
use Rattle.call_runner.specs.Runs.{AreNamed, IsTyped, LineRuns, NamesOf, line_data, projected}
use Rattle.call_scripts.specs.Calls.{CallData, TargetData, callee}
use Rattle.call_scripts.specs.Script.{script}
use Rattle.run_command.specs.CallLines.{lines_of}
use Rattle.run_command.specs.LineText.{line_text}
use Rattle.run_command.specs.Projected.{call_carried, line_carried, methods_of, named_methods, projected_line, projected_piece, projected_text, reply_bytes}
use Rattle.run_command.specs.Running.{judged_course, piece}
use Rattle.run_command.specs.Trace.{trace_text}
use Rattle.run_command.specs.steps.Steps.{course_by}
use Rattle.tool_frame.specs.Course.{Course, ends, at_once}
use Rattle.tool_frame.specs.declared.printed.Printed.{Printed}
use Rattle.tool_frame.specs.declared.verdict.Verdict.TheVariants.{Done}
use Rattle.tool_frame.specs.declared.exit.Exit.{Exit}
use Rattle.tool_frame.specs.Exit.{number_of}
use Rattle.tool_frame.specs.Verdict.{IsVerdict}
use Rattle.tool_frame.specs.Prints.{PutsText}
use Rattle.tool_frame.specs.Results.{printed}
use Rattle.tool_frame.proofs.lemmas.Courses.{adds_both, nothing_told}
use Rattle.tool_frame.proofs.lemmas.Endings.{not_verdict}
use Rattle.wire_model.specs.Requests.{request}

-- a put that fails has no exit of an answer
pub put_stops : (text : List ℕ) (before now : Option (List ℕ)) (faults_before faults_now : SinkFaults) (given : Result ⊤ Exit) → PutsText text before now faults_before faults_now given
    → IfErr given (λ exit. IsVerdict (number_of exit) → ⊥)
put_stops text before now faults_before faults_now (Ok u) put = tt
put_stops text before now faults_before faults_now (Err exit) put = either put.exits
  where
    either : (number_of exit ≡ 4) ⊎ (number_of exit ≡ 5) → IsVerdict (number_of exit) → ⊥
    either (inl four) verdict = not_verdict (number_of exit) (omega arith) (omega arith) verdict
    either (inr five) verdict = not_verdict (number_of exit) (omega arith) (omega arith) verdict

-- Over a link that delivers what was sent, what is carried is known.
module _ (p : Profile) (A B : List Decl) where
  same_reply : (code : ℕ) (sent : Option (List ℕ)) (r : List ℕ) → AreFaithful (reply_entries code sent r) → reply_entries code sent r ≡ reply_entries code sent (reply_bytes sent)
  same_reply code None r same = refl
  same_reply code (Some sent) r same = ap (λ x. entry Reply code sent x ∷ []) (All-head (λ (e : Carried). e.delivered ≡ e.sent) (entry Reply code sent r) [] same)

  same_entries : (c : CallData) (b r : List ℕ) → AreFaithful (entries p A B c b r) → entries p A B c b r ≡ line_carried p A B (Ok c)
  same_entries c b r same =
      let first : b ≡ request (callee A c) c.args =
      All-head (λ (e : Carried). e.delivered ≡ e.sent) (request_entry A c b) (reply_entries (call_code A c) (reply_sent p A B c b) r) same in
      let later : AreFaithful (reply_entries (call_code A c) (reply_sent p A B c b) r) =
      All-tail (λ (e : Carried). e.delivered ≡ e.sent) (request_entry A c b) (reply_entries (call_code A c) (reply_sent p A B c b) r) same in
      ap (λ es. request_entry A c b ∷ es) (same_reply (call_code A c) (reply_sent p A B c b) r later) ∙ ap (call_carried p A B c) first

  pub carried_is : (meant : Judged CallData) (run : LineRun) → LineRuns p A B meant run → AreFaithful run.carried → run.carried ≡ line_carried p A B meant
  carried_is (Err why) run runs same = runs.0
  carried_is (Ok c) run runs same = runs.2 ∙ same_entries c runs.0 runs.1 (subst AreFaithful runs.2 same)

-- the methods of a line's values, by its names
methods_named : (c : CallData) (m : Methods) (server : Option ℕ) (target : Option TargetData) → m.interface ≡ c.interface → m.method ≡ c.method → server ≡ Some m.server
    → option_map (λ t. t.method) target ≡ Some m.called → methods_of c server target ≡ Some m
methods_named c m None target e f g h = cc
methods_named c m (Some j) None e f g h = cc
methods_named c m (Some j) (Some t) e f g h =
    let made : ℕ → ℕ → ℕ → ℕ → Option Methods = λ a b d n. Some (record { interface = a; method = b; server = d; called = n }) in
    let same : j ≡ m.server = cc in
    let called : t.method ≡ m.called = cc in
    ap (λ (a : ℕ). made a c.method j t.method) (sym e) ∙ ap (λ (b : ℕ). made m.interface b j t.method) (sym f)
    ∙ ap (λ (d : ℕ). made m.interface m.method d t.method) same ∙ ap (λ (n : ℕ). made m.interface m.method m.server n) called

module _ (A B : List Decl) (k : ℕ) where
  -- where a line has no methods its text looks at none
  without : (ms : Option Methods) (out : LineOut) → IsTyped A B None out → line_text A B None k (line_data out) ≡ line_text A B ms k (line_data out)
  without ms (out.Refused why) typed = refl
  without ms (out.Transport status) typed = refl
  without ms (out.OnewayDone saw) typed = let never : ◌≡◌ {A = Option Methods} None (Some typed.0) = typed.1 in cc
  without ms (out.Done saw got) typed = let never : ◌≡◌ {A = Option Methods} None (Some typed.0) = typed.1 in cc

  same_call : (c : CallData) (ms : Option Methods) (out : LineOut) → IsTyped A B ms out → line_data out ≡ projected A B (Ok c) → NamesOf c ms
      → line_text A B ms k (line_data out) ≡ projected_line A B k (Ok c)
  same_call c None out typed e named = without (named_methods (Ok c)) out typed ∙ ap (line_text A B (named_methods (Ok c)) k) e
  same_call c (Some m) out typed e named =
      ap (line_text A B (Some m) k) e ∙ ap (λ ms. line_text A B ms k (projected A B (Ok c))) (sym (methods_named c m c.server c.target named.0 named.1 named.2 named.3))

  same_line : (meant : Judged CallData) (ms : Option Methods) (out : LineOut) → IsTyped A B ms out → line_data out ≡ projected A B meant → AreNamed meant ms
      → line_text A B ms k (line_data out) ≡ projected_line A B k meant
  same_line (Err why) ms out typed e named = ap (line_text A B ms k) e
  same_line (Ok c) ms out typed e named = same_call c ms out typed e named

  pub put_projected : (p : Profile) (trace : Bool) (meant : Judged CallData) (carried : List Carried) (ms : Option Methods) (out : LineOut) (before now : Option (List ℕ))
      (faults_before faults_now : SinkFaults) (given : Result ⊤ Exit) → PutsText (piece A B trace k carried ms (line_data out)) before now faults_before faults_now given
      → carried ≡ line_carried p A B meant → IsTyped A B ms out → line_data out ≡ projected A B meant → AreNamed meant ms
      → IfOk given (λ u. Adds before now (projected_piece p A B trace k meant))
  put_projected p trace meant carried ms out before now faults_before faults_now (Ok u) put same typed e named =
      subst (Adds before now) (ap (λ es. trace_text trace es ++ line_text A B ms k (line_data out)) same
      ∙ ap (λ t. trace_text trace (line_carried p A B meant) ++ t) (same_line meant ms out typed e named)) put.0
  put_projected p trace meant carried ms out before now faults_before faults_now (Err exit) put same typed e named = tt

-- What is left to put completes what was put so far.
module _ (p : Profile) (A B : List Decl) (trace : Bool) (k : ℕ) (rest line after whole : List ℕ) (start now : Option (List ℕ)) (cuts : lines_of rest ≡ line ∷ lines_of after) where
  pub next_added : ((later : Option (List ℕ)) → Adds now later (projected_text p A B trace k (lines_of rest)) → Adds start later whole)
      → (mid : Option (List ℕ)) → Adds now mid (projected_piece p A B trace k (script A B line))
      → (later : Option (List ℕ)) → Adds mid later (projected_text p A B trace (k + 1) (lines_of after)) → Adds start later whole
  next_added completes mid put later more =
      completes later (subst (λ ls. Adds now later (projected_text p A B trace k ls)) (sym cuts)
      (adds_both now mid later (projected_piece p A B trace k (script A B line)) (projected_text p A B trace (k + 1) (lines_of after)) put more))

pub lines_added : (p : Profile) (A B : List Decl) (trace : Bool) (k : ℕ) (rest whole : List ℕ) (start now : Option (List ℕ)) → rest ≡ []
    → ((later : Option (List ℕ)) → Adds now later (projected_text p A B trace k (lines_of rest)) → Adds start later whole) → Adds start now whole
lines_added p A B trace k rest whole start now none completes = completes now (subst (λ xs. Adds now now (projected_text p A B trace k (lines_of xs))) (sym none) (nothing_told now))

-- where one of two may follow the other, no answer of the judge is printed
follows_alone : (there back : List Break) → (there ≡ []) ⊎ (back ≡ []) → (lines : Course) → judged_course there back lines ≡ lines
follows_alone [] back one lines = refl
follows_alone (b ∷ there) [] one lines = refl
follows_alone (b ∷ there) (c ∷ back) (inl e) lines = let never : ⊥ = cc in absurd never
follows_alone (b ∷ there) (c ∷ back) (inr e) lines = let never : ⊥ = cc in absurd never

pub never_printed : (there back : List Break) (p : Printed) → (there ≡ []) ⊎ (back ≡ []) → ((lines : Course) → judged_course there back lines ≡ course_by (Some p) lines) → ⊥
never_printed there back p one course =
    let same : ends Done ≡ at_once (printed p) = sym (follows_alone there back one (ends Done)) ∙ course (ends Done) in cc
