use Rattle.std.proofs.Common.{◌≡◌, ◌≢◌, Option, Some, None, Result, Ok, Err, false, sym, ◌∙◌, subst, refl}
use Rattle.std.specs.Prelude.{IfOk}
use Rattle.aidl_outside.specs.declared.link.Carried.{Carried}
use Rattle.call_runner.specs.Lines.{call_code, line_of, received, reply_entries, reply_sent}
use Rattle.call_runner.specs.Runs.{IsReplied, NamesOf, line_data, methods_by, projected, within_one}
use Rattle.call_runner.specs.steps.Exchanges.{delivered_of, listed}
use Rattle.call_runner.proofs.Courses.{request_same, reply_same}
use Rattle.call_runner.proofs.Received.{replied_way}
use Rattle.call_runner.proofs.Reported.{reply_there}
use Rattle.call_runner.specs.declared.line.LineRun.{LineRun}
use Rattle.call_runner.specs.declared.line.Methods.{Methods}
use Rattle.call_scripts.specs.Calls.{CallData, call_of}
use Rattle.wire_model.specs.Calls.{is_oneway}
use Rattle.wire_model.specs.MethodOf.{method_of}
use Rattle.wire_model.specs.Outcome.{OneFollows}
use Rattle.call_runner.proofs.running.report_call.Goals as goal

pub report-requires-clause-two_way : goal.report-requires-clause-two_way
report-requires-clause-two_way c = by_reply c.args.exchange.reply c.requires.exchange.reply
  where
    by_reply : (o : Option Carried) → listed o ≡ reply_entries (call_code c.args.client.now (call_of c.args.call.now))
        (reply_sent c.args.profile c.args.client.now c.args.server.now (call_of c.args.call.now) c.args.exchange.request.delivered) (delivered_of o)
        → o ≢ None → is_oneway (method_of c.args.client.now c.args.call.now.interface c.args.call.now.method) ≡ false
    by_reply None e ne = absurd (ne refl)
    by_reply (Some entry) e ne =
        let sent = reply_there _ _ (delivered_of (Some entry)) entry e in
        replied_way c.args.profile c.args.client.now c.args.server.now (call_of c.args.call.now) c.requires.fits c.args.exchange.request.delivered c.requires.ways sent.0 sent.1

named_by : {E : Type 0} (call : CallData) (r : Result LineRun E) (m : Option Methods) → IfOk r (λ run. run.methods ≡ m) → NamesOf call m → IfOk r (λ run. NamesOf call run.methods)
named_by call (Ok run) m e h = subst (NamesOf call) (sym e) h
named_by call (Err fault) m e h = tt

pub returns-clause-outcome : goal.returns-clause-outcome
returns-clause-outcome c follows faithful =
    let p = c.args.profile in
    let A = c.args.client.now in
    let B = c.args.server.now in
    let call = call_of c.args.call.now in
    let x = c.args.exchange in
    let sent = c.as_slice-sent.result.now in
    let answered = c.delivered-reply.result.now in
    let outcome = subst (λ D. OneFollows A D → IsReplied (reply_sent p A D call sent) answered → line_of p A D call sent answered ≡ projected A D (Ok call)) c.schema-server_schema.ensures
    (subst (λ D. OneFollows D c.schema-server_schema.result.now.decls → IsReplied (reply_sent p D c.schema-server_schema.result.now.decls call sent) answered
    → line_of p D c.schema-server_schema.result.now.decls call sent answered ≡ projected D c.schema-server_schema.result.now.decls (Ok call)) c.schema-client_schema.ensures c.law_projected.ensures.outcome) in
    let bytes : sent ≡ x.request.delivered = c.as_slice-sent.ensures ∙ sym (request_same x faithful) in
    let reply : answered ≡ delivered_of x.reply = c.delivered-reply.ensures in
    let same : IsReplied (reply_sent p A B call sent) answered =
    subst (λ r. IsReplied (reply_sent p A B call sent) r) (sym reply)
    (subst (λ b. IsReplied (reply_sent p A B call b) (delivered_of x.reply)) (sym bytes) (reply_same p A B call x c.requires.exchange faithful)) in
    let line : line_of p A B call x.request.delivered (delivered_of x.reply) ≡ projected A B (Ok call) =
    subst (λ b. line_of p A B call b (delivered_of x.reply) ≡ projected A B (Ok call)) bytes
    (subst (λ r. line_of p A B call sent r ≡ projected A B (Ok call)) reply (outcome follows same)) in
    subst (λ l. IfOk c.report.result (λ run. line_data run.out ≡ l)) line c.report.ensures.line

pub returns-clause-named : goal.returns-clause-named
returns-clause-named c follows faithful =
    let p = c.args.profile in
    let A = c.args.client.now in
    let B = c.args.server.now in
    let call = call_of c.args.call.now in
    let sent = c.as_slice-sent.result.now in
    let named = subst (λ D. OneFollows A D → NamesOf call (methods_by call call.server (received p A D call sent))) c.schema-server_schema.ensures
    (subst (λ D. OneFollows D c.schema-server_schema.result.now.decls → NamesOf call (methods_by call call.server (received p D c.schema-server_schema.result.now.decls call sent)))
    c.schema-client_schema.ensures c.law_projected.ensures.named) in
    let bytes : sent ≡ c.args.exchange.request.delivered = c.as_slice-sent.ensures ∙ sym (request_same c.args.exchange faithful) in
    named_by call c.report.result (methods_by call call.server (received p A B call c.args.exchange.request.delivered)) c.report.ensures.methods
    (subst (λ b. NamesOf call (methods_by call call.server (received p A B call b))) bytes (named follows))

pub returns-clause-within : goal.returns-clause-within
returns-clause-within c same faithful =
    let A = c.args.client.now in
    let call = call_of c.args.call.now in
    let S = c.schema-server_schema.result.now.decls in
    let within = subst (λ D. D ≡ A → projected A D (Ok call) ≡ within_one A (Ok call)) c.schema-server_schema.ensures
    (subst (λ D. S ≡ D → projected D S (Ok call) ≡ within_one D (Ok call)) c.schema-client_schema.ensures c.law_within.ensures.within) in
    let one = subst (λ D. D ≡ A → OneFollows A D) c.schema-server_schema.ensures (subst (λ D. S ≡ D → OneFollows D S) c.schema-client_schema.ensures c.law_within.ensures.follows) in
    subst (λ l. IfOk c.report.result (λ run. line_data run.out ≡ l)) (within same) (returns-clause-outcome c (one same) faithful)
