-- What a service answers, whose handler answers by the line.
use Rattle.std.proofs.Common.{◌≡◌, ℕ, List, Option, Some, Result, Ok, Err, ℤ, refl, sym, ap, subst}
use Rattle.std.specs.Borrow.{Bor}
use Rattle.aidl_schema.specs.declared.schema.Decl.{Decl}
use Rattle.aidl_values.specs.Data.{Items}
use Rattle.aidl_values.specs.declared.value.Answer.{Answer}
use Rattle.aidl_values.specs.declared.value.Value.{Value}
use Rattle.stub_dispatch.specs.Sent.{sent_reply}
use Rattle.call_runner.specs.Lines.{scripted}
use Rattle.call_runner.specs.steps.Served.{IsServed}
use Rattle.call_scripts.specs.Calls.{TargetData}
use Rattle.stub_dispatch.specs.Answers.{Answers}
use Rattle.stub_dispatch.specs.declared.answered.Answered.{Answered}
use Rattle.wire_model.specs.Calls.{answer_of}
use Rattle.wire_model.specs.MethodOf.{method_of}
use Rattle.wire_model.specs.Receiver.{Received, left, called}

pub serves : {E : Type 0} (post : ℕ → Bor (List Value) → Result Answer E → Type 0) (B : List Decl) (j : ℕ) (target : Option TargetData) (a : Answered) (r : Result Received ℤ)
    → ((m : ℕ) (args : Bor (List Value)) (answer : Answer) → post m args (Ok answer) → answer_of answer ≡ scripted target m)
    → Answers post B j a r → IsServed B (Some j) target r a
serves post B j target a (Err s) says e = subst (λ (x : Answered). IsServed B (Some j) target (Err s) x) (sym e) (record { transport = refl; saw = refl; reply = refl })
serves post B j target a (Ok (left m)) says e = subst (λ (x : Answered). IsServed B (Some j) target (Ok (left m)) x) (sym e) (record { transport = refl; saw = refl; reply = refl })
serves post B j target a (Ok (called m saw)) says h =
    let values = h.0 in
    let call = h.2 in
    let answer = call.1 in
    let same = says m call.0 answer call.3 in
    subst (λ (x : Answered). IsServed B (Some j) target (Ok (called m saw)) x) (sym call.4)
    (record { transport = refl; saw = ap (λ vs. let o : Option Items = Some vs in o) h.1; reply = ap (sent_reply (method_of B j m)) same })
