-- The method is known, so each code that finds it goes on to the token.
use Rattle.std.proofs.Common.{◌≡◌, ℕ, Some, sym, ◌∙◌}
use Rattle.std.proofs.lemmas.Result.{IfOk-weaker}
use Rattle.aidl_schema.specs.Find.{methods_at, position_of_code}
use Rattle.stub_dispatch.proofs.Places.{stub_found}
use Rattle.stub_dispatch.specs.Receipts.{receipt_of}
use Rattle.stub_dispatch.specs.steps.Calls.{call_received}
use Rattle.wire_model.specs.Receiver.{stub}
use Rattle.stub_dispatch.proofs.receiving.receive_call.Goals as goal

pub returns : goal.returns
returns c =
    let a = c.args.callee.now in
    let p = c.args.profile in
    let b = c.args.bytes.now in
    IfOk-weaker c.receive_request.result (λ r. receipt_of r ≡ call_received p a b)
    (λ r. (code : ℕ) → position_of_code (methods_at a.declarations a.interface) code ≡ Some a.method → receipt_of r ≡ stub p a.declarations a.interface code b)
    (λ r h code found. h ∙ sym (stub_found p a.declarations a.interface code a.method b found))
    c.receive_request.ensures
