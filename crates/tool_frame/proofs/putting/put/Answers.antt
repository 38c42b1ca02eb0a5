use Rattle.std.proofs.Common.{◌≡◌, Err, subst}
use Rattle.aidl_outside.specs.Faults.{FailedIn, WhereSinkFailed}
use Rattle.aidl_outside.specs.Told.{Puts}
use Rattle.tool_frame.proofs.Puts.{by_length, put_failed}
use Rattle.tool_frame.proofs.putting.put.Goals as goal

pub returns-in-Err-Failed : goal.returns-in-Err-Failed
returns-in-Err-Failed g c =
    let same = c.as_bytes.ensures.value in
    put_failed c.args.text.now _ _ _ _ c.in-Err-Failed.field-0 c.in-Err-Failed.field-0-is (λ empty. by_length c.args.text.now c.is_empty.result c.is_empty.ensures c.if-is_empty.false empty)
    (subst (λ t. Puts {T = Unit {0}} (g.K.Sink.told c.args.sink.now) (g.K.Sink.told c.put.new.self) t (Err c.in-Err-Failed.field-0)) same c.in-Err-Failed.ensures.bytes)
    c.in-Err-Failed.ensures.cause
    (subst (λ t. WhereSinkFailed c.in-Err-Failed.field-0 (FailedIn (g.K.Sink.fault_record c.put.new.self) (λ piece. piece ≡ t))) same c.in-Err-Failed.ensures.failed_call)
