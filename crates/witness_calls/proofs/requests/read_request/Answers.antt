use Rattle.std.proofs.Common.{◌∙◌}
use Rattle.witness_calls.proofs.Shown.{nobody_called, somebody_called}
use Rattle.witness_calls.proofs.requests.read_request.Goals as goal

pub returns-in-None : goal.returns-in-None
returns-in-None c =
    nobody_called c.args.client.now.declarations c.args.client.now.interface c.args.client.now.method c.args.server.now c.in-Some.interface c.declared.result.now c.args.bytes.now
    c.in-Some.ensures c.declared.ensures.is c.in-None.ensures.is

pub returns-in_ok-receipt-in-Some-method_of_id : goal.returns-in_ok-receipt-in-Some-method_of_id
returns-in_ok-receipt-in-Some-method_of_id c =
    somebody_called c.args.client.now.declarations c.args.client.now.interface c.args.client.now.method c.args.server.now c.in-Some.interface c.declared.result.now c.args.bytes.now
    c.in-Some-method_of_id.method c.callee.result.now _ _ c.in-Some.ensures c.declared.ensures.is c.in-Some-method_of_id.ensures.is
    (c.callee.ensures ∙ c.callee-target.ensures) c.in_ok-receipt-in-Some-method_of_id.ensures c.as_reading.ensures
