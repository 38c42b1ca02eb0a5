use Rattle.aidl_values.specs.View.{views}
use Rattle.compat_witness.specs.Sides.{projected_request, read_request}
use Rattle.wire_model.specs.Requests.{ArgsFit, request}
use Rattle.witness_calls.proofs.Shown.{weighed}
use Rattle.witness_calls.proofs.requests.weigh_request.Goals as goal

pub returns : goal.returns
returns c =
    let a = c.args.client.now in
    let B = c.args.server.now in
    let vs = views c.args.args.now in
    weighed (ArgsFit a vs) (request a vs) c.in_ok-bytes.field-0 c.in-Some.bytes c.as_slice.result.now (λ b. read_request a B b) (projected_request a B vs)
    c.in_ok-read.read c.in_ok-projected.projected c.in_ok-bytes.ensures c.in-Some.is c.as_slice.ensures c.in_ok-read.ensures c.in_ok-projected.ensures
