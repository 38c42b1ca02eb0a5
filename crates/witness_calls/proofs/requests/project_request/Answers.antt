use Rattle.std.proofs.Common.{◌≡◌}
use Rattle.std.proofs.lemmas.Result.{IfOk-weaker}
use Rattle.aidl_values.specs.View.{views}
use Rattle.compat_witness.specs.Sides.{projected_request, side_of}
use Rattle.witness_calls.specs.Seen.{reading_seen}
use Rattle.witness_calls.specs.steps.Projected.{called_at}
use Rattle.witness_calls.proofs.Shown.{called_there, nowhere_called}
use Rattle.witness_calls.proofs.requests.project_request.Goals as goal

pub returns-in-Some : goal.returns-in-Some
returns-in-Some c =
    let a = c.args.client.now in
    let s = c.in-Some.target in
    let vs = views c.args.args.now in
    IfOk-weaker c.project_called.result (λ r. reading_seen r ≡ side_of (called_at a s vs)) (λ r. reading_seen r ≡ projected_request a c.args.server.now vs)
    (λ r e. called_there a.declarations a.interface a.method c.args.server.now vs s (reading_seen r) c.in-Some.ensures e) c.project_called.ensures

pub returns-in-None : goal.returns-in-None
returns-in-None c = nowhere_called c.args.client.now.declarations c.args.client.now.interface c.args.client.now.method c.args.server.now (views c.args.args.now) c.in-None.ensures
