use Rattle.std.proofs.lemmas.Result.{err_from_is_err_and}
use Rattle.call_runner.proofs.Courses.{stops_first, stops_reply, stops_then}
use Rattle.call_scripts.specs.Calls.{call_of}
use Rattle.call_runner.proofs.exchange.carry_call.Goals as goal

pub returns-in_err-request-clause-stops : goal.returns-in_err-request-clause-stops
returns-in_err-request-clause-stops g c =
    let q = err_from_is_err_and c.from_residual.result c.from_residual.ensures.1 in
    rw (q.1, q.2) (stops_first c.args.profile c.args.client.now c.args.server.now (call_of c.args.call.now) (g.L.Link.is_faithful c.args.link.now) (g.L.Link.log c.args.link.now)
    (g.L.Link.log c.send_request.new.link) (g.L.Link.fault_record c.send_request.new.link) c.in_err-request.field-0.0 c.in_err-request.ensures.log c.in_err-request.ensures.failed)

pub returns-in_err-transport-clause-stops : goal.returns-in_err-transport-clause-stops
returns-in_err-transport-clause-stops g c =
    let q = err_from_is_err_and c.from_residual-in_err-transport.result c.from_residual-in_err-transport.ensures.1 in
    rw q.1 (stops_then c.args.profile c.args.client.now c.args.server.now (call_of c.args.call.now) (g.L.Link.is_faithful c.args.link.now) (g.L.Link.log c.args.link.now)
    (g.L.Link.log c.send_request.new.link) (g.L.Link.fault_record c.send_request.new.link) q.0 c.in_ok-request.request c.in_ok-request.ensures.entry c.in_ok-request.ensures.log c.in_ok-request.ensures.faithful
    (λ e. let lost = q.2 in cc))

pub returns-in_err-reply-clause-stops : goal.returns-in_err-reply-clause-stops
returns-in_err-reply-clause-stops g c =
    let q = err_from_is_err_and c.from_residual-in_err-reply.result c.from_residual-in_err-reply.ensures.1 in
    rw (q.1, q.2) (stops_reply c.args.profile c.args.client.now c.args.server.now (call_of c.args.call.now) (g.L.Link.is_faithful c.args.link.now) (g.L.Link.log c.args.link.now)
    (g.L.Link.log c.send_request.new.link) (g.L.Link.log c.send_reply.new.link) (g.L.Link.fault_record c.send_reply.new.link) c.in_err-reply.field-0.0 c.in_ok-request.request c.in_ok-request.ensures.entry
    c.in_ok-request.ensures.log c.in_err-reply.ensures.log c.in_ok-request.ensures.faithful c.as_slice.result.now c.as_slice.ensures c.in_ok-transport.field-0 c.in_ok-transport.ensures
    c.in_err-reply.ensures.failed)
