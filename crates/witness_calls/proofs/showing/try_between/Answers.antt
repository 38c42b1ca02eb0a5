use Rattle.std.proofs.Common.{length, ap, arith}
use Rattle.witness_calls.specs.Seen.{call_seen}
use Rattle.witness_calls.proofs.Shown.{none_tried, nothing_named}
use Rattle.witness_calls.proofs.showing.try_between.Goals as goal

pub returns-then-call-methods : goal.returns-then-call-methods
returns-then-call-methods c = λ old new a b.
    let many = ap length c.methods.ensures.are in
    nothing_named old new (call_seen c.args.call.now) c.args.client.now a (λ lt. omega (arith, lt, many, c.if-call-methods.true))

pub returns-in-None : goal.returns-in-None
returns-in-None c = λ old new a b.
    none_tried old new (call_seen c.args.call.now) c.args.client.now c.args.server.now a b _ c.may_fit.result c.in_ok-showing.ensures c.in-None.is c.may_fit.ensures
