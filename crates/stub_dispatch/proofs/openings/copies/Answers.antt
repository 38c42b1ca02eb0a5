use Rattle.std.proofs.Common.{ap, ◌∙◌}
use Rattle.aidl_values.specs.View.{view, views}
use Rattle.wire_model.specs.Receiver.{repeated}
use Rattle.stub_dispatch.proofs.Repeats.{repeated_all, repeated_more}
use Rattle.stub_dispatch.proofs.openings.copies.Goals as goal

pub loop-preserved : goal.loop-preserved
loop-preserved c =
    repeated_more c.loop.items.items c.push.new.self.items c.in_ok-copy.copy (view c.args.value.now) c.args.count c.loop.counter (repeated c.args.count (view c.args.value.now))
    c.loop-test.true c.in_ok-push.ensures.items c.in_ok-copy.ensures c.loop.invariant

pub returns : goal.returns
returns c =
    ap views c.from_vec.ensures ∙ repeated_all c.loop.items.items (view c.args.value.now) c.args.count c.loop.counter (repeated c.args.count (view c.args.value.now)) c.loop-test.false c.loop.invariant
