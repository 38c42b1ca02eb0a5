use Rattle.std.proofs.Common.{◌≡◌, ◌-◌}
use Rattle.aidl_values.specs.View.{view, views}
use Rattle.wire_model.specs.Receiver.{repeated}
use Rattle.stub_dispatch.specs.steps.Fronts.{joined}
use Rattle.stub_dispatch.proofs.openings.copies.Given as goal

-- the copies made, with those that are still to be made, are all
abbrev pub invariant-loop : goal.invariant-loop
invariant-loop l = joined (views l.items.items) (repeated (l.count - l.counter) (view l.value)) ≡ repeated l.count (view l.value)
