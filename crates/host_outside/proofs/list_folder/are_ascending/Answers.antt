use Rattle.std.proofs.Common.{sym, arith}
use Rattle.host_outside.proofs.Ascending.{one_more, ascending}
use Rattle.host_outside.proofs.list_folder.are_ascending.Goals as goal

pub loop-place-init : goal.loop-place-init
loop-place-init c = λ k below. absurd (omega arith)

pub loop-place-preserved : goal.loop-place-preserved
loop-place-preserved c =
    one_more c.args.paths.now c.loop-place.place c.index-paths-place.result c.index-paths-place-in-loop-place.result c.loop-place.auto.place c.loop-place-test.true c.index-paths-place.is c.index-paths-place-in-loop-place.is (sym c.in-Less.ensures) c.loop-place.invariant

pub returns : goal.returns
returns c = λ h. ascending c.args.paths.now c.loop-place.place c.loop-place-test.false c.loop-place.invariant
