use Rattle.std.proofs.Common.{◌++◌, sym, ap, ◌∙◌}
use Rattle.witness_search.specs.ReachTables.{row_at}
use Rattle.witness_search.specs.steps.Reached.{one_at}
use Rattle.witness_search.proofs.Reaches.{put_at}
use Rattle.witness_search.proofs.reaching.add.Goals as goal

pub returns-in_ok-push : goal.returns-in_ok-push
returns-in_ok-push c = λ k lt.
    put_at c.args.reach c.args.rows.now c.in-Some.number c.index-rows-at.result c.push.new.self c.if-at-rows.true c.in_ok-push.ensures.ok k
    ∙ ap (λ o. row_at c.args.rows.now k ++ one_at c.args.reach o k) (sym c.in-Some.is)
