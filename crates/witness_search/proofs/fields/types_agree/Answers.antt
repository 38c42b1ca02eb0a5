use Rattle.std.proofs.Common.{◌≤◌, subst}
use Rattle.witness_search.proofs.RecordParts.{agree_end}
use Rattle.witness_search.proofs.fields.types_agree.Goals as goal

pub returns : goal.returns
returns c = agree_end c.args.old.now.decls c.args.new.now.decls c.args.olds.now c.args.news.now c.loop-i.i (subst (λ n. n ≤ c.loop-i.i) c.min-i-end.ensures c.loop-i-test.false) c.loop-i.invariant
