use Rattle.std.proofs.Common.{◌≡◌, ◌↔◌, IsTrue, false, length, slice_index, subst, sym, arith, rules}
use Rattle.graph_cycles.specs.Paths.{Leads, flag, targets}
use Rattle.graph_cycles.specs.steps.Marks.{IsRank}
use Rattle.graph_cycles.proofs.slow.cycles_slowly.Goals as goal
use Rattle.graph_cycles.proofs.Steps.{told_all}
use Rattle.graph_cycles.proofs.Ranks.{descends, pushed}

pub loop-node-preserved : goal.loop-node-preserved
loop-node-preserved c = record {
  len = search rules;
  count = search rules;
  told = λ k lt. subst (λ xs. IsTrue (flag xs k) ↔ Leads (targets c.args.edges.now) k k) (sym c.in_ok-push.ensures.items)
      (pushed (λ n b. IsTrue b ↔ Leads (targets c.args.edges.now) n n) c.loop-node.on.items c.in_ok-reach.reach.back false c.loop-node.node (search rules) c.loop-node.invariant.told c.in_ok-reach.ensures.back k lt);
  ranked = λ k lt. subst (λ xs. IsRank c.args.edges.now k (slice_index xs k)) (sym c.in_ok-push-2.ensures.items)
      (pushed (λ n rank. IsRank c.args.edges.now n rank) c.loop-node.ranks.items c.in_ok-reach.reach.nodes 0 c.loop-node.node (search rules) c.loop-node.invariant.ranked c.in_ok-reach.ensures.nodes k lt);
}

pub returns-clause-exact : goal.returns-clause-exact
returns-clause-exact c =
    let len : length c.loop-node.on.items ≡ length c.args.edges.now = search rules in
    told_all c.args.edges.now c.loop-node.on.items len (λ k lt. c.loop-node.invariant.told k (omega arith))

pub returns-clause-ranks : goal.returns-clause-ranks
returns-clause-ranks c =
    let len : length c.loop-node.on.items ≡ length c.args.edges.now = search rules in
    let count : length c.loop-node.ranks.items ≡ length c.args.edges.now = search rules in
    descends c.args.edges.now c.loop-node.on.items c.loop-node.ranks.items count (λ k lt. c.loop-node.invariant.ranked k (omega arith))
    (told_all c.args.edges.now c.loop-node.on.items len (λ k lt. c.loop-node.invariant.told k (omega arith)))
