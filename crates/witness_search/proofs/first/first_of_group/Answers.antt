use Rattle.std.proofs.Common.{Some, None, subst}
use Rattle.compat_witness.specs.Alike.{AreAlike}
use Rattle.witness_search.specs.steps.First.{IsFirst}
use Rattle.witness_search.specs.steps.Requests.{requests_of}
use Rattle.witness_search.proofs.Firsts.{found_here, not_here, nothing_left, of_group}
use Rattle.witness_search.proofs.Trials.{has_got, settled, shown_alike}
use Rattle.witness_search.proofs.first.first_of_group.Goals as goal

-- the requests of all methods are the group's
pub loop-reach-init : goal.loop-reach-init
loop-reach-init c = λ r h.
    subst (λ cs. IsFirst c.args.pair.now.old c.args.pair.now.new cs r)
    (of_group c.args.pair.now.old c.args.pair.now.new c.args.group.now c.as_slice-values.result.now c.reaching-methods.result.now c.as_slice-values.ensures c.reaching-methods.ensures) h

pub returns-in-Some : goal.returns-in-Some
returns-in-Some c =
    c.loop-reach.invariant (Some c.in-Some.found)
    (found_here c.args.pair.now.old c.args.pair.now.new (requests_of c.args.group.now.back c.as_slice-values.result.now) c.reaching-methods.result.now c.loop-reach.reach-index _ c.loop-reach-test.true c.in_ok-found.field-0.found c.in_ok-found.ensures.first c.in-Some.found c.in-Some.is)

pub returns-then-short : goal.returns-then-short
returns-then-short c =
    let old = c.args.pair.now.old in
    let new = c.args.pair.now.new in
    let before = c.schema-before.result.now.decls in
    let after = c.schema-after.result.now.decls in
    let g = c.args.group.now in
    let methods = c.reaching-methods.result.now in
    let values = c.as_slice-values.result.now in
    let alike = shown_alike old new
    (subst (λ a. AreAlike a new) c.schema-before.ensures (subst (λ b. AreAlike before b) c.schema-after.ensures c.law_alike.ensures))
    (subst (λ a. AreAlike a old) c.schema-after.ensures (subst (λ b. AreAlike after b) c.schema-before.ensures c.law_alike-2.ensures))
    g.back g.number methods c.reaching-methods.ensures in
    subst (λ cs. IsFirst old new cs None) (of_group old new g values methods c.as_slice-values.ensures c.reaching-methods.ensures)
    (settled old new g.back methods alike values _ (has_got methods c.loop-reach.reach-index _ c.loop-reach-test.true) c.in_ok-found.field-0 c.in_ok-found.ensures c.in_default.is c.if-short.true)

pub loop-reach-preserved : goal.loop-reach-preserved
loop-reach-preserved c = λ r h.
    c.loop-reach.invariant r
    (not_here c.args.pair.now.old c.args.pair.now.new (requests_of c.args.group.now.back c.as_slice-values.result.now) c.reaching-methods.result.now c.loop-reach.reach-index _ c.loop-reach-test.true c.in_ok-found.field-0.found c.in_ok-found.ensures.first c.in_default.is r h)

pub returns : goal.returns
returns c = c.loop-reach.invariant None (nothing_left c.args.pair.now.old c.args.pair.now.new (requests_of c.args.group.now.back c.as_slice-values.result.now) c.reaching-methods.result.now c.loop-reach.reach-index c.loop-reach-test.false)
