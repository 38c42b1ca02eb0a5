use Rattle.std.proofs.Common.{◌≡◌, reverse, refl, sym, ap, ◌∙◌, length, arith}
use Rattle.std.proofs.lemmas.List.{nil_from_length}
use Rattle.parse_places.specs.steps.Moves.{moves, skips, step}
use Rattle.parse_places.proofs.runs.Stacks.{popped, went, stayed}
use Rattle.parse_places.proofs.moving.step.Goals as goal

pub returns-then-branch : goal.returns-then-branch
returns-then-branch c =
    went c.in_ok-moved.field-0 (moves c.in-Some.expected c.args.terminal) c.pop.new.self.items c.moved.new.stack.items (skips c.in-Some.expected) (step (reverse c.pop.new.self.items) c.args.terminal) c.in_ok-moved.ensures c.if-branch.true
    ∙ sym (popped c.loop-expected.stack.items c.pop.new.self.items c.in-Some.expected c.args.terminal c.in-Some.ensures.items) ∙ c.loop-expected.invariant

pub returns-then-not-skips : goal.returns-then-not-skips
returns-then-not-skips c =
    let s = stayed c.in_ok-moved.field-0 (moves c.in-Some.expected c.args.terminal) c.pop.new.self.items c.moved.new.stack.items c.in_ok-moved.ensures c.if-branch.false in
    let k = sym c.skips.ensures ∙ c.if-not-skips.true in
    let p = popped c.loop-expected.stack.items c.pop.new.self.items c.in-Some.expected c.args.terminal c.in-Some.ensures.items in
    sym (sym c.loop-expected.invariant ∙ p ∙ rw (s.0, k) refl)

pub loop-expected-preserved : goal.loop-expected-preserved
loop-expected-preserved c =
    let s = stayed c.in_ok-moved.field-0 (moves c.in-Some.expected c.args.terminal) c.pop.new.self.items c.moved.new.stack.items c.in_ok-moved.ensures c.if-branch.false in
    let k = sym c.skips.ensures ∙ c.if-not-skips.false in
    let p = popped c.loop-expected.stack.items c.pop.new.self.items c.in-Some.expected c.args.terminal c.in-Some.ensures.items in
    ap (λ items. step (reverse items) c.args.terminal) s.1 ∙ sym (p ∙ rw (s.0, k) refl) ∙ c.loop-expected.invariant

pub returns : goal.returns
unfolding step
returns c = let n : length c.loop-expected.stack.items ≡ 0 = omega (arith, c.in_default.ensures.cases.0, c.loop-expected.stack.ok) in let e = nil_from_length c.loop-expected.stack.items n in sym (sym c.loop-expected.invariant ∙ ap (λ items. step (reverse items) c.args.terminal) e)
