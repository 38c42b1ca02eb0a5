use Rattle.std.proofs.Common.{◌≡◌, ℕ, cond, reverse, drop, length, ◌+◌, Option, Some, None, sym, ap, ◌∙◌, arith}
use Rattle.parse_places.specs.steps.Moves.{step, ends}
use Rattle.parse_places.specs.steps.Places.{place_from, place_or}
use Rattle.parse_places.proofs.runs.Stacks.{place_at, place_after, ends_turned, refused, accepted}
use Rattle.parse_places.proofs.placing.place.Goals as goal

pub returns-then-not-branch : goal.returns-then-not-branch
returns-then-not-branch c =
    let p = place_at c.args.tokens.now c.loop-place.place c.index-tokens-place.result (reverse c.loop-place.stack.items) c.loop-place-test.true c.index-tokens-place.is in
    let r = refused c.in_ok-step.field-0 c.step.new.stack.items (step (reverse c.loop-place.stack.items) c.terminal_of.result) c.in_ok-step.ensures c.if-not-branch.true in
    let k = ap (step (reverse c.loop-place.stack.items)) (sym c.terminal_of.ensures) ∙ r in
    sym (sym c.loop-place.invariant ∙ p ∙ ap (λ o. place_or c.loop-place.place o (place_from (c.loop-place.place + 1) (drop (c.loop-place.place + 1) c.args.tokens.now))) k)

pub loop-place-preserved : goal.loop-place-preserved
loop-place-preserved c =
    let p = place_at c.args.tokens.now c.loop-place.place c.index-tokens-place.result (reverse c.loop-place.stack.items) c.loop-place-test.true c.index-tokens-place.is in
    let r = accepted c.in_ok-step.field-0 c.step.new.stack.items (step (reverse c.loop-place.stack.items) c.terminal_of.result) c.in_ok-step.ensures c.if-not-branch.false in
    let k = ap (step (reverse c.loop-place.stack.items)) (sym c.terminal_of.ensures) ∙ r in
    sym (p ∙ ap (λ o. place_or c.loop-place.place o (place_from (c.loop-place.place + 1) (drop (c.loop-place.place + 1) c.args.tokens.now))) k) ∙ c.loop-place.invariant

pub returns-then-ends : goal.returns-then-ends
returns-then-ends c =
    let p = place_after c.args.tokens.now c.loop-place.place (reverse c.loop-place.stack.items) c.loop-place-test.false in
    let e = ends_turned c.loop-place.stack.items ∙ ap ends (sym c.deref.ensures.value) ∙ sym c.ends.ensures ∙ c.if-ends.true in
    sym (sym c.loop-place.invariant ∙ p ∙ ap (λ b. cond {A = Option ℕ} b None (Some c.loop-place.place)) e)

pub returns : goal.returns
returns c =
    let p = place_after c.args.tokens.now c.loop-place.place (reverse c.loop-place.stack.items) c.loop-place-test.false in
    let e = ends_turned c.loop-place.stack.items ∙ ap ends (sym c.deref.ensures.value) ∙ sym c.ends.ensures ∙ c.if-ends.false in
    let n : c.loop-place.place ≡ length c.args.tokens.now = omega arith in
    sym (sym c.loop-place.invariant ∙ p ∙ ap (λ b. cond {A = Option ℕ} b None (Some c.loop-place.place)) e ∙ ap Some n)
