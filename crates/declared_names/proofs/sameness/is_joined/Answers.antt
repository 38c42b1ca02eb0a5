use Rattle.std.proofs.Common.{sym, ◌∙◌, ap}
use Rattle.declared_names.specs.Names.{same}
use Rattle.declared_names.proofs.lemmas.Compared.{same-short, same-front, same-not-front}
use Rattle.declared_names.proofs.sameness.is_joined.Goals as goal

pub returns-then-name-front : goal.returns-then-name-front
returns-then-name-front c = sym (same-short c.args.name.now c.args.front.now c.args.back.now c.if-name-front.true)

pub returns-then-same : goal.returns-then-same
returns-then-same c =
    c.same-then-same.ensures ∙ ap (λ z. same z c.args.back.now) c.split_at.ensures.back
    ∙ same-front c.args.name.now c.args.front.now c.args.back.now c.if-name-front.false (ap (λ z. same z c.args.front.now) (sym c.split_at.ensures.front) ∙ sym c.same.ensures ∙ c.if-same.true)

pub returns-else-same : goal.returns-else-same
returns-else-same c =
    c.if-same.false
    ∙ same-not-front c.args.name.now c.args.front.now c.args.back.now c.if-name-front.false (ap (λ z. same z c.args.front.now) (sym c.split_at.ensures.front) ∙ sym c.same.ensures ∙ c.if-same.false)
