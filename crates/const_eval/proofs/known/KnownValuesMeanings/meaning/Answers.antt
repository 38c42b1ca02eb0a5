use Rattle.std.proofs.Common.{get_or, ap, ◌∙◌}
use Rattle.const_values.specs.Seen.{answer}
use Rattle.const_eval.specs.Known.{known_meaning}
use Rattle.const_eval.specs.TreeViews.{files_of}
use Rattle.const_items.specs.TargetViews.{seen_targets}
use Rattle.const_eval.proofs.Meant.{name_means}
use Rattle.const_items.proofs.lemmas.Scopes.{scoped}
use Rattle.const_eval.proofs.known.KnownValuesMeanings.meaning.Goals as goal

pub target_of-target-requires : goal.target_of-target-requires
target_of-target-requires c =
    let v = c.self.inside in
    let x = c.index-list-self.result in
    scoped (files_of v.tree) v.tree.items.now.list.items v.number x c.self.invariant.all c.self.invariant.within (c.index-list-self.is ∙ ap (λ xs. get_or xs v.number x) c.list.ensures)

pub returns-clause-value : goal.returns-clause-value
returns-clause-value c =
    let v = c.self.inside in
    let x = c.index-list-self.result in
    name_means (files_of v.tree) v.tree.items.now.list.items c.self.invariant.all v.number x c.self.invariant.within (c.index-list-self.is ∙ ap (λ xs. get_or xs v.number x) c.list.ensures)
    v.outcomes.now c.args.name.now (seen_targets c.target_of-target.result) c.number_of-number.result (answer c.operand_at.result) c.target_of-target.ensures c.number_of-number.ensures c.operand_at.ensures.value
    ∙ ap (λ k. known_meaning k c.args.name.now) c.self.view_is
