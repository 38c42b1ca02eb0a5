use Rattle.std.proofs.Common.{◌≡◌, IsTrue, map, get_or, sym, ap, subst, ◌∙◌}
use Rattle.std.specs.List.{slice_get}
use Rattle.std.proofs.lemmas.Result.{IfOk-weaker}
use Rattle.graph_cycles.specs.Paths.{flag, targets}
use Rattle.const_eval.specs.Held.{is_held_outcome}
use Rattle.const_items.specs.ItemViews.{item_of}
use Rattle.const_eval.specs.Known.{are_given, values_in, without_value}
use Rattle.const_eval.specs.Outcomes.{HasOutcome, judgement_of, outcome_of, wanted_of}
use Rattle.const_eval.specs.TreeViews.{files_of}
use Rattle.const_eval.proofs.Meant.{item_at}
use Rattle.const_eval.proofs.OneItem.{by_values, without}
use Rattle.const_eval.proofs.eval.outcome_of.Goals as goal

pub returns-in-Some-clause-exact : goal.returns-in-Some-clause-exact
returns-in-Some-clause-exact c =
    let n = c.args.number in
    let x = c.index-list-number.result in
    let k = c.is_set-unknown.result in
    let g = c.are_given-given.result in
    without (files_of c.args.tree.now) c.args.tree.now.items.now.list.items c.requires.all c.args.dependence.now.next.items c.requires.next c.args.on.now c.requires.cycles
    c.args.dependence.now.unknown.items c.requires.unknown c.args.outcomes.now n x c.requires.within (c.index-list-number.is ∙ ap (λ xs. get_or xs n x) c.list.ensures) c.requires.known
    k g (c.is_set-unknown.ensures ∙ ap (λ bs. flag bs n) c.as_slice.ensures.value)
    (c.are_given-given.ensures ∙ ap (are_given c.args.outcomes.now) (c.targets_of.ensures ∙ ap (λ rows. targets rows n) c.as_slice-2.ensures.value))
    c.without_value.result (c.without_value.ensures ∙ ap (λ b. without_value x.unjudged k b g) c.is_set.ensures) c.in-Some.outcome c.in-Some.is

pub returns-in-None-clause-exact : goal.returns-in-None-clause-exact
returns-in-None-clause-exact c =
    let files = files_of c.args.tree.now in
    let n = c.args.number in
    let x = c.index-list-number.result in
    let k = c.is_set-unknown.result in
    let g = c.are_given-given.result in
    let has = by_values files c.args.tree.now.items.now.list.items c.requires.all c.args.dependence.now.next.items c.requires.next c.args.on.now c.requires.cycles
    c.args.dependence.now.unknown.items c.requires.unknown c.args.outcomes.now n x c.requires.within (c.index-list-number.is ∙ ap (λ xs. get_or xs n x) c.list.ensures) c.requires.known
    k g (c.is_set-unknown.ensures ∙ ap (λ bs. flag bs n) c.as_slice.ensures.value)
    (c.are_given-given.ensures ∙ ap (are_given c.args.outcomes.now) (c.targets_of.ensures ∙ ap (λ rows. targets rows n) c.as_slice-2.ensures.value))
    c.without_value.result (c.without_value.ensures ∙ ap (λ b. without_value x.unjudged k b g) c.is_set.ensures) c.in-None.is in
    IfOk-weaker c.judged.result (λ o. o ≡ outcome_of (judgement_of files (values_in c.args.outcomes.now) (item_of x) (item_of x).value)) (HasOutcome files n)
    (λ o e. subst (HasOutcome files n) (sym e) has) c.judged.ensures.value

pub returns-in-None-clause-held : goal.returns-in-None-clause-held
returns-in-None-clause-held c =
    let list = c.args.tree.now.items.now.list.items in
    let n = c.args.number in
    let x = c.index-list-number.result in
    let at = item_at list n x c.requires.within (c.index-list-number.is ∙ ap (λ xs. get_or xs n x) c.list.ensures) in
    IfOk-weaker c.judged.result (λ o. IsTrue (is_held_outcome x.wanted o)) (λ o. IsTrue (is_held_outcome (wanted_of (slice_get (map item_of list) n)) o))
    (λ o h. subst (λ w. IsTrue (is_held_outcome w o)) (sym (ap wanted_of at)) h) c.judged.ensures.held
