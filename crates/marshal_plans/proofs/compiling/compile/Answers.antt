use Rattle.std.proofs.Common.{ℕ, List, ap, ◌∙◌}
use Rattle.marshal_plans.specs.steps.Compiled.{firsts_from, with_decls, with_interfaces, with_extras}
use Rattle.marshal_plans.specs.declared.plans.Plans.{Plans}
use Rattle.marshal_plans.proofs.Standings.{compiled}
use Rattle.aidl_schema.proofs.lemmas.Valids.{all_hold}
use Rattle.marshal_plans.proofs.compiling.compile.Goals as goal

pub returns : goal.returns
returns c =
    let S = c.args.schema.now.decls in
    let valid = c.args.schema.now.valid in
    let first = c.as_slice.ensures.value ∙ c.in_ok-firsts.ensures in
    let second = c.as_slice-2.ensures.value ∙ c.in_ok-firsts.ensures in
    let third = c.as_slice-3.ensures.value ∙ c.in_ok-firsts.ensures in
    let entered = c.in_ok-add_entries.ensures ∙ ap (λ (F : List ℕ). with_decls S F c.nothing-plans.result S) first ∙ ap (λ (p : Plans). with_decls S (firsts_from 0 S) p S) c.nothing-plans.ensures in
    let started = c.in_ok-add_starts.ensures ∙ ap (λ (F : List ℕ). with_interfaces S F 0 c.add_entries.new.plans S) second ∙ ap (λ (p : Plans). with_interfaces S (firsts_from 0 S) 0 p S) entered in
    let extended = c.in_ok-add_extras.ensures ∙ ap (λ (F : List ℕ). with_extras S F c.add_starts.new.plans c.args.extra.now) third ∙ ap (λ (p : Plans). with_extras S (firsts_from 0 S) p c.args.extra.now) started in
    compiled S c.args.extra.now c.add_extras.new.plans valid (all_hold S valid) c.requires extended
