use Rattle.std.proofs.Common.{Ordering, rules}
use Rattle.std.proofs.lemmas.Fn.{always_returns_same}
use Rattle.marshal_plans.specs.declared.plans.PlanStart.{PlanStart}
use Rattle.marshal_plans.specs.steps.Rising.{order_to}
use Rattle.marshal_plans.proofs.Found.{found, none_there}
use Rattle.marshal_plans.proofs.lookup.start_at.Goals as goal

pub returns-in-Ok : goal.returns-in-Ok
returns-in-Ok c =
    let order : PlanStart → Ordering = λ s. order_to c.args.numbers.interface c.args.numbers.method c.args.place s in
    let tie = c.in-Ok.ensures.position order (always_returns_same _ _ _ (λ a r g called. (search rules, search rules))) in
    found c.args.starts.now c.args.numbers.interface c.args.numbers.method c.args.place c.in-Ok.i _ c.in-Ok.ensures.bound tie

pub returns-in-Err : goal.returns-in-Err
returns-in-Err c =
    let order : PlanStart → Ordering = λ s. order_to c.args.numbers.interface c.args.numbers.method c.args.place s in
    let split = c.in-Err.ensures.position order (always_returns_same _ _ _ (λ a r g called. (search rules, search rules))) in
    none_there c.args.starts.now c.args.numbers.interface c.args.numbers.method c.args.place c.in-Err.field-0 (split c.requires)
