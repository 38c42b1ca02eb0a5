use Rattle.std.proofs.Common.{None, sym, subst, arith}
use Rattle.aidl_schema.proofs.lemmas.Valids.{all_hold}
use Rattle.marshal_plans.specs.Places.{IsItemOfStart}
use Rattle.marshal_plans.specs.steps.Rising.{AreRising}
use Rattle.marshal_plans.proofs.Found.{result_stands}
use Rattle.marshal_plans.proofs.Orders.{are_rising}
use Rattle.marshal_plans.proofs.plans.Plans.result.Goals as goal

pub start_at-requires : goal.start_at-requires
start_at-requires c =
    let h = c.requires in
    let plans = c.args.self.now in
    subst (λ xs. AreRising xs c.args.interface c.args.method None) (sym c.as_slice.ensures)
    (are_rising h.0 (all_hold h.0 h.3.schema) h.2 plans.starts h.3.starts c.args.interface c.args.method None (omega (arith, c.ranges.method.fits)) tt)

pub returns-clause-start : goal.returns-clause-start
returns-clause-start c =
    subst (λ xs. IsItemOfStart xs c.args.interface c.args.method None c.start_at.result) c.as_slice.ensures c.start_at.ensures

pub returns-clause-stands : goal.returns-clause-stands
returns-clause-stands c = λ S extra types stand w is.
    result_stands S extra types c.args.self.now stand c.args.interface c.args.method w is c.start_at.result
    (subst (λ xs. IsItemOfStart xs c.args.interface c.args.method None c.start_at.result) c.as_slice.ensures c.start_at.ensures)
