use Rattle.std.proofs.Common.{◌≡◌, Some, refl, sym, ap, ◌∙◌, subst, arith}
use Rattle.aidl_schema.proofs.lemmas.Valids.{all_hold}
use Rattle.marshal_plans.specs.Places.{HasStart}
use Rattle.marshal_plans.specs.Standing.{StandsFor}
use Rattle.marshal_plans.specs.steps.Rising.{AreRising}
use Rattle.marshal_plans.proofs.Found.{start_there, start_stands}
use Rattle.marshal_plans.proofs.Orders.{are_rising}
use Rattle.marshal_plans.proofs.plans.Plans.argument.Goals as goal

pub start_at-requires : goal.start_at-requires
start_at-requires c =
    let h = c.requires in
    let plans = c.args.self.now in
    subst (λ xs. AreRising xs c.args.interface c.args.method (Some c.args.k)) (sym c.as_slice.ensures)
    (are_rising h.0 (all_hold h.0 h.3.schema) h.2 plans.starts h.3.starts c.args.interface c.args.method (Some c.args.k) (omega (arith, c.ranges.method.fits)) (omega (arith, c.ranges.k.fits)))

pub unreachable-requires : goal.unreachable-requires
unreachable-requires c =
    let h = c.requires in
    let there = start_there h.0 h.1 h.2 c.args.self.now h.3 c.args.interface c.args.method h.4 h.5 (Some c.args.k) h.6.ty (h.6, h.7, refl) in
    c.in-None.ensures there.0 (subst (λ xs. HasStart xs c.args.interface c.args.method (Some c.args.k) there.0) (sym c.as_slice.ensures) there.1)

pub returns-clause-stands : goal.returns-clause-stands
returns-clause-stands c = λ S extra types stand w is a at.
    let id = c.in-Some.id in
    let start = subst (λ xs. HasStart xs c.args.interface c.args.method (Some c.args.k) id) c.as_slice.ensures c.in-Some.ensures in
    let there = start_stands S extra types c.args.self.now stand c.args.interface c.args.method w is (Some c.args.k) id start in
    let same : a ≡ there.1.0 = let b = there.1.1 in cc in
    let type : there.0 ≡ a.ty = sym there.1.2 ∙ ap (λ x. x.ty) (sym same) in
    subst (λ t. StandsFor types id t) type there.2
