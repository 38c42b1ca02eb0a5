use Rattle.std.proofs.Common.{◌<◌, sym, subst, arith}
use Rattle.std.specs.List.{All}
use Rattle.aidl_values.specs.Given.{IsRising}
use Rattle.aidl_values.proofs.Rising.{rising-push, narrow-push}
use Rattle.aidl_values.proofs.places.Places.push.Goals as goal

pub invariant_of-self-2 : goal.invariant_of-self-2
invariant_of-self-2 c =
    let ps = c.self.inside.row.items in
    let below : All (λ p. p < c.args.place) ps = subst (All (λ p. p < c.args.place)) (sym c.self.view_is) c.requires in
    let fits = c.ranges.place in (
      subst IsRising (sym c.in_ok-push.ensures.items) (rising-push ps c.args.place c.self.invariant.0 below),
      subst (All (λ p. p < 4294967296)) (sym c.in_ok-push.ensures.items) (narrow-push ps c.args.place c.self.invariant.1 (omega (arith, fits.fits))),
    )
