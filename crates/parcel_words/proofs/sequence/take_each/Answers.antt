use Rattle.std.proofs.Common.{◌≡◌, Ok, ap, subst}
use Rattle.std.proofs.lemmas.Result.{err_from_is_err_and}
use Rattle.aidl_base.specs.Readings.{items_at}
use Rattle.parcel_words.specs.Place.{Place, left, is_inside}
use Rattle.parcel_words.specs.Taken.{RefusesIfMemory}
use Rattle.parcel_words.proofs.lemmas.Moves.{on_and_on}
use Rattle.parcel_words.proofs.Items.{goes_on, ends, is_done}
use Rattle.parcel_words.proofs.sequence.take_each.Goals as goal

pub returns-in_err-item-clause-taken : goal.returns-in_err-item-clause-taken
returns-in_err-item-clause-taken g c =
    let profile = c.args.from.now.profile in
    let read = g.W.Wire.reading profile in
    let same : c.loop.from.profile ≡ profile = ap (λ (p : Place). p.profile) c.loop.invariant.on in
    let inside : is_inside c.loop.from ≡ is_inside c.args.from.now = ap is_inside c.loop.invariant.on in
    let fault = c.in_err-item.field-0.0 in
    let as_read = subst (λ p. RefusesIfMemory fault (g.W.Wire.reading p (is_inside c.loop.from) (left c.loop.from))) same c.in_err-item.ensures.taken in
    let here = subst (λ b. RefusesIfMemory fault (read b (left c.loop.from))) inside as_read in
    let p = err_from_is_err_and c.from_residual.result c.from_residual.ensures.1 in
    rw (p.1, p.2) (ends (read (is_inside c.args.from.now)) c.loop.items c.args.count c.loop.counter (left c.loop.from) (items_at (g.W.Wire.reading c.args.from.now.profile (is_inside c.args.from.now)) c.args.count (left c.args.from.now)) c.loop.invariant.read fault c.loop-test.true here)

pub loop-preserved : goal.loop-preserved
loop-preserved g c =
    let profile = c.args.from.now.profile in
    let read = g.W.Wire.reading profile in
    let same : c.loop.from.profile ≡ profile = ap (λ (p : Place). p.profile) c.loop.invariant.on in
    let inside : is_inside c.loop.from ≡ is_inside c.args.from.now = ap is_inside c.loop.invariant.on in
    let x = c.in_ok-item.item in
    let as_read = subst (λ p. g.W.Wire.reading p (is_inside c.loop.from) (left c.loop.from) ≡ Ok (x, left c.take.new.from)) same c.in_ok-item.ensures.taken in
    let here = subst (λ b. read b (left c.loop.from) ≡ Ok (x, left c.take.new.from)) inside as_read in
    rw c.in_ok-push.ensures.ok (record {
      read = goes_on (read (is_inside c.args.from.now)) c.loop.items c.args.count c.loop.counter (left c.loop.from) (items_at (g.W.Wire.reading c.args.from.now.profile (is_inside c.args.from.now)) c.args.count (left c.args.from.now)) c.loop.invariant.read x (left c.take.new.from) c.loop-test.true here;
      on = on_and_on c.args.from.now c.loop.from c.take.new.from c.loop.invariant.on c.in_ok-item.ensures.passed;
    })

pub returns-clause-taken : goal.returns-clause-taken
returns-clause-taken g c =
    is_done (g.W.Wire.reading c.args.from.now.profile (is_inside c.args.from.now)) c.loop.items c.args.count c.loop.counter (left c.loop.from) (items_at (g.W.Wire.reading c.args.from.now.profile (is_inside c.args.from.now)) c.args.count (left c.args.from.now)) c.loop.invariant.read c.loop-test.false
