use Rattle.std.proofs.Common.{◌≡◌, ◌+◌, ◌-◌, length, Ok, ap, subst, arith}
use Rattle.aidl_base.specs.declared.profile.Profile.{Profile}
use Rattle.aidl_base.specs.declared.profile.Profile.TheVariants.{Strict}
use Rattle.aidl_base.specs.Readings.{raw_at}
use Rattle.parcel_words.specs.Place.{Place, left, is_inside}
use Rattle.parcel_explain.proofs.Lengths.{bytes_told}
use Rattle.parcel_explain.proofs.words.bytes_item.Goals as goal

pub returns-in_ok-push_some-in-Ok-clause-told : goal.returns-in_ok-push_some-in-Ok-clause-told
returns-in_ok-push_some-in-Ok-clause-told c =
    let p = c.args.from.now in
    let q = c.raw.new.self in
    let at : q.position ≡ p.position + (length (left p) - length (left q)) = ap (λ (r : Place). r.position) c.in-Ok.ensures.on in
    let taken = subst (λ (profile : Profile). raw_at profile c.args.count (is_inside p) (left p) ≡ Ok (c.in-Ok.field-0.now, left q)) c.requires.reader.0 c.in-Ok.ensures.taken in
    bytes_told c.args.spot.now.path.now (left p) (left q) c.in-Ok.field-0.now (raw_at Strict c.args.count (is_inside p) (left p)) (c.position.result - c.position-start.result) c.args.items.now c.push_some.new.items taken
    (omega (arith, at, c.position.ensures.value, c.position-start.ensures.value)) c.in_ok-push_some-in-Ok.ensures
