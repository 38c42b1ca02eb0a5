use Rattle.std.proofs.Common.{◌≡◌, ◌<◌, Bool, List, length, drop, ap, ◌∙◌, arith}
use Rattle.aidl_schema.specs.declared.schema.Field.{Field}
use Rattle.aidl_schema.specs.Broken.{Break, Place, is_refused_addition, member, of_rule, parcelable_fields, places}
use Rattle.compat_judge.proofs.Adding.{adds_as}
use Rattle.compat_judge.proofs.Listing.{places_all}
use Rattle.compat_judge.proofs.Walk.{at_member}
use Rattle.compat_judge.proofs.shapes.at_additions.Goals as goal

pub loop-field-preserved : goal.loop-field-preserved
loop-field-preserved c =
    let lt : c.loop-field.field-index < length c.past-added.result.now = omega arith in
    at_member c.args.rule c.args.pair.now.before.now (λ g. g.name) (λ g. is_refused_addition c.args.pair.now.new.now.decls g) c.args.found.now c.past-added.result.now
    c.loop-field.found c.member_if.new.self c.loop-field.field-index c.field-item.result c.args.pair.now.name.now c.is_refused_addition-broken.result c.loop-field.invariant lt c.field-item.is c.args.pair.now.named
    c.is_refused_addition-broken.ensures c.member_if.ensures

pub returns : goal.returns
returns c =
    let at : c.loop-field.field-index ≡ length c.past-added.result.now = omega arith in
    let place : Field → Place = λ g. member c.args.pair.now.before.now g.name in
    let breaks : Field → Bool = λ g. is_refused_addition c.args.pair.now.new.now.decls g in
    let added : List Field → List Break = λ gs. of_rule c.args.rule (places place breaks gs) in
    adds_as (ap added c.past-added.ensures ∙ ap (λ fs. added (drop (length fs) c.parcelable_fields-news.result.now)) c.parcelable_fields-olds.ensures
    ∙ ap (λ gs. added (drop (length (parcelable_fields c.args.pair.now.before.now.kind)) gs)) c.parcelable_fields-news.ensures)
    (places_all c.args.rule place breaks c.args.found.now c.past-added.result.now c.loop-field.found c.loop-field.field-index c.loop-field.invariant at)
