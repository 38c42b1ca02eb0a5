use Rattle.std.proofs.Common.{◌≡◌, ◌<◌, Bool, length, ap, ◌∙◌, arith}
use Rattle.std.specs.List.{zip}
use Rattle.aidl_schema.specs.declared.schema.Field.{Field}
use Rattle.aidl_schema.specs.Broken.{Place, member, of_rule, places}
use Rattle.compat_judge.specs.steps.Tests.{field_breaks, fields_asked}
use Rattle.compat_judge.proofs.Adding.{adds_as}
use Rattle.compat_judge.proofs.Listing.{places_all}
use Rattle.compat_judge.proofs.Walk.{at_member, zip_at, zip_length}
use Rattle.compat_judge.proofs.shapes.at_fields.Goals as goal

pub loop-i-preserved : goal.loop-i-preserved
loop-i-preserved c =
    let fs = c.fields_asked-olds.result.now in
    let gs = c.fields_asked-news.result.now in
    let len = zip_length fs gs in
    let lt : c.loop-i.i < length (zip fs gs) = omega (arith, len) in
    let f = c.index-olds-i.result in
    let g = c.index-news-i.result in
    at_member c.args.rule c.args.pair.now.before.now (λ p. p.0.name) (λ p. field_breaks c.args.test c.args.pair.now.old.now.decls c.args.pair.now.new.now.decls p.0 p.1) c.args.found.now (zip fs gs)
    c.loop-i.found c.member_if.new.self c.loop-i.i (f, g) c.args.pair.now.name.now c.field_breaks-broken.result c.loop-i.invariant lt
    (zip_at fs gs c.loop-i.i f g (omega arith) (omega arith) c.index-olds-i.is c.index-news-i.is) c.args.pair.now.named c.field_breaks-broken.ensures c.member_if.ensures

pub returns : goal.returns
returns c =
    let fs = c.fields_asked-olds.result.now in
    let gs = c.fields_asked-news.result.now in
    let len = zip_length fs gs in
    let at : c.loop-i.i ≡ length (zip fs gs) = omega (arith, len) in
    let place : Field × Field → Place = λ p. member c.args.pair.now.before.now p.0.name in
    let breaks : Field × Field → Bool = λ p. field_breaks c.args.test c.args.pair.now.old.now.decls c.args.pair.now.new.now.decls p.0 p.1 in
    adds_as (ap (λ hs. of_rule c.args.rule (places place breaks (zip hs gs))) c.fields_asked-olds.ensures
    ∙ ap (λ hs. of_rule c.args.rule (places place breaks (zip (fields_asked c.args.test c.args.pair.now.before.now.kind) hs))) c.fields_asked-news.ensures)
    (places_all c.args.rule place breaks c.args.found.now (zip fs gs) c.loop-i.found c.loop-i.i c.loop-i.invariant at)
