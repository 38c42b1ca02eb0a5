use Rattle.std.proofs.Common.{◌≡◌, ◌<◌, Bool, List, not, map, length, ap, ◌∙◌, arith}
use Rattle.std.specs.Ordering.{int_eq}
use Rattle.aidl_schema.specs.declared.schema.Enumerator.{Enumerator}
use Rattle.aidl_schema.specs.Broken.{Break, is_kept, is_there_and, member, of_rule, places, same_enumerator}
use Rattle.aidl_schema.specs.Names.{enumerators_of}
use Rattle.std.specs.List.{find}
use Rattle.std.specs.Option.{option_copied}
use Rattle.compat_judge.specs.steps.Steps.{all_named}
use Rattle.compat_judge.proofs.Adding.{adds_as}
use Rattle.compat_judge.proofs.Listing.{places_all}
use Rattle.compat_judge.proofs.Walk.{at_member, beside_at}
use Rattle.compat_judge.proofs.members.at_lost_enumerators.Goals as goal

pub loop-i-preserved : goal.loop-i-preserved
loop-i-preserved c =
    let xs = c.enumerators_of-olds.result.now in
    let ys = enumerators_of c.args.pair.now.after.now.kind in
    let x = c.index-olds-i.result in
    let keeps : Enumerator → Enumerator → Bool = (λ x y. int_eq x.value y.value) in
    let lt : c.loop-i.i < length xs = omega arith in
    let all : map option_copied c.in-Ok.afters.items ≡ all_named (λ x. x.name.0) xs ys = c.in-Ok.ensures ∙ ap (all_named (λ x. x.name.0) xs) c.enumerators_of-news.ensures in
    let kept : c.is_enumerator_kept-kept.result ≡ is_kept same_enumerator keeps ys x =
    c.is_enumerator_kept-kept.ensures ∙ ap (is_there_and (λ y. keeps x y)) (beside_at option_copied (λ x. find (λ y. same_enumerator x y) ys) c.in-Ok.afters.items xs c.loop-i.i c.index.result.now x all lt c.index.ensures c.index-olds-i.is) in
    at_member c.args.rule c.args.pair.now.before.now (λ x. x.name) (λ x. not (is_kept same_enumerator keeps ys x)) c.args.found.now xs
    c.loop-i.found c.member_if.new.self c.loop-i.i x c.args.pair.now.name.now (not c.is_enumerator_kept-kept.result) c.loop-i.invariant lt c.index-olds-i.is c.args.pair.now.named (ap not kept) c.member_if.ensures

pub returns : goal.returns
returns c =
    let keeps : Enumerator → Enumerator → Bool = (λ x y. int_eq x.value y.value) in
    let lost : List Enumerator → List Enumerator → List Break = λ xs ys. of_rule c.args.rule (places (λ x. member c.args.pair.now.before.now x.name) (λ x. not (is_kept same_enumerator keeps ys x)) xs) in
    let at : c.loop-i.i ≡ length c.enumerators_of-olds.result.now = omega arith in
    adds_as (ap (λ xs. lost xs (enumerators_of c.args.pair.now.after.now.kind)) c.enumerators_of-olds.ensures)
    (places_all c.args.rule (λ x. member c.args.pair.now.before.now x.name) (λ x. not (is_kept same_enumerator keeps (enumerators_of c.args.pair.now.after.now.kind) x)) c.args.found.now c.enumerators_of-olds.result.now c.loop-i.found c.loop-i.i c.loop-i.invariant at)
