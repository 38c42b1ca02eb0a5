use Rattle.std.proofs.Common.{◌≡◌, ◌<◌, ◌&&◌, Bool, List, not, map, length, ap, ◌∙◌, arith}
use Rattle.std.specs.Prelude.{◌==◌}
use Rattle.aidl_schema.specs.declared.schema.Constant.{Constant}
use Rattle.aidl_schema.specs.Same.{base_code}
use Rattle.aidl_schema.specs.Broken.{Break, is_kept, is_there_and, member, of_rule, places, same_constant, same_const}
use Rattle.std.specs.List.{find}
use Rattle.std.specs.Option.{option_copied}
use Rattle.compat_judge.specs.steps.Steps.{all_named}
use Rattle.compat_judge.proofs.Adding.{adds_as}
use Rattle.compat_judge.proofs.Listing.{places_all}
use Rattle.compat_judge.proofs.Walk.{at_member, beside_at}
use Rattle.compat_judge.proofs.members.at_lost_constants.Goals as goal

pub loop-i-preserved : goal.loop-i-preserved
loop-i-preserved c =
    let xs = c.as_slice-olds.result.now in
    let ys = c.args.pair.now.after.now.constants in
    let x = c.index-olds-i.result in
    let keeps : Constant → Constant → Bool = (λ c k. (base_code c.ty == base_code k.ty) && same_const c.value k.value) in
    let lt : c.loop-i.i < length xs = omega arith in
    let all : map option_copied c.in-Ok.afters.items ≡ all_named (λ x. x.name.0) xs ys = c.in-Ok.ensures ∙ ap (all_named (λ x. x.name.0) xs) c.as_slice-news.ensures in
    let kept : c.is_constant_kept-kept.result ≡ is_kept same_constant keeps ys x =
    c.is_constant_kept-kept.ensures ∙ ap (is_there_and (λ y. keeps x y)) (beside_at option_copied (λ x. find (λ y. same_constant x y) ys) c.in-Ok.afters.items xs c.loop-i.i c.index.result.now x all lt c.index.ensures c.index-olds-i.is) in
    at_member c.args.rule c.args.pair.now.before.now (λ x. x.name) (λ x. not (is_kept same_constant keeps ys x)) c.args.found.now xs
    c.loop-i.found c.member_if.new.self c.loop-i.i x c.args.pair.now.name.now (not c.is_constant_kept-kept.result) c.loop-i.invariant lt c.index-olds-i.is c.args.pair.now.named (ap not kept) c.member_if.ensures

pub returns : goal.returns
returns c =
    let keeps : Constant → Constant → Bool = (λ c k. (base_code c.ty == base_code k.ty) && same_const c.value k.value) in
    let lost : List Constant → List Constant → List Break = λ xs ys. of_rule c.args.rule (places (λ x. member c.args.pair.now.before.now x.name) (λ x. not (is_kept same_constant keeps ys x)) xs) in
    let at : c.loop-i.i ≡ length c.as_slice-olds.result.now = omega arith in
    adds_as (ap (λ xs. lost xs (c.args.pair.now.after.now.constants)) c.as_slice-olds.ensures)
    (places_all c.args.rule (λ x. member c.args.pair.now.before.now x.name) (λ x. not (is_kept same_constant keeps (c.args.pair.now.after.now.constants) x)) c.args.found.now c.as_slice-olds.result.now c.loop-i.found c.loop-i.i c.loop-i.invariant at)
