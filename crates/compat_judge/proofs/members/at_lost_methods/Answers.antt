use Rattle.std.proofs.Common.{◌≡◌, ◌<◌, not, true, map, length, sym, ap, ◌∙◌, arith}
use Rattle.std.specs.List.{find}
use Rattle.std.specs.Option.{option_copied}
use Rattle.aidl_schema.specs.Broken.{is_kept, is_there_and, member, of_rule, places, same_method}
use Rattle.aidl_schema.specs.Names.{methods_of}
use Rattle.compat_judge.proofs.Adding.{adds_as}
use Rattle.compat_judge.proofs.Listing.{places_all}
use Rattle.compat_judge.proofs.Walk.{at_member, beside_at, copied_some, there_is}
use Rattle.compat_judge.proofs.members.at_lost_methods.Goals as goal

pub loop-i-preserved : goal.loop-i-preserved
loop-i-preserved c =
    let olds = c.methods_of-olds.result.now in
    let news = methods_of c.args.pair.now.after.now.kind in
    let m = c.index-olds-i.result in
    let lt : c.loop-i.i < length olds = omega arith in
    let all : map option_copied c.args.afters.now ≡ map (λ m. find (λ w. same_method m w) news) olds =
    c.requires ∙ ap (map (λ m. find (λ w. same_method m w) news)) (sym c.methods_of-olds.ensures) in
    let here = beside_at option_copied (λ m. find (λ w. same_method m w) news) c.args.afters.now olds c.loop-i.i c.index-afters-i.result m all lt c.index-afters-i.is c.index-olds-i.is in
    let kept : c.is_some-kept.result ≡ is_kept same_method (λ x y. true) news m =
    c.is_some-kept.ensures ∙ sym (copied_some c.index-afters-i.result) ∙ sym (there_is (option_copied c.index-afters-i.result)) ∙ ap (is_there_and (λ y. true)) here in
    at_member c.args.rule c.args.pair.now.before.now (λ m. m.name) (λ m. not (is_kept same_method (λ x y. true) news m)) c.args.found.now olds
    c.loop-i.found c.member_if.new.self c.loop-i.i m c.args.pair.now.name.now (not c.is_some-kept.result) c.loop-i.invariant lt c.index-olds-i.is c.args.pair.now.named (ap not kept) c.member_if.ensures

pub returns : goal.returns
returns c =
    let d = c.args.pair.now.before.now in
    let news = methods_of c.args.pair.now.after.now.kind in
    let at : c.loop-i.i ≡ length c.methods_of-olds.result.now = omega arith in
    adds_as (ap (λ ms. of_rule c.args.rule (places (λ m. member d m.name) (λ m. not (is_kept same_method (λ x y. true) news m)) ms)) c.methods_of-olds.ensures)
    (places_all c.args.rule (λ m. member d m.name) (λ m. not (is_kept same_method (λ x y. true) news m)) c.args.found.now c.methods_of-olds.result.now c.loop-i.found c.loop-i.i c.loop-i.invariant at)
