use Rattle.std.proofs.Common.{◌≡◌, ◌<◌, List, Option, map, length, sym, ap, ◌∙◌, arith}
use Rattle.std.specs.List.{find, flat_map}
use Rattle.std.specs.Option.{option_copied}
use Rattle.aidl_schema.specs.declared.schema.Method.{Method}
use Rattle.aidl_schema.specs.Broken.{Break, Place, if_found, of_rule, same_method, with_found}
use Rattle.aidl_schema.specs.Names.{methods_of}
use Rattle.compat_judge.specs.steps.Shapes.{in_arguments_of}
use Rattle.compat_judge.proofs.Adding.{adds_as}
use Rattle.compat_judge.proofs.Listing.{added_all, added_more, beside_flat, of_rule-flat}
use Rattle.compat_judge.proofs.Walk.{beside_at}
use Rattle.compat_judge.proofs.shapes.at_arguments.Goals as goal

pub loop-i-preserved : goal.loop-i-preserved
loop-i-preserved c =
    let olds = c.methods_of-olds.result.now in
    let news = methods_of c.args.pair.now.after.now.kind in
    let m = c.index-olds-i.result in
    let lt : c.loop-i.i < length olds = omega arith in
    let all : map option_copied c.args.afters.now ≡ map (λ m. find (λ w. same_method m w) news) olds =
    c.requires ∙ ap (map (λ m. find (λ w. same_method m w) news)) (sym c.methods_of-olds.ensures) in
    let here = beside_at option_copied (λ m. find (λ w. same_method m w) news) c.args.afters.now olds c.loop-i.i c.index-afters-i.result m all lt c.index-afters-i.is c.index-olds-i.is in
    added_more (λ m. of_rule c.args.rule (if_found (in_arguments_of c.args.test c.args.pair.now m) (find (λ w. same_method m w) news))) c.args.found.now olds
    c.loop-i.found c.at_arguments_of.new.found c.loop-i.i m c.loop-i.invariant lt c.index-olds-i.is
    (adds_as (ap (λ o. of_rule c.args.rule (if_found (in_arguments_of c.args.test c.args.pair.now m) o)) here) c.at_arguments_of.ensures)

pub returns : goal.returns
returns c =
    let olds = c.methods_of-olds.result.now in
    let at : c.loop-i.i ≡ length olds = omega arith in
    let other : Method → Option Method = λ m. find (λ w. same_method m w) (methods_of c.args.pair.now.after.now.kind) in
    let each : Method → Method → List Place = in_arguments_of c.args.test c.args.pair.now in
    let told : List Method → List Break = λ ms. of_rule c.args.rule (flat_map (λ p. each p.0 p.1) (flat_map (λ m. with_found m (other m)) ms)) in
    adds_as (sym (of_rule-flat c.args.rule (λ m. if_found (each m) (other m)) olds) ∙ ap (of_rule c.args.rule) (sym (beside_flat each other olds)) ∙ ap told c.methods_of-olds.ensures)
    (added_all (λ m. of_rule c.args.rule (if_found (each m) (other m))) c.args.found.now olds c.loop-i.found c.loop-i.i c.loop-i.invariant at)
