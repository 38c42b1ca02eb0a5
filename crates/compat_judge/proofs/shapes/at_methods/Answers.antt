use Rattle.std.proofs.Common.{◌≡◌, ◌<◌, Bool, List, Option, map, length, sym, ap, ◌∙◌, arith}
use Rattle.std.specs.List.{find, flat_map}
use Rattle.std.specs.Option.{option_copied}
use Rattle.aidl_schema.specs.declared.schema.Method.{Method}
use Rattle.aidl_schema.specs.Broken.{Break, Place, is_there_and, member, of_rule, places, same_method, with_found}
use Rattle.aidl_schema.specs.Names.{methods_of}
use Rattle.compat_judge.specs.steps.Steps.{break_if}
use Rattle.compat_judge.specs.steps.Tests.{method_breaks}
use Rattle.compat_judge.proofs.Adding.{adds_as}
use Rattle.compat_judge.proofs.Listing.{added_all, beside_listed}
use Rattle.compat_judge.proofs.Walk.{at_member, beside_at}
use Rattle.compat_judge.proofs.shapes.at_methods.Goals as goal

pub loop-i-preserved : goal.loop-i-preserved
loop-i-preserved c =
    let olds = c.methods_of-olds.result.now in
    let news = methods_of c.args.pair.now.after.now.kind in
    let m = c.index-olds-i.result in
    let lt : c.loop-i.i < length olds = omega arith in
    let all : map option_copied c.args.afters.now ≡ map (λ m. find (λ w. same_method m w) news) olds =
    c.requires ∙ ap (map (λ m. find (λ w. same_method m w) news)) (sym c.methods_of-olds.ensures) in
    let here = beside_at option_copied (λ m. find (λ w. same_method m w) news) c.args.afters.now olds c.loop-i.i c.index-afters-i.result m all lt c.index-afters-i.is c.index-olds-i.is in
    at_member c.args.rule c.args.pair.now.before.now (λ m. m.name) (λ m. is_there_and (method_breaks c.args.test c.args.pair.now.old.now.decls c.args.pair.now.new.now.decls m) (find (λ w. same_method m w) news)) c.args.found.now olds
    c.loop-i.found c.member_if.new.self c.loop-i.i m c.args.pair.now.name.now c.method_breaks-broken.result c.loop-i.invariant lt c.index-olds-i.is c.args.pair.now.named
    (c.method_breaks-broken.ensures ∙ ap (is_there_and (method_breaks c.args.test c.args.pair.now.old.now.decls c.args.pair.now.new.now.decls m)) here) c.member_if.ensures

pub returns : goal.returns
returns c =
    let olds = c.methods_of-olds.result.now in
    let at : c.loop-i.i ≡ length olds = omega arith in
    let other : Method → Option Method = λ m. find (λ w. same_method m w) (methods_of c.args.pair.now.after.now.kind) in
    let place : Method → Place = λ m. member c.args.pair.now.before.now m.name in
    let breaks : Method → Method → Bool = method_breaks c.args.test c.args.pair.now.old.now.decls c.args.pair.now.new.now.decls in
    let told : List Method → List Break = λ ms. of_rule c.args.rule (places (λ p. place p.0) (λ p. breaks p.0 p.1) (flat_map (λ m. with_found m (other m)) ms)) in
    adds_as (sym (beside_listed c.args.rule place breaks other olds) ∙ ap told c.methods_of-olds.ensures)
    (added_all (break_if c.args.rule place (λ m. is_there_and (breaks m) (other m))) c.args.found.now olds c.loop-i.found c.loop-i.i c.loop-i.invariant at)
