use Rattle.std.proofs.Common.{◌≡◌, ℕ, ◌+◌, ◌<◌, Bool, length, get_or, subst, ap, ◌∙◌, arith}
use Rattle.std.specs.List.{enumerate_from, zip}
use Rattle.aidl_schema.specs.declared.schema.Arg.{Arg}
use Rattle.aidl_schema.specs.Broken.{Place, argument, of_rule, places}
use Rattle.compat_judge.specs.steps.Tests.{argument_breaks}
use Rattle.compat_judge.proofs.Adding.{adds_as}
use Rattle.compat_judge.proofs.Listing.{places_all}
use Rattle.compat_judge.proofs.Walk.{at_argument, numbered_at, numbered_length, zip_at, zip_length}
use Rattle.compat_judge.proofs.shapes.at_arguments_of.Goals as goal

pub loop-i-preserved : goal.loop-i-preserved
loop-i-preserved c =
    let xs = c.as_slice-olds.result.now in
    let ys = c.as_slice-news.result.now in
    let pairs = zip xs ys in
    let all = enumerate_from 0 pairs in
    let len = zip_length xs ys in
    let whole = numbered_length 0 pairs in
    let short : c.loop-i.i < length pairs = omega (arith, len) in
    let lt : c.loop-i.i < length all = omega (arith, whole) in
    let a = c.index-olds-i.result in
    let b = c.index-news-i.result in
    let here = zip_at xs ys c.loop-i.i a b (omega arith) (omega arith) c.index-olds-i.is c.index-news-i.is in
    let plain : 0 + c.loop-i.i ≡ c.loop-i.i = omega arith in
    let at = subst (λ (n : ℕ). (n, (a, b)) ≡ get_or all c.loop-i.i (n, (a, b))) plain (numbered_at 0 pairs c.loop-i.i (a, b) short here) in
    at_argument c.args.rule c.args.pair.now.before.now c.args.before.now.name (λ p. argument_breaks c.args.test c.args.pair.now.old.now.decls c.args.pair.now.new.now.decls p.1.0 p.1.1) c.args.found.now all
    c.loop-i.found c.argument_if.new.self c.loop-i.i (c.loop-i.i, (a, b)) c.args.pair.now.name.now c.argument_breaks-broken.result c.loop-i.invariant lt at c.args.pair.now.named c.argument_breaks-broken.ensures c.argument_if.ensures

pub returns : goal.returns
returns c =
    let xs = c.as_slice-olds.result.now in
    let ys = c.as_slice-news.result.now in
    let len = zip_length xs ys in
    let whole = numbered_length 0 (zip xs ys) in
    let at : c.loop-i.i ≡ length (enumerate_from 0 (zip xs ys)) = omega (arith, len, whole) in
    let breaks : ℕ × (Arg × Arg) → Bool = λ p. argument_breaks c.args.test c.args.pair.now.old.now.decls c.args.pair.now.new.now.decls p.1.0 p.1.1 in
    let place : ℕ × (Arg × Arg) → Place = λ p. argument c.args.pair.now.before.now c.args.before.now.name p.0 in
    rw c.in-Some.is (adds_as (ap (λ zs. of_rule c.args.rule (places place breaks (enumerate_from 0 (zip zs ys)))) c.as_slice-olds.ensures
    ∙ ap (λ zs. of_rule c.args.rule (places place breaks (enumerate_from 0 (zip c.args.before.now.args zs)))) c.as_slice-news.ensures)
    (places_all c.args.rule place breaks c.args.found.now (enumerate_from 0 (zip xs ys)) c.loop-i.found c.loop-i.i c.loop-i.invariant at))
