use Rattle.std.proofs.Common.{◌≡◌, ◌<◌, ◌+◌, [], ◌∷◌, ◌++◌, length, map, Ok, sym, ap, ◌∙◌, subst, arith}
use Rattle.std.proofs.lemmas.Grind.{common_steps}
use Rattle.aidl_values.specs.View.{view, views}
use Rattle.wire_model.specs.Requests.{ArgumentsFit, asked_length, sum_of_lengths}
use Rattle.call_scripts.proofs.Entries.{entries_more, entries_done, fit_more, fit_done, sum_more, sum_done}
use Rattle.call_scripts.proofs.arguments.entries_from.Goals as goal

pub loop-k-preserved : goal.loop-k-preserved
loop-k-preserved c =
    let S = c.args.schema.now.decls in
    let xs = c.args.args.now in
    let js = c.args.items.now in
    let k = c.loop-k.k in
    let sum = c.loop-k.sum in
    let ds = map view c.loop-k.values.items in
    let v = view c.in_ok-value.value in
    let a = c.index-args-k.result in
    let j = c.index-items-k.result in
    let old = c.loop-k.invariant in
    let entry = c.in_ok-value.ensures in
    let more : map view c.push.new.self.items ≡ ds ++ v ∷ [] = grind (arith, common_steps) in
    let asked : sum + c.asked_length-sum.result ≡ sum + asked_length a v = ap (λ n. sum + n) c.asked_length-sum.ensures in
    let short : k < length xs = c.loop-k-test.true in
    let short_js : k < length js = omega (arith, old.same) in
    record {
      same = old.same;
      few = rw asked entry.few;
      all = rw (more, asked) (sym (entries_more S xs js k a j ds sum short short_js (sym c.index-args-k.is) (sym c.index-items-k.is) v entry.gives) ∙ old.all);
      fit = rw more (fit_more S xs js k a j ds sum short short_js (sym c.index-args-k.is) (sym c.index-items-k.is) v old.fit entry.fits);
      sums = rw (more, asked) (sum_more S xs js k a j ds sum short short_js (sym c.index-args-k.is) (sym c.index-items-k.is) v old.sums);
    }

pub returns-clause-gives : goal.returns-clause-gives
returns-clause-gives c =
    sym c.loop-k.invariant.all ∙ entries_done c.args.schema.now.decls c.args.args.now c.args.items.now c.loop-k.k (map view c.loop-k.values.items) c.loop-k.sum (omega arith)
    ∙ ap (λ vs. Ok (views vs)) (sym c.from_vec.ensures)

pub returns-clause-fit : goal.returns-clause-fit
returns-clause-fit c =
    let S = c.args.schema.now.decls in
    let xs = c.args.args.now in
    subst (λ vs. ArgumentsFit S xs (views vs)) (sym c.from_vec.ensures) (fit_done S xs c.args.items.now c.loop-k.k (map view c.loop-k.values.items) (omega arith) c.loop-k.invariant.fit)

pub returns-clause-few : goal.returns-clause-few
returns-clause-few c =
    let xs = c.args.args.now in
    let all = sum_done c.args.schema.now.decls xs c.args.items.now c.loop-k.k (map view c.loop-k.values.items) c.loop-k.sum (omega arith) c.loop-k.invariant.sums in
    let same = ap (λ vs. sum_of_lengths xs (views vs)) c.from_vec.ensures in
    let few = c.loop-k.invariant.few in
    omega (arith, all, same, few)
