use Rattle.std.proofs.Common.{◌≡◌, ◌<◌, [], ◌∷◌, ◌++◌, length, map, Ok, sym, ap, ◌∙◌, subst, arith}
use Rattle.std.proofs.lemmas.Grind.{common_steps}
use Rattle.aidl_values.specs.View.{view, views}
use Rattle.wire_model.specs.Requests.{EachFits}
use Rattle.call_scripts.proofs.Outs.{each_done, each_more, values_done, values_more}
use Rattle.call_scripts.proofs.answers.values_from.Goals as goal

pub loop-k-preserved : goal.loop-k-preserved
loop-k-preserved c =
    let S = c.args.schema.now.decls in
    let ts = c.args.types.now in
    let js = c.args.items.now in
    let k = c.loop-k.k in
    let ds = map view c.loop-k.values.items in
    let v = view c.in_ok-value.value in
    let old = c.loop-k.invariant in
    let short : k < length ts = c.loop-k-test.true in
    let short_js : k < length js = omega (arith, old.same) in
    let more : map view c.push.new.self.items ≡ ds ++ v ∷ [] = grind (arith, common_steps) in
    record {
      same = old.same;
      all = rw more (sym (values_more S ts js k c.index-items-k.result ds short short_js (sym c.index-items-k.is) v c.in_ok-value.ensures.gives) ∙ old.all);
      fit = rw more (each_more S ts k ds v short old.fit c.in_ok-value.ensures.fits);
    }

pub returns-clause-gives : goal.returns-clause-gives
returns-clause-gives c =
    sym c.loop-k.invariant.all ∙ values_done c.args.schema.now.decls c.args.types.now c.args.items.now (map view c.loop-k.values.items) c.loop-k.k (omega arith)
    ∙ ap (λ vs. Ok (views vs)) (sym c.from_vec.ensures)

pub returns-clause-fits : goal.returns-clause-fits
returns-clause-fits c =
    let S = c.args.schema.now.decls in
    let ts = c.args.types.now in
    subst (λ vs. EachFits S ts (views vs)) (sym c.from_vec.ensures) (each_done S ts (map view c.loop-k.values.items) c.loop-k.k (omega arith) c.loop-k.invariant.fit)
