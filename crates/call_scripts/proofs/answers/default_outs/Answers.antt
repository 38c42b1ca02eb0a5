use Rattle.std.proofs.Common.{◌≡◌, [], ◌∷◌, ◌++◌, get_or, map, sym, ap, ◌∙◌, subst, arith}
use Rattle.std.proofs.lemmas.Grind.{common_steps}
use Rattle.aidl_schema.specs.Methods.{is_passed_type}
use Rattle.aidl_schema.specs.Types.{no_type}
use Rattle.aidl_values.specs.View.{view, views}
use Rattle.wire_model.specs.Requests.{EachFits}
use Rattle.call_scripts.proofs.Outs.{defaults_done, defaults_more, each_done, each_more}
use Rattle.call_scripts.proofs.Passed.{is_type_of, passes_at}
use Rattle.call_scripts.proofs.answers.default_outs.Goals as goal

pub default_from-requires : goal.default_from-requires
default_from-requires c =
    let S = c.args.schema.now.decls in
    is_type_of S (get_or c.args.types.now c.loop-k.k no_type) (passes_at (λ u. is_passed_type S u) c.args.types.now c.loop-k.k no_type c.loop-k-test.true c.requires)

pub loop-k-preserved : goal.loop-k-preserved
loop-k-preserved c =
    let S = c.args.schema.now.decls in
    let ts = c.args.types.now in
    let k = c.loop-k.k in
    let ds = map view c.loop-k.values.items in
    let v = view c.in_ok-value.value in
    let more : map view c.push.new.self.items ≡ ds ++ v ∷ [] = grind (arith, common_steps) in
    record {
      all = rw more (sym (defaults_more S ts k ds v c.loop-k-test.true c.in_ok-value.ensures.value) ∙ c.loop-k.invariant.all);
      fit = rw more (each_more S ts k ds v c.loop-k-test.true c.loop-k.invariant.fit c.in_ok-value.ensures.fits);
    }

pub returns-clause-value : goal.returns-clause-value
returns-clause-value c =
    ap views c.from_vec.ensures ∙ sym (defaults_done c.args.schema.now.decls c.args.types.now (map view c.loop-k.values.items) c.loop-k.k (omega arith)) ∙ c.loop-k.invariant.all

pub returns-clause-fits : goal.returns-clause-fits
returns-clause-fits c =
    let S = c.args.schema.now.decls in
    let ts = c.args.types.now in
    subst (λ vs. EachFits S ts (views vs)) (sym c.from_vec.ensures) (each_done S ts (map view c.loop-k.values.items) c.loop-k.k (omega arith) c.loop-k.invariant.fit)
