use Rattle.std.proofs.Common.{◌≡◌, [], ◌∷◌, ◌++◌, ap, decimal, map, take, sym, ◌∙◌, arith, rules}
use Rattle.std.proofs.lemmas.Grind.{common_steps}
use Rattle.std.proofs.lemmas.List.{take_more}
use Rattle.aidl_schema.specs.Types.{no_type}
use Rattle.aidl_values.specs.View.{view}
use Rattle.json_values.specs.Refusal.{within}
use Rattle.parcel_commands.proofs.ReadValues.{typed_more, values_more}
use Rattle.parcel_commands.proofs.json_file.values_from.Goals as goal

pub loop-i-preserved : goal.loop-i-preserved
loop-i-preserved c =
    let S = c.args.schema.now.decls in
    let ts = c.args.types.now in
    let k = c.loop-i.i in
    let ds = map view c.loop-i.values.items in
    let v = view c.in-Ok.value in
    let more : map view c.push.new.self.items ≡ ds ++ v ∷ [] = grind (arith, common_steps) in
    let value = c.in-Ok.ensures in
    record {
      same = c.loop-i.invariant.same;
      typed = rw (more, take_more ts k no_type c.loop-i-test.true) (typed_more S (take k ts) _ ds v c.loop-i.invariant.typed value.fits);
      all = rw more (sym (values_more S ts c.args.items.now k no_type c.index-items-i.result ds v c.loop-i-test.true (omega arith) (search rules) (ap (within (decimal k)) value.ok)) ∙ c.loop-i.invariant.all);
    }
