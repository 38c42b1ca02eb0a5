use Rattle.std.proofs.Common.{◌+◌, ◌≤◌, length, sym, subst, arith}
use Rattle.std.specs.Prelude.{◌==◌}
use Rattle.aidl_base.proofs.lemmas.Lists.{position_within}
use Rattle.aidl_schema.proofs.lemmas.Counts.{few_methods}
use Rattle.aidl_schema.proofs.finding.method_of_code.Goals as goal

pub overflow_cast-result : goal.overflow_cast-result
overflow_cast-result c =
    let within = position_within (λ m. m.id + 1 == c.args.code) c.methods_at.result.now c.in-Some.i (sym c.in-Some.ensures) in
    let few : length c.methods_at.result.now ≤ 4096 = subst (λ ms. length ms ≤ 4096) (sym c.methods_at.ensures) (few_methods c.args.schema.now.decls c.law_valid.ensures.declarations c.args.interface) in
    omega arith
