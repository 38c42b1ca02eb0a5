use Rattle.std.proofs.Common.{◌≤◌, length, sym, subst, arith}
use Rattle.aidl_base.proofs.lemmas.Lists.{position_within}
use Rattle.aidl_schema.proofs.lemmas.Counts.{few_methods}
use Rattle.meta_calls.specs.Reserved.{is_reserved}
use Rattle.meta_calls.proofs.reserved.reserved_method.Goals as goal

pub overflow_cast-result : goal.overflow_cast-result
overflow_cast-result c =
    let within = position_within is_reserved c.methods_at.result.now c.in-Some.position (sym c.in-Some.ensures) in
    let few : length c.methods_at.result.now ≤ 4096 = subst (λ ms. length ms ≤ 4096) (sym c.methods_at.ensures) (few_methods c.args.schema.now.decls c.law_valid.ensures.declarations c.args.interface) in
    omega arith
