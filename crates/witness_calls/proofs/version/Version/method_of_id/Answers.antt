use Rattle.std.proofs.Common.{◌≡◌, ◌+◌, ◌≤◌, Some, length, sym, ap, subst, arith}
use Rattle.std.specs.Prelude.{◌==◌}
use Rattle.aidl_base.proofs.lemmas.Lists.{position_within}
use Rattle.aidl_schema.proofs.lemmas.Counts.{few_methods}
use Rattle.aidl_schema.specs.Find.{methods_at, methods_of_decl, position_of_code}
use Rattle.aidl_schema.specs.Holds.{AllHold}
use Rattle.witness_calls.proofs.version.Version.method_of_id.Goals as goal

pub overflow_cast-result : goal.overflow_cast-result
overflow_cast-result c =
    let self = c.args.self.now in
    let ms = methods_at self c.args.interface in
    let is = subst (λ ws. position_of_code ws (c.args.id + 1) ≡ Some c.in-Some.position) (ap methods_of_decl c.in_ok-decl.ensures) (sym c.in-Some.ensures) in
    let within = position_within (λ w. w.id + 1 == c.args.id + 1) ms c.in-Some.position is in
    let few : length ms ≤ 4096 = few_methods self (subst AllHold c.schema.ensures c.law_valid.ensures.declarations) c.args.interface in
    omega arith
