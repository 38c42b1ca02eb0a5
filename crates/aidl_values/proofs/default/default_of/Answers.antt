use Rattle.std.proofs.Common.{◌≡◌, sym, subst}
use Rattle.std.proofs.lemmas.Result.{IfOk-weaker}
use Rattle.aidl_values.specs.Default.{IsZero, zero_within}
use Rattle.aidl_values.specs.View.{view}
use Rattle.aidl_values.proofs.lemmas.Sounds.{default_there}
use Rattle.aidl_values.proofs.default.default_of.Goals as goal

pub returns-clause-zero : goal.returns-clause-zero
returns-clause-zero c =
    let S = c.args.schema.now.decls in
    let t = c.args.ty.now in
    let there = (default_there S c.law_valid.ensures.declarations c.law_valid.ensures.sizes t c.requires).zero_of in
    IfOk-weaker c.default_within.result (λ v. view v ≡ zero_within 33 S t) (λ v. IsZero S t (view v))
    (λ v is. subst (λ x. IsZero S t x) (sym is) there) c.default_within.ensures
