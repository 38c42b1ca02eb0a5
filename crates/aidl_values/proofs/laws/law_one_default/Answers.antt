use Rattle.std.proofs.Common.{sym, subst}
use Rattle.aidl_values.specs.Default.{IsZero}
use Rattle.aidl_values.specs.View.{view}
use Rattle.aidl_values.proofs.lemmas.Sounds.{default_there, one_default}
use Rattle.aidl_values.proofs.laws.law_one_default.Goals as goal

pub returns : goal.returns
returns c =
    let S = c.args.schema.now.decls in
    let t = c.args.ty.now in
    let zero = (default_there S c.law_valid.ensures.declarations c.law_valid.ensures.sizes t c.requires).zero_of in
    record {
      there = zero;
      only = (λ is. one_default S c.law_valid.ensures.declarations c.law_valid.ensures.sizes t (view c.args.value.now) c.requires is, λ same. subst (λ v. IsZero S t v) (sym same) zero);
    }
