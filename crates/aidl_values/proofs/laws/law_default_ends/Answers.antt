use Rattle.aidl_values.proofs.Ended.{there}
use Rattle.aidl_values.proofs.lemmas.OneZero.{same_zero}
use Rattle.aidl_values.proofs.laws.law_default_ends.Goals as goal

pub returns : goal.returns
returns c =
    let S = c.args.decls.now in
    record { there = λ types n is free. there S types n is free; only = λ t v w is this. same_zero S t v w is this }
