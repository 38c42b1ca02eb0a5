use Rattle.std.proofs.Common.{◌≡◌, sym, subst, refl, ◌∙◌}
use Rattle.std.proofs.lemmas.Result.{IfOk-weaker}
use Rattle.aidl_values.specs.Default.{IsInitial, zero_within}
use Rattle.aidl_values.specs.Sound.{IsFieldOf, initial_in}
use Rattle.aidl_values.specs.View.{view}
use Rattle.aidl_values.proofs.lemmas.Sounds.{has_default}
use Rattle.aidl_values.proofs.default.initial_of.Goals as goal

pub returns-in-None-clause-initial : goal.returns-in-None-clause-initial
returns-in-None-clause-initial c =
    let S = c.args.schema.now.decls in
    let f = c.args.field.now in
    IfOk-weaker c.default_within.result (λ v. view v ≡ zero_within 33 S f.ty) (λ v. IsFieldOf S f → IsInitial S f (view v))
    (λ v is of.
    let same : initial_in S f ≡ zero_within 33 S f.ty = rw c.in-None.is refl in
    subst (λ x. IsInitial S f x) (same ∙ sym is) (has_default S c.law_valid.ensures.declarations c.law_valid.ensures.sizes f of).0)
    c.default_within.ensures
