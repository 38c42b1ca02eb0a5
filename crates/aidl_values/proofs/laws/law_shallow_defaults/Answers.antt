use Rattle.std.proofs.Common.{◌≤◌, sym, subst}
use Rattle.aidl_values.specs.Data.{depth_of}
use Rattle.aidl_values.proofs.lemmas.Sounds.{default_fits, one_default}
use Rattle.aidl_values.proofs.laws.law_shallow_defaults.Goals as goal

pub returns : goal.returns
returns c =
    let S = c.args.schema.now.decls in
    let hold = c.law_valid.ensures.declarations in
    let sizes = c.law_valid.ensures.sizes in
    λ t v type zero. subst (λ w. depth_of w ≤ 32) (sym (one_default S hold sizes t v type zero)) (default_fits S hold sizes t type).shallow
