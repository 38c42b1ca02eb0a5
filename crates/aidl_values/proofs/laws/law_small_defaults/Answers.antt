use Rattle.std.proofs.Common.{◌≤◌, sym, subst}
use Rattle.aidl_values.specs.Nodes.{nodes_of}
use Rattle.aidl_values.proofs.lemmas.Sounds.{default_fits, one_default}
use Rattle.aidl_values.proofs.laws.law_small_defaults.Goals as goal

pub returns : goal.returns
returns c =
    let S = c.args.schema.now.decls in
    let hold = c.law_valid.ensures.declarations in
    let sizes = c.law_valid.ensures.sizes in
    λ t v type zero. subst (λ w. nodes_of w ≤ 512) (sym (one_default S hold sizes t v type zero)) (default_fits S hold sizes t type).small
