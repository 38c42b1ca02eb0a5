use Rattle.std.proofs.Common.{◌≡◌, IfOk, sym, subst}
use Rattle.aidl_values.specs.View.{view}
use Rattle.aidl_values.proofs.lemmas.Levels.{zero_within-parts}
use Rattle.aidl_values.proofs.default.+default.Goals as goal

pub default_within-returns : goal.default_within-returns
default_within-returns t c =
    subst (λ d. IfOk c.default_by.result (λ v. view v ≡ d)) (sym (zero_within-parts c.args.schema.now.decls c.args.levels c.args.ty)) c.default_by.ensures
