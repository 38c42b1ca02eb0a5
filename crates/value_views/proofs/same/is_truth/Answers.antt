use Rattle.std.proofs.Common.{◌∙◌}
use Rattle.aidl_values.specs.Data.{truth}
use Rattle.aidl_values.specs.View.{view}
use Rattle.value_views.proofs.Forms.{no_truth}
use Rattle.value_views.proofs.Sames.{turned}
use Rattle.value_views.proofs.same.is_truth.Goals as goal

pub returns-in_default : goal.returns-in_default
returns-in_default c =
    let other = no_truth c.args.value.now c.args.expected c.in_default.not-Truth in
    record { is = other ∙ turned (truth c.args.expected) (view c.args.value.now); turned = other }
