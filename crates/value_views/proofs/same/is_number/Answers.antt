use Rattle.std.proofs.Common.{◌∙◌}
use Rattle.aidl_values.specs.Data.{number}
use Rattle.aidl_values.specs.View.{view}
use Rattle.value_views.proofs.Forms.{no_number}
use Rattle.value_views.proofs.Sames.{turned}
use Rattle.value_views.proofs.same.is_number.Goals as goal

pub returns-in_default : goal.returns-in_default
returns-in_default c =
    let other = no_number c.args.value.now c.args.expected c.in_default.not-Number in
    record { is = other ∙ turned (number c.args.expected) (view c.args.value.now); turned = other }
