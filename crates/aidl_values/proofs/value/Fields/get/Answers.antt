use Rattle.std.proofs.Common.{slice_get, sym, ap, ◌∙◌}
use Rattle.std.specs.Option.{option_map}
use Rattle.std.proofs.lemmas.Option.{slice_get-map}
use Rattle.aidl_values.specs.View.{view, field_datas}
use Rattle.aidl_values.proofs.lemmas.Views.{fields_whole}
use Rattle.aidl_values.proofs.value.Fields.get.Goals as goal

pub returns-in-Whole : goal.returns-in-Whole
returns-in-Whole c =
    let vs = c.in-Whole.values in
    ap (λ fs. slice_get (field_datas fs) c.args.i) c.in-Whole.is ∙ ap (λ ds. slice_get ds c.args.i) (fields_whole vs) ∙ slice_get-map view vs c.args.i
    ∙ ap (option_map view) (ap (λ ws. slice_get ws c.args.i) (sym c.as_slice.ensures) ∙ c.value_at.ensures)
