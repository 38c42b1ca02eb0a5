use Rattle.std.proofs.Common.{length, map, rc_value, sym, ap, ◌∙◌}
use Rattle.std.proofs.lemmas.List.{length-map}
use Rattle.aidl_values.specs.declared.value.ShortFields.{out-ShortFields}
use Rattle.aidl_values.specs.View.{view}
use Rattle.aidl_values.proofs.Overlays.{length-overlaid}
use Rattle.aidl_values.proofs.lemmas.Views.{fields_over}
use Rattle.aidl_values.proofs.value.ShortFields.len.Goals as goal

pub returns : goal.returns
returns c =
    let s = out-ShortFields c.args.self.now in
    let ds = rc_value s.defaults in
    c.len.ensures ∙ ap length c.as_ref.ensures ∙ sym (ap length (fields_over c.args.self.now) ∙ length-overlaid s.places (map view s.given) 0 (map view ds) ∙ length-map ds view)
