use Rattle.std.proofs.Common.{◌≡◌, ◌≤◌, map, length, sym, ap, ◌∙◌, arith}
use Rattle.std.proofs.lemmas.List.{length-map}
use Rattle.std.proofs.lemmas.Result.{IfOk-weaker}
use Rattle.std.specs.List.{range_with_len}
use Rattle.aidl_values.specs.Given.{given_then, overlaid}
use Rattle.aidl_values.specs.View.{field_datas, view}
use Rattle.aidl_values.proofs.Overlays.{overlaid_first}
use Rattle.aidl_values.proofs.value.Fields.first.Goals as goal

pub returns : goal.returns
returns c =
    let vs = map view c.args.given in
    let ds = map view c.args.defaults.value in
    let many = length-map c.args.given view in
    let places : c.in_ok-places.places ≡ range_with_len 0 (length vs) = c.in_ok-places.ensures ∙ ap (λ n. range_with_len 0 n) (c.len.ensures ∙ sym many) in
    let within : length vs ≤ length ds = omega (arith, many, length-map c.args.defaults.value view, c.requires) in
    IfOk-weaker c.over.result (λ fs. field_datas fs ≡ overlaid c.in_ok-places.places vs 0 ds) (λ fs. field_datas fs ≡ given_then vs ds)
    (λ fs is. is ∙ ap (λ ps. overlaid ps vs 0 ds) places ∙ overlaid_first 0 vs ds within) c.over.ensures
