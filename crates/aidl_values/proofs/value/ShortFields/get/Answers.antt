use Rattle.std.proofs.Common.{◌≡◌, map, length, rc_value, get_or, slice_get, sym, ap, ◌∙◌, arith}
use Rattle.std.proofs.lemmas.List.{get_or_past, length-map}
use Rattle.std.proofs.lemmas.Option.{get_or_from_slice_get}
use Rattle.aidl_values.specs.Given.{given_at}
use Rattle.aidl_values.specs.View.{view, short_datas}
use Rattle.aidl_values.specs.declared.value.ShortFields.{out-ShortFields}
use Rattle.aidl_values.proofs.Overlays.{field_at, field_within, seen_there}
use Rattle.aidl_values.proofs.lemmas.Views.{fields_over}
use Rattle.aidl_values.proofs.value.ShortFields.get.Goals as goal
use Rattle.aidl_values.proofs.value.ShortFields.get.Goals.{in_default-via-in-Some+else-k-len, in_default-via-in_default}

pub value_at-requires-in_default : goal.value_at-requires-in_default
value_at-requires-in_default c =
    let s = out-ShortFields c.args.self.now in
    let within = field_within (short_datas c.args.self.now) s.places (map view s.given) (rc_value s.defaults) (fields_over c.args.self.now) c.args.i c.requires in
    omega (arith, within, ap length (c.as_slice-in_default.ensures ∙ c.as_ref.ensures))

pub returns-in-Some : goal.returns-in-Some
returns-in-Some c =
    let s = out-ShortFields c.args.self.now in
    let vs = map view s.given in
    let ds = rc_value s.defaults in
    let w = c.value_at.result.now in
    let d = view (get_or ds c.args.i w) in
    let at = c.in-Some.ensures vs d in
    let there = seen_there s.given c.in-Some.k w d (ap (λ xs. slice_get xs c.in-Some.k) (sym c.as_slice.ensures) ∙ c.value_at.ensures) in
    field_at (short_datas c.args.self.now) s.places vs ds (fields_over c.args.self.now) c.args.i w w c.requires (at ∙ there)

pub returns-in_default : goal.returns-in_default
returns-in_default c =
    let s = out-ShortFields c.args.self.now in
    let vs = map view s.given in
    let ds = rc_value s.defaults in
    let w = c.value_at-in_default.result.now in
    let d = view (get_or ds c.args.i w) in
    let same : get_or ds c.args.i w ≡ w =
    get_or_from_slice_get ds c.args.i w w (ap (λ xs. slice_get xs c.args.i) (sym (c.as_slice-in_default.ensures ∙ c.as_ref.ensures)) ∙ c.value_at-in_default.ensures) in
    let at : given_at s.places vs c.args.i d ≡ d =
    elim c.in_default.branch [
      | in_default-via-in-Some+else-k-len x ↦ x.in-Some.ensures vs d ∙ get_or_past vs x.in-Some.k d (omega (arith, x.if-k-len.false, x.len.ensures, length-map s.given view))
      | in_default-via-in_default x ↦ x.in_default.ensures vs d
    ] in
    field_at (short_datas c.args.self.now) s.places vs ds (fields_over c.args.self.now) c.args.i w w c.requires (at ∙ ap view same)
