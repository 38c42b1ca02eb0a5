use Rattle.std.proofs.Common.{◌≡◌, is_some, ◌∙◌, rules}
use Rattle.json_values.proofs.Places.{field_known}
use Rattle.json_values.proofs.keys.has_field.Goals as goal

pub returns-clause-has : goal.returns-clause-has
returns-clause-has c =
    let told : c.is_some.result ≡ is_some c.in_ok-place.place = search rules in
    told ∙ field_known c.args.key.now c.args.fields.now c.in_ok-place.place c.in_ok-place.ensures.place
