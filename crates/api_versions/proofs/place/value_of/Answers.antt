use Rattle.std.proofs.Common.{◌≡◌, ◌<◌, ◌^◌, ap, subst, arith}
use Rattle.std.specs.Str.Parse.{digits_value, without_leading_plus}
use Rattle.api_versions.proofs.Numbers.{number_is_numeral, number_positive}
use Rattle.api_versions.proofs.place.value_of.Goals as goal

pub returns-in-Ok-clause-positive : goal.returns-in-Ok-clause-positive
returns-in-Ok-clause-positive c =
    let name = c.args.name.now in
    let numeral = number_is_numeral name c.requires in
    let positive = number_positive name c.requires in
    let is : c.in-Ok.number ≡ digits_value 10 (without_leading_plus name) = c.in-Ok.ensures.value.0.1 in
    let same : digits_value 10 (without_leading_plus name) ≡ digits_value 10 name = ap (digits_value 10) numeral.1 in
    omega (arith, c.min.ensures)

pub returns-in-Err-clause-value : goal.returns-in-Err-clause-value
returns-in-Err-clause-value c =
    let name = c.args.name.now in
    let numeral = number_is_numeral name c.requires in
    let large : (digits_value 10 (without_leading_plus name) < 2 ^ 32) → ⊥ = λ lt. c.in-Err.ensures.value.0 (numeral.0, lt) in
    let large_name : (digits_value 10 name < 2 ^ 32) → ⊥ = subst (λ w. (digits_value 10 w < 2 ^ 32) → ⊥) numeral.1 large in
    grind (arith, large_name)
