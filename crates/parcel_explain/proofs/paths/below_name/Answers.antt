use Rattle.std.proofs.Common.{◌≡◌, ◌++◌, IfOk, sym, ap, ◌∙◌, subst}
use Rattle.std.specs.Prelude.{codes}
use Rattle.std.specs.Str.{chars}
use Rattle.parcel_explain.proofs.Slashes.{below_chars}
use Rattle.parcel_explain.proofs.paths.below_name.Goals as goal

pub returns-in-Some : goal.returns-in-Some
returns-in-Some c =
    let path = c.as_str-path.result.now in
    let is = c.as_str.ensures.value ∙ c.in-Some.ensures in
    let as_below = below_chars path c.args.name.now c.as_str-path.utf8 ∙ ap (λ z. z ++ codes "/" ++ chars c.args.name.now) (sym c.as_str-path.ensures.value) in
    subst (λ z. IfOk c.from_str.result (λ made. made ≡ z)) (ap chars is ∙ as_below) c.from_str.ensures

pub returns-in-None : goal.returns-in-None
returns-in-None c =
    let as_below = below_chars c.as_str-path.result.now c.args.name.now c.as_str-path.utf8 ∙ ap (λ z. z ++ codes "/" ++ chars c.args.name.now) (sym c.as_str-path.ensures.value) in
    subst (λ z. IfOk c.long_below.result (λ made. made ≡ z)) as_below c.long_below.ensures
