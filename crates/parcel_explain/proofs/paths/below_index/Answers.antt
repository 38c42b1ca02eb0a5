use Rattle.std.proofs.Common.{◌≡◌, IfOk, ◌∙◌, subst}
use Rattle.std.proofs.lemmas.Str.{chars-IsAscii}
use Rattle.parcel_explain.specs.Items.{below}
use Rattle.parcel_explain.proofs.paths.below_index.Goals as goal

pub returns : goal.returns
returns c =
    let digits = chars-IsAscii c.format.result.now c.format.ensures.ascii ∙ c.format.ensures.text in
    subst (λ step. IfOk c.below_name.result (λ made. made ≡ below c.args.path.now step)) digits c.below_name.ensures
