use Rattle.std.proofs.Common.{◌++◌, ap, ◌∙◌}
use Rattle.std.specs.Prelude.{codes}
use Rattle.std.specs.Str.{chars}
use Rattle.parcel_explain.proofs.paths.long_below.Goals as goal

pub returns : goal.returns
returns c =
    let to_path = c.in_ok-push_str.ensures.bytes ∙ ap (λ z. z ++ c.args.path.now) c.in_ok-text.ensures.bytes in
    c.from_string.ensures ∙ ap chars (c.in_ok-push_str-3.ensures.bytes ∙ ap (λ z. z ++ c.args.name.now) (c.in_ok-push_str-2.ensures.bytes ∙ ap (λ z. z ++ codes "/") to_path))
