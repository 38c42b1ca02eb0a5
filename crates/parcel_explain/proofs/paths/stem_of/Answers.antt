use Rattle.std.proofs.Common.{◌++◌, sym, ap, ◌∙◌}
use Rattle.std.specs.Prelude.{codes}
use Rattle.std.specs.Str.{chars}
use Rattle.parcel_explain.proofs.Stems.{stem_chars}
use Rattle.parcel_explain.proofs.paths.stem_of.Goals as goal

pub returns : goal.returns
returns c =
    let path = c.as_str-path.result.now in
    let to_path = c.in_ok-push_str.ensures.bytes ∙ ap (λ z. z ++ path) c.in_ok-stem.ensures.bytes in
    ap chars (c.in_ok-push_str-2.ensures.bytes ∙ ap (λ z. z ++ codes "/") to_path) ∙ stem_chars path c.as_str-path.utf8 ∙ ap (λ z. z ++ codes "/") (sym c.as_str-path.ensures.value)
