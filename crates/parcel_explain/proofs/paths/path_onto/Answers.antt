use Rattle.std.proofs.Common.{ap, ◌∙◌}
use Rattle.std.specs.Prelude.{string_bytes}
use Rattle.std.specs.Str.{chars}
use Rattle.std.proofs.lemmas.Str.{IsUtf8-had}
use Rattle.parcel_explain.proofs.Stems.{step_chars}
use Rattle.parcel_explain.proofs.paths.path_onto.Goals as goal

pub returns-clause-made : goal.returns-clause-made
returns-clause-made c =
    let stem = c.args.stem.now in
    c.in_ok-made.ensures ∙ ap chars (c.as_str.ensures.value ∙ c.in_ok-push_str.ensures.bytes) ∙ step_chars (string_bytes stem) c.args.step.now (IsUtf8-had (string_bytes stem) stem.ok) c.requires
