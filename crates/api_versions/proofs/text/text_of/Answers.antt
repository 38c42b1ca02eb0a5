use Rattle.std.proofs.Common.{◌∙◌, ap}
use Rattle.std.specs.Str.{chars}
use Rattle.api_versions.proofs.Writing.{bytes_are_text}
use Rattle.api_versions.proofs.text.text_of.Goals as goal

pub returns : goal.returns
returns c = c.from_string.ensures ∙ ap chars c.in_ok-text.ensures ∙ bytes_are_text c.args.bytes.now (λ i. (c.type_inv.bytes i).fits)
