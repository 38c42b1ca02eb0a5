use Rattle.std.proofs.Common.{◌∙◌, arith}
use Rattle.declared_names.proofs.lemmas.Compared.{last-drop}
use Rattle.declared_names.proofs.last_parts.last.Goals as goal

pub returns : goal.returns
returns c = c.split_at.ensures.back ∙ last-drop c.args.name.now (grind arith)
