use Rattle.declared_names.proofs.lemmas.Compared.{same-last}
use Rattle.declared_names.proofs.last_parts.ends_in.Goals as goal

pub returns-in-len1-up : goal.returns-in-len1-up
returns-in-len1-up c = same-last c.args.name.now c.last-item.result c.args.part.now c.same_part.result c.in-len1-up.len_at_least c.last-item.is c.same_part.ensures
