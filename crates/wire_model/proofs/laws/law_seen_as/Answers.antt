use Rattle.wire_model.proofs.lemmas.Seen.{seen_as}
use Rattle.wire_model.proofs.laws.law_seen_as.Goals as goal

pub returns : goal.returns
returns c = λ t u v w e. seen_as c.args.a.now.decls c.args.b.now.decls t u v w e
