use Rattle.wire_model.proofs.viewed.Unknown.{view_none}
use Rattle.wire_model.proofs.laws.law_view_none.Goals as goal

pub returns : goal.returns
returns c = λ follows t u v is typed. view_none c.args.a.now.decls c.args.b.now.decls (c.law_meets.ensures follows) t u v is typed
