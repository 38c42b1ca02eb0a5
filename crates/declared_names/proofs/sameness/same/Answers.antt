use Rattle.std.proofs.Common.{sym}
use Rattle.declared_names.proofs.lemmas.Compared.{same-lengths}
use Rattle.declared_names.proofs.sameness.same.Goals as goal

pub returns-then-a-b : goal.returns-then-a-b
returns-then-a-b c = sym (same-lengths c.args.a.now c.args.b.now c.if-a-b.true)
