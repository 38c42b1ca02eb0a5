use Rattle.aidl_schema.proofs.Unbroken.{unbroken, empty}
use Rattle.aidl_schema.proofs.laws.law_unbroken.Goals as goal

pub returns : goal.returns
returns c = let old = c.args.old.now.decls in let new = c.args.new.now.decls in (unbroken old new, empty old new)
