use Rattle.call_scripts.proofs.Types.{typed}
use Rattle.call_scripts.proofs.laws.law_types.Goals as goal

pub returns : goal.returns
returns c =
    let t = typed c.args.schema.now.decls c.law_valid.ensures.declarations c.args.interface c.args.method in
    record { returned = t.returned; passed = t.passed; oneway = t.oneway }
