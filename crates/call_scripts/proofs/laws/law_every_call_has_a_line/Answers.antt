use Rattle.call_scripts.proofs.EveryCall.{has_line}
use Rattle.call_scripts.proofs.QuietLines.{lines_are_quiet}
use Rattle.call_scripts.proofs.laws.law_every_call_has_a_line.Goals as goal

pub returns-clause-each : goal.returns-clause-each
returns-clause-each c call fits quiet =
    has_line c.args.client.now.decls c.args.server.now.decls c.law_valid.ensures.declarations c.law_valid-2.ensures.declarations c.law_valid.ensures.apart call fits quiet

pub returns-clause-quiet : goal.returns-clause-quiet
returns-clause-quiet c = lines_are_quiet c.args.client.now.decls c.args.server.now.decls
