use Rattle.std.proofs.Common.{arith}
use Rattle.wire_model.specs.MetaStub.{hash_code, version_code}
use Rattle.meta_calls.proofs.Codes.{below, not_a_code}
use Rattle.meta_calls.proofs.laws.law_codes_apart.Goals as goal

pub returns-clause-below : goal.returns-clause-below
returns-clause-below c = below c.args.schema.now.decls c.law_valid.ensures.declarations c.args.interface

pub returns-clause-version : goal.returns-clause-version
returns-clause-version c = not_a_code _ version_code (below c.args.schema.now.decls c.law_valid.ensures.declarations c.args.interface) (omega arith)

pub returns-clause-hash : goal.returns-clause-hash
returns-clause-hash c = not_a_code _ hash_code (below c.args.schema.now.decls c.law_valid.ensures.declarations c.args.interface) (omega arith)
