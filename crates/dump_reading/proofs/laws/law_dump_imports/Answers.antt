use Rattle.dump_reading.proofs.named.Files.{files_stand}
use Rattle.dump_reading.proofs.laws.law_dump_imports.Goals as goal

pub returns : goal.returns
returns c = λ files h. files_stand c.args.schema.now.decls c.law_valid.ensures.declarations files h
