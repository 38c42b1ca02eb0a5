use Rattle.std.proofs.Common.{map}
use Rattle.declared_names.specs.Names.{same}
use Rattle.declared_names.specs.Entries.{entry_of}
use Rattle.declared_names.proofs.lemmas.Firsts.{among-some, among-none}
use Rattle.aidl_names.proofs.duplicates.is_again.Goals as goal

pub returns-in-Some : goal.returns-in-Some
returns-in-Some c = among-some (λ d. same d.name c.args.name.now) (map entry_of c.args.declarations.now) c.args.i c.in-Some.first c.in-Some.ensures

pub returns-in-None : goal.returns-in-None
returns-in-None c = among-none (λ d. same d.name c.args.name.now) (map entry_of c.args.declarations.now) c.args.i c.in-None.ensures
