use Rattle.dump_reading.proofs.lemmas.ReadBack.{accepted}
use Rattle.dump_reading.proofs.named.Declared.{are_declared}
use Rattle.dump_reading.proofs.named.Entries.{are_entries}
use Rattle.dump_reading.proofs.laws.law_dump_names.Goals as goal

pub returns : goal.returns
returns c =
    let S = c.args.schema.now.decls in let l = c.law_valid.ensures in
    record {
      declared = λ files h. are_declared S l.declarations l.sorted l.apart files (are_entries S l.declarations l.sorted l.apart files h);
      accepted = accepted S c.args.schema.now.valid;
    }
