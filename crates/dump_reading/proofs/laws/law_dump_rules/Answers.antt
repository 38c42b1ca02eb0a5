use Rattle.dump_reading.proofs.valued.Enums.{enums_bare}
use Rattle.dump_reading.proofs.named.Entries.{are_entries}
use Rattle.dump_reading.proofs.ruled.Rules.{all_unbroken, none_listed}
use Rattle.dump_reading.proofs.laws.law_dump_rules.Goals as goal

pub returns : goal.returns
returns c =
    let S = c.args.schema.now.decls in let l = c.law_valid.ensures in
    let enums = enums_bare S c.args.schema.now.valid.enums in
    record {
      unbroken = λ files h. all_unbroken S l.declarations l.sorted l.apart enums files (are_entries S l.declarations l.sorted l.apart files h);
      unlisted = λ files h. none_listed S l.declarations l.sorted l.apart enums files (are_entries S l.declarations l.sorted l.apart files h);
    }
