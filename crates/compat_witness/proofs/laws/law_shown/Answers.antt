use Rattle.compat_witness.proofs.lemmas.Laws.{shown_by_rule}
use Rattle.compat_witness.proofs.laws.law_shown.Goals as goal

pub returns : goal.returns
returns c = λ row is.
    shown_by_rule c.args.old.now.decls c.args.new.now.decls c.args.old.now.valid c.args.new.now.valid c.args.rule row is c.args.place.now c.requires.entry
