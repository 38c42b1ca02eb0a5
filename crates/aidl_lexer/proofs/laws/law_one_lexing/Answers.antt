use Rattle.aidl_lexer.proofs.lemmas.meaning.OneLexing as law
use Rattle.aidl_lexer.proofs.laws.law_one_lexing.Goals as goal

pub returns-clause-some : goal.returns-clause-some
returns-clause-some c = law.some_lexing c.args.bytes.now

pub returns-clause-one_list : goal.returns-clause-one_list
returns-clause-one_list c = law.one_list c.args.bytes.now

pub returns-clause-one_fault : goal.returns-clause-one_fault
returns-clause-one_fault c = law.one_fault c.args.bytes.now

pub returns-clause-never_both : goal.returns-clause-never_both
returns-clause-never_both c = law.never_both c.args.bytes.now
