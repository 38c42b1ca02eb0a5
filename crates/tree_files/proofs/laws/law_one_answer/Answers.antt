use Rattle.tree_files.proofs.lemmas.OneAnswer as law
use Rattle.tree_files.proofs.laws.law_one_answer.Goals as goal

pub returns-clause-one_list : goal.returns-clause-one_list
returns-clause-one_list c = λ ps qs h k. law.one-trees c.args.files.now ps qs h.trees k.trees

pub returns-clause-one_refusal : goal.returns-clause-one_refusal
returns-clause-one_refusal c = law.one-refusal c.args.files.now

pub returns-clause-never_both : goal.returns-clause-never_both
returns-clause-never_both c = law.never c.args.files.now
