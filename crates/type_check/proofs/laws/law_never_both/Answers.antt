use Rattle.type_check.proofs.lemmas.OneAnswer.{never}
use Rattle.type_check.proofs.laws.law_never_both.Goals as goal

pub returns : goal.returns
returns c = never c.args.files.now c.law_one_answer.ensures.one_list c.law_one_answer.ensures.one_refusal c.law_one_answer.ensures.never_both
