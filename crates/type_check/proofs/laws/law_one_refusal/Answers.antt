use Rattle.type_check.proofs.lemmas.OneAnswer.{one_refusal}
use Rattle.type_check.proofs.laws.law_one_refusal.Goals as goal

pub returns : goal.returns
returns c = one_refusal c.args.files.now c.law_one_answer.ensures.one_list c.law_one_answer.ensures.one_refusal c.law_one_answer.ensures.never_both
