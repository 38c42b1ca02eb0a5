use Rattle.type_check.proofs.lemmas.OneAnswer.{one_schema}
use Rattle.type_check.proofs.laws.law_one_schema.Goals as goal

pub returns : goal.returns
returns c = one_schema c.args.files.now c.law_one_answer.ensures.one_list c.law_one_answer.ensures.one_refusal c.law_one_answer.ensures.never_both
