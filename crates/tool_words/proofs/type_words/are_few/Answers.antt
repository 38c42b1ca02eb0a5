use Rattle.tool_words.proofs.Commas.{few_commas}
use Rattle.tool_words.proofs.type_words.are_few.Goals as goal

pub returns : goal.returns
returns c = few_commas c.args.types.now c.comma_count.result c.comma_count.ensures
