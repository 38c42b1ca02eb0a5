use Rattle.std.proofs.Common.{arith}
use Rattle.witness_search.proofs.RecordParts.{few_alternatives}
use Rattle.witness_search.proofs.records.small_position.Goals as goal

pub overflow_cast-result : goal.overflow_cast-result
overflow_cast-result c = let few = few_alternatives c.args.schema.now.decls c.law_valid.ensures.declarations c.args.number in let lt = c.requires in omega arith
