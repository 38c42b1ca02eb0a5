use Rattle.aidl_schema.proofs.lemmas.Valids.{valid_empty}
use Rattle.aidl_schema.proofs.schema.Schema.empty.Goals as goal

pub invariant_of-result : goal.invariant_of-result
invariant_of-result c = record { valid = valid_empty c.new.result c.new.ensures }
