use Rattle.std.proofs.Common.{arith}
use Rattle.json_values.proofs.Members.{only_member-other, seen_first}
use Rattle.json_values.proofs.unions.only_member.Goals as goal

pub returns-then-len-eq1 : goal.returns-then-len-eq1
returns-then-len-eq1 c = seen_first c.args.members.now.entries c.first_key_value.result (omega arith) c.first_key_value.ensures.variant c.first_key_value.ensures.first

pub returns-else-len-eq1 : goal.returns-else-len-eq1
returns-else-len-eq1 c = only_member-other c.args.members.now.entries (λ is. c.if-len-eq1.false (omega arith))
