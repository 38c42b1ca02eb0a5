use Rattle.std.proofs.Common.{length}
use Rattle.aidl_schema.proofs.finding.+dots_order.Given as goal

abbrev pub decreases-dots_order : goal.decreases-dots_order
decreases-dots_order l = length l.parts.now
