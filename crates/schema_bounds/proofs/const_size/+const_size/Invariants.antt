use Rattle.schema_bounds.specs.steps.Measures.{const_size}
use Rattle.schema_bounds.proofs.Totals.{AreCounted}
use Rattle.schema_bounds.proofs.const_size.+const_size.Given as goal

abbrev pub invariant-members_size-loop-member : goal.invariant-members_size-loop-member
invariant-members_size-loop-member l = AreCounted l.measure (const_size l.measure) l.top l.members l.member-index l.size
