use Rattle.schema_bounds.specs.steps.Measures.{start_size}
use Rattle.schema_bounds.proofs.Totals.{AreCounted}
use Rattle.schema_bounds.proofs.kind_size.fields_size.Given as goal

abbrev pub invariant-loop-field : goal.invariant-loop-field
invariant-loop-field l = AreCounted l.measure (λ f. start_size l.measure l.sizes f) l.top l.fields l.field-index l.size
