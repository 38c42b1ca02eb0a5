use Rattle.schema_bounds.specs.steps.Measures.{AreRight}
use Rattle.schema_bounds.proofs.sizes.sizes.Given as goal

abbrev pub invariant-loop-count : goal.invariant-loop-count
invariant-loop-count l = AreRight l.measure l.decls l.sizes.items l.count
