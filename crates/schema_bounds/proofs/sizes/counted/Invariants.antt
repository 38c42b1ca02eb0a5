use Rattle.std.proofs.Common.{◌≡◌, map, min, take}
use Rattle.schema_bounds.specs.steps.Measures.{most, kind_size}
use Rattle.schema_bounds.proofs.sizes.counted.Given as goal

abbrev pub invariant-loop-decl : goal.invariant-loop-decl
invariant-loop-decl l = l.next.items ≡ map (λ d. min (most l.measure) (kind_size l.measure l.sizes d.kind)) (take l.decl-index l.decls)
