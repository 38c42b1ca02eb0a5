use Rattle.std.proofs.Common.{◌≡◌, Some, map, take}
use Rattle.aidl_schema.specs.Containment.{contained_by_decl}
use Rattle.schema_bounds.proofs.containment.containment.Given as goal

abbrev pub invariant-loop-decl : goal.invariant-loop-decl
invariant-loop-decl l = l.rows.items ≡ map (λ d. contained_by_decl l.decls (Some d)) (take l.decl-index l.decls)
