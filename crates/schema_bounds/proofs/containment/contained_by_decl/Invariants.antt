use Rattle.std.proofs.Common.{◌≡◌, ◌++◌, Some, drop}
use Rattle.std.specs.List.{flat_map}
use Rattle.aidl_schema.specs.Containment as containment
use Rattle.schema_bounds.proofs.containment.contained_by_decl.Given as goal

-- what is found and what the fields that are left contain is all
abbrev pub invariant-loop-field : goal.invariant-loop-field
invariant-loop-field l = l.row ++ flat_map (λ f. containment.contained_by l.decls f) (drop l.field-index l.field-items) ≡ containment.contained_by_decl l.decls (Some l.decl)
