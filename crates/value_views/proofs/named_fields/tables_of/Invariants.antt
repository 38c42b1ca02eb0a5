use Rattle.std.proofs.Common.{◌≡◌, take}
use Rattle.value_views.specs.steps.Tables.{field_lists}
use Rattle.value_views.proofs.named_fields.tables_of.Given as goal

-- the declarations so far
abbrev pub invariant-loop-decl : goal.invariant-loop-decl
invariant-loop-decl l = l.tables.items ≡ field_lists (take l.decl-index l.decls)
