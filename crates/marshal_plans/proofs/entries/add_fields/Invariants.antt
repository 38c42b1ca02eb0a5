use Rattle.std.proofs.Common.{◌≡◌, drop}
use Rattle.marshal_plans.specs.steps.Compiled.{with_fields}
use Rattle.marshal_plans.proofs.entries.add_fields.Given as goal

-- with what is left added, all is
abbrev pub invariant-loop-field : goal.invariant-loop-field
invariant-loop-field l = with_fields l.schema.decls l.firsts l.plans (drop l.field-index l.fields) ≡ with_fields l.schema.decls l.firsts l.initial.plans l.fields
