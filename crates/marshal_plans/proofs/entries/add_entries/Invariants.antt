use Rattle.std.proofs.Common.{◌≡◌, drop}
use Rattle.marshal_plans.specs.steps.Compiled.{with_decls}
use Rattle.marshal_plans.proofs.entries.add_entries.Given as goal

-- with what is left added, all is
abbrev pub invariant-loop-decl : goal.invariant-loop-decl
invariant-loop-decl l = with_decls l.schema.decls l.firsts l.plans (drop l.decl-index l.schema.decls) ≡ with_decls l.schema.decls l.firsts l.initial.plans l.schema.decls
