use Rattle.std.proofs.Common.{◌≡◌, drop}
use Rattle.marshal_plans.specs.steps.Compiled.{with_extras}
use Rattle.marshal_plans.proofs.compiling.add_extras.Given as goal

-- with what is left added, all is
abbrev pub invariant-loop-ty : goal.invariant-loop-ty
invariant-loop-ty l = with_extras l.schema.decls l.firsts l.plans (drop l.ty-index l.extra) ≡ with_extras l.schema.decls l.firsts l.initial.plans l.extra
