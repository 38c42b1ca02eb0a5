use Rattle.std.proofs.Common.{◌≡◌, drop}
use Rattle.marshal_plans.specs.steps.Compiled.{with_methods}
use Rattle.marshal_plans.proofs.starts.add_methods.Given as goal

-- with what is left added, all is
abbrev pub invariant-loop-m : goal.invariant-loop-m
invariant-loop-m l = with_methods l.schema.decls l.firsts l.interface l.m l.plans (drop l.m l.methods) ≡ with_methods l.schema.decls l.firsts l.interface 0 l.initial.plans l.methods
