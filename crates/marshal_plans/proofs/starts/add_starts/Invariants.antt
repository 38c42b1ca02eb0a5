use Rattle.std.proofs.Common.{◌≡◌, drop}
use Rattle.marshal_plans.specs.steps.Compiled.{with_interfaces}
use Rattle.marshal_plans.proofs.starts.add_starts.Given as goal

-- with what is left added, all is
abbrev pub invariant-loop-n : goal.invariant-loop-n
invariant-loop-n l = with_interfaces l.schema.decls l.firsts l.n l.plans (drop l.n l.schema.decls) ≡ with_interfaces l.schema.decls l.firsts 0 l.initial.plans l.schema.decls
