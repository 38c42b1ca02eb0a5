use Rattle.std.proofs.Common.{◌≡◌, drop}
use Rattle.marshal_plans.specs.steps.Compiled.{with_arguments}
use Rattle.marshal_plans.proofs.starts.add_arguments.Given as goal

-- with what is left added, all is
abbrev pub invariant-loop-k : goal.invariant-loop-k
invariant-loop-k l = with_arguments l.schema.decls l.firsts l.numbers.interface l.numbers.method l.k l.plans (drop l.k l.arguments) ≡ with_arguments l.schema.decls l.firsts l.numbers.interface l.numbers.method 0 l.initial.plans l.arguments
