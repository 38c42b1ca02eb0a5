use Rattle.std.proofs.Common.{◌≡◌, ◌++◌, drop}
use Rattle.wire_model.specs.Calls.{outs_of}
use Rattle.call_scripts.proofs.answers.out_types.Given as goal

-- with those that are left they are all
abbrev pub invariant-loop-arg : goal.invariant-loop-arg
invariant-loop-arg l = l.types.items ++ outs_of (drop l.arg-index l.args) ≡ outs_of l.args
