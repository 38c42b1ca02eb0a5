use Rattle.std.proofs.Common.{◌++◌, codes, false, drop}
use Rattle.aidl_values.specs.View.{views}
use Rattle.witness_command.specs.Texts.{parts_text}
use Rattle.witness_command.proofs.Parts.{Completes}
use Rattle.witness_command.proofs.values.push_values.Given as goal

-- what is left completes the text
abbrev pub invariant-loop-value : goal.invariant-loop-value
invariant-loop-value l = Completes l.fn.text l.text l.later (views (drop l.value-index l.values)) (codes "[" ++ parts_text false (views l.values))
