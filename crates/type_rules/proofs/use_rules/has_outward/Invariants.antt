use Rattle.std.proofs.Common.{◌≡◌, map, drop}
use Rattle.std.specs.List.{list_any}
use Rattle.aidl_syntax.specs.Trees.{arg_of}
use Rattle.type_rules.specs.TypeRules.{is_outward}
use Rattle.type_rules.proofs.use_rules.has_outward.Given as goal

-- what is left decides
abbrev pub invariant-loop-arg : goal.invariant-loop-arg
invariant-loop-arg l = list_any (λ a. is_outward a.way) (map arg_of (drop l.arg-index l.args)) ≡ list_any (λ a. is_outward a.way) (map arg_of l.args)
