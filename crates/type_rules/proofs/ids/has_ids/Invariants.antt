use Rattle.std.proofs.Common.{◌≡◌, map, drop}
use Rattle.std.specs.List.{list_any}
use Rattle.aidl_syntax.specs.Trees.{method_of}
use Rattle.type_uses.specs.Ids.{has_id}
use Rattle.type_rules.proofs.ids.has_ids.Given as goal

-- what is left decides
abbrev pub invariant-loop-method : goal.invariant-loop-method
invariant-loop-method l = list_any has_id (map (λ m. method_of m.now) (drop l.method-index l.methods)) ≡ list_any has_id (map (λ m. method_of m.now) l.methods)
