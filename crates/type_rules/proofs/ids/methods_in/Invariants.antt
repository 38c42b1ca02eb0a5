use Rattle.std.proofs.Common.{◌≡◌, ◌++◌, map, drop}
use Rattle.aidl_syntax.specs.Trees.{method_of}
use Rattle.type_uses.specs.TypeUses.{methods_in}
use Rattle.type_uses.specs.TypeUseViews.{seen_use}
use Rattle.type_rules.proofs.ids.methods_in.Given as goal

-- the methods so far and those that are left are all
abbrev pub invariant-loop-used : goal.invariant-loop-used
invariant-loop-used l = map (λ m. method_of m.now) l.methods.items ++ methods_in (map seen_use (drop l.used-index l.uses)) ≡ methods_in (map seen_use l.uses)
