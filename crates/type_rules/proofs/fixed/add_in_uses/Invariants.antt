use Rattle.std.proofs.Common.{◌≡◌, ◌++◌, map, drop}
use Rattle.std.specs.List.{filter}
use Rattle.aidl_names.specs.Rules.{breach}
use Rattle.declared_names.specs.Entries.{entry_of}
use Rattle.type_rules.specs.FieldRules.{is_unfixed}
use Rattle.type_uses.specs.TypeUses.{name_place}
use Rattle.type_uses.specs.TypeUseViews.{seen_use}
use Rattle.type_rules.proofs.fixed.add_in_uses.Given as goal

-- the breaches so far and those that are left are all
abbrev pub invariant-loop-used : goal.invariant-loop-used
invariant-loop-used l =
    l.rows.items ++ map (λ u. breach 24 l.file (name_place u)) (filter (is_unfixed (map entry_of l.marked.all.now)) (map seen_use (drop l.used-index l.uses)))
    ≡ l.fn.rows.items ++ map (λ u. breach 24 l.file (name_place u)) (filter (is_unfixed (map entry_of l.marked.all.now)) (map seen_use l.uses))
