use Rattle.std.proofs.Common.{◌≡◌, ◌++◌, map, drop}
use Rattle.std.specs.List.{flat_map}
use Rattle.declared_names.specs.Entries.{entry_of}
use Rattle.type_rules.specs.Filters.{breaches_at}
use Rattle.type_rules.specs.TypeRules.{bad_nullables_of}
use Rattle.type_uses.specs.TypeUseViews.{seen_use}
use Rattle.type_rules.proofs.nullable.add_bad_nullables.Given as goal

-- the breaches so far and those that are left are all
abbrev pub invariant-loop-used : goal.invariant-loop-used
invariant-loop-used l =
    l.rows.items ++ breaches_at 14 l.file (flat_map (bad_nullables_of (map entry_of l.found)) (map seen_use (drop l.used-index l.uses)))
    ≡ l.fn.rows.items ++ breaches_at 14 l.file (flat_map (bad_nullables_of (map entry_of l.found)) (map seen_use l.uses))
