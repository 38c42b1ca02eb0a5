use Rattle.std.proofs.Common.{◌≡◌, ◌++◌, map, drop}
use Rattle.std.specs.List.{filter}
use Rattle.aidl_names.specs.Rules.{breach}
use Rattle.declared_names.specs.Entries.{entry_of}
use Rattle.type_rules.specs.UseRules.{breaks_of, rule_of, place_of}
use Rattle.type_uses.specs.TypeUseViews.{seen_use}
use Rattle.type_rules.proofs.use_rules.add_where.Given as goal

-- the breaches so far and those that are left are all
abbrev pub invariant-loop-used : goal.invariant-loop-used
invariant-loop-used l =
    l.rows.items ++ map (λ u. breach (rule_of l.rule) l.file (place_of l.rule u)) (filter (breaks_of l.rule (map entry_of l.found) l.oneway) (map seen_use (drop l.used-index l.uses)))
    ≡ l.fn.rows.items ++ map (λ u. breach (rule_of l.rule) l.file (place_of l.rule u)) (filter (breaks_of l.rule (map entry_of l.found) l.oneway) (map seen_use l.uses))
