use Rattle.std.proofs.Common.{◌≡◌, ◌++◌, false, map, drop}
use Rattle.declared_names.specs.Entries.{entry_of}
use Rattle.type_rules.specs.FieldRules.{bad_fields}
use Rattle.type_rules.specs.Filters.{breaches_at}
use Rattle.type_uses.specs.TypeUseViews.{seen_use}
use Rattle.type_rules.proofs.fields.add_in_uses.Given as goal

-- the breaches so far and those that are left are all
abbrev pub invariant-loop-used : goal.invariant-loop-used
invariant-loop-used l =
    l.rows.items ++ breaches_at 21 l.file (bad_fields (map entry_of l.all) l.in_union l.later (map seen_use (drop l.used-index l.uses)))
    ≡ l.fn.rows.items ++ breaches_at 21 l.file (bad_fields (map entry_of l.all) l.in_union false (map seen_use l.uses))
