use Rattle.std.proofs.Common.{◌≡◌, ◌++◌, map, drop}
use Rattle.aidl_syntax.specs.Sources.{source_of}
use Rattle.aidl_names.specs.Rules.{breaches_at, types_in, types_where}
use Rattle.declared_names.specs.Numbered.{in_each}
use Rattle.aidl_names.specs.TypeRules.{breaks_of, rule_of}
use Rattle.declared_names.specs.Entries.{entry_of}
use Rattle.aidl_names.proofs.types.add_types_by.Given as goal

-- the breaches so far and those that are left are all
abbrev pub invariant-loop-i : goal.invariant-loop-i
invariant-loop-i l =
    l.rows.items ++ breaches_at (rule_of l.rule) (in_each (types_in (breaks_of l.rule (map source_of l.asking))) l.i (map entry_of (drop l.i l.found)))
    ≡ l.fn.rows.items ++ breaches_at (rule_of l.rule) (types_where (breaks_of l.rule (map source_of l.asking)) (map source_of l.asking))
