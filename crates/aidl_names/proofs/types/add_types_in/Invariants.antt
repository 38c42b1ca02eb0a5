use Rattle.std.proofs.Common.{◌≡◌, ◌++◌, map, drop}
use Rattle.std.specs.List.{filter}
use Rattle.aidl_syntax.specs.Sources.{source_of}
use Rattle.aidl_names.specs.Rules.{breaches_at, types_in}
use Rattle.aidl_names.specs.TypeRules.{breaks_of, rule_of}
use Rattle.declared_names.specs.Entries.{entry_of}
use Rattle.aidl_names.proofs.types.add_types_in.Given as goal

-- the breaches so far and those that are left are all
abbrev pub invariant-loop-name : goal.invariant-loop-name
invariant-loop-name l =
    l.rows.items ++ breaches_at (rule_of l.rule) (map (λ d. (l.inside.file, d.offset)) (filter (λ d. breaks_of l.rule (map source_of l.asking) l.inside.file l.number d.name.0) (drop l.name-index (map (λ d. d.now) l.name-items))))
    ≡ l.fn.rows.items ++ breaches_at (rule_of l.rule) (types_in (breaks_of l.rule (map source_of l.asking)) l.number (entry_of l.inside))
