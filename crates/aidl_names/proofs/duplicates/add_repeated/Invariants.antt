use Rattle.std.proofs.Common.{◌≡◌, ◌++◌, map, drop}
use Rattle.std.specs.List.{flat_map}
use Rattle.aidl_names.specs.Rules.{breaches_at, repeated_inside}
use Rattle.declared_names.specs.Entries.{entry_of}
use Rattle.aidl_names.proofs.duplicates.add_repeated.Given as goal

-- the breaches so far and those that are left are all
abbrev pub invariant-loop-f : goal.invariant-loop-f
invariant-loop-f l =
    l.rows.items ++ breaches_at 2 (flat_map repeated_inside (map entry_of (drop l.f-index l.found)))
    ≡ l.fn.rows.items ++ breaches_at 2 (flat_map repeated_inside (map entry_of l.found))
