use Rattle.std.proofs.Common.{◌≡◌, ◌++◌, map, drop}
use Rattle.aidl_syntax.specs.Sources.{source_of}
use Rattle.aidl_names.specs.Rules.{breaches_at, other_imports}
use Rattle.declared_names.specs.Numbered.{in_each}
use Rattle.aidl_names.proofs.imports.add_other_imports.Given as goal

-- the breaches so far and those that are left are all
abbrev pub invariant-loop-i : goal.invariant-loop-i
invariant-loop-i l =
    l.rows.items ++ breaches_at 2 (in_each other_imports l.i (map source_of (drop l.i l.files)))
    ≡ l.fn.rows.items ++ breaches_at 2 (in_each other_imports 0 (map source_of l.files))
