use Rattle.std.proofs.Common.{◌≡◌, ◌++◌, map, drop, is_none}
use Rattle.std.specs.List.{filter}
use Rattle.name_resolution.specs.Resolution.{number_of}
use Rattle.aidl_names.specs.Rules.{breach}
use Rattle.declared_names.specs.Entries.{entry_of}
use Rattle.aidl_names.proofs.imports.add_unknown.Given as goal

-- the breaches so far and those that are left are all
abbrev pub invariant-loop-import : goal.invariant-loop-import
invariant-loop-import l =
    l.rows.items ++ map (λ i. breach 3 l.number i.offset) (filter (λ i. is_none (number_of (map entry_of l.declarations) i.name.0)) (drop l.import-index l.file.tree.imports))
    ≡ l.fn.rows.items ++ map (λ i. breach 3 l.number i.offset) (filter (λ i. is_none (number_of (map entry_of l.declarations) i.name.0)) l.file.tree.imports)
