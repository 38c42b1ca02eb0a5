use Rattle.std.proofs.Common.{◌≡◌, ◌++◌, map, drop}
use Rattle.std.specs.List.{filter}
use Rattle.aidl_names.specs.Rules.{breach}
use Rattle.aidl_syntax.specs.Trees.{annot_of}
use Rattle.type_rules.specs.TypeRules.{is_bad_nullable}
use Rattle.type_rules.proofs.nullable.add_in_list.Given as goal

-- the breaches so far and those that are left are all
abbrev pub invariant-loop-annot : goal.invariant-loop-annot
invariant-loop-annot l =
    l.rows.items ++ map (λ a. breach 14 l.file a.offset) (filter (is_bad_nullable l.nullable l.heap) (map annot_of (drop l.annot-index l.annots)))
    ≡ l.fn.rows.items ++ map (λ a. breach 14 l.file a.offset) (filter (is_bad_nullable l.nullable l.heap) (map annot_of l.annots))
