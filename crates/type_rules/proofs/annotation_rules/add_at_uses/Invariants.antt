use Rattle.std.proofs.Common.{◌≡◌, ◌++◌, map, drop}
use Rattle.std.specs.List.{flat_map}
use Rattle.type_rules.specs.AnnotationRules.{bad_annotations}
use Rattle.type_rules.specs.Filters.{breaches_at}
use Rattle.type_uses.specs.TypeUses.{annotations_of, stand_of}
use Rattle.type_uses.specs.TypeUseViews.{seen_use}
use Rattle.type_rules.proofs.annotation_rules.add_at_uses.Given as goal

-- the breaches so far and those that are left are all
abbrev pub invariant-loop-used : goal.invariant-loop-used
invariant-loop-used l =
    l.rows.items ++ breaches_at 13 l.file (flat_map (λ u. bad_annotations (stand_of u) (annotations_of u)) (map seen_use (drop l.used-index l.uses)))
    ≡ l.fn.rows.items ++ breaches_at 13 l.file (flat_map (λ u. bad_annotations (stand_of u) (annotations_of u)) (map seen_use l.uses))
