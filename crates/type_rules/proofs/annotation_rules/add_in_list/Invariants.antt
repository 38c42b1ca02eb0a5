use Rattle.std.proofs.Common.{◌≡◌, ◌++◌, map, take, drop}
use Rattle.aidl_syntax.specs.Trees.{annot_of}
use Rattle.declared_names.specs.Numbered.{after_earlier}
use Rattle.aidl_names.proofs.lemmas.Taken.{AreSeen}
use Rattle.type_rules.specs.AnnotationRules.{bad_annotations, is_bad_annotation}
use Rattle.type_rules.specs.Filters.{breaches_at}
use Rattle.type_rules.proofs.annotation_rules.add_in_list.Given as goal

-- the breaches so far and those that are left are all; the names so far were seen
abbrev pub invariant-loop-annot : goal.invariant-loop-annot
invariant-loop-annot l = record {
  all : l.rows.items ++ breaches_at 13 l.file (map (λ a. a.offset) (after_earlier (is_bad_annotation l.stand) (take l.annot-index (map annot_of l.annots)) (drop l.annot-index (map annot_of l.annots))))
      ≡ l.fn.rows.items ++ breaches_at 13 l.file (bad_annotations l.stand (map annot_of l.annots));
  seen : AreSeen l.seen.keys (map (λ a. a.name) (take l.annot-index (map annot_of l.annots)));
}
