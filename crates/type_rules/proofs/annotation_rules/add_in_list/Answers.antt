use Rattle.std.proofs.Common.{◌++◌, map, take, refl, sym, ◌∙◌, ap, subst, arith}
use Rattle.aidl_syntax.specs.Trees.{Annot, annot_of}
use Rattle.aidl_names.specs.Rules.{breach}
use Rattle.declared_names.proofs.lemmas.Earlier.{goes_on, read-map, one_if}
use Rattle.aidl_names.proofs.lemmas.Taken.{AreSeen, again-is, seen-next}
use Rattle.type_uses.specs.Annotations.{row_of}
use Rattle.type_rules.specs.AnnotationRules.{is_bad_annotation, breaks_row}
use Rattle.type_rules.proofs.Loops.{mapped-next, placed-next}
use Rattle.type_rules.proofs.annotation_rules.add_in_list.Goals as goal

pub loop-annot-preserved : goal.loop-annot-preserved
loop-annot-preserved c =
    let annots = map annot_of c.args.annots.now in
    let i = c.loop-annot.annot-index in
    let a = annot_of c.annot-item.result in
    let name = λ (x : Annot). x.name in
    let before = map name (take i annots) in
    let rd = read-map annot_of c.args.annots.now i c.annot-item.result (omega arith) c.annot-item.is in
    record {
      all = goes_on c.loop-annot.rows.items c.add_if.new.rows.items _ _ _ _
          (c.in_ok-add_if.ensures ∙ ap (λ b. c.loop-annot.rows.items ++ one_if b (breach 13 c.args.file a.offset))
          (c.breaks_row-broken.ensures ∙ ap (λ again. breaks_row c.args.stand a.params again (row_of a))
          (again-is _ c.loop-annot.seen.keys c.as_str.result before a.name c.in_ok-added.added (λ k. refl) c.as_str.ensures.bytes c.in_ok-added.ensures.added c.loop-annot.invariant.seen)))
          (placed-next 13 c.args.file (λ (x : Annot). x.offset) (is_bad_annotation c.args.stand) annots i a rd.0 rd.1)
          c.loop-annot.invariant.all;
      seen = subst (AreSeen c.insert.new.self.keys) (sym (mapped-next name annots i a rd.0 rd.1))
          (seen-next _ c.loop-annot.seen.keys c.insert.new.self.keys c.as_str.result before a.name (λ k. refl) c.as_str.ensures.bytes c.in_ok-added.ensures.keys c.loop-annot.invariant.seen);
    }
