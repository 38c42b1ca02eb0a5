use Rattle.std.proofs.Common.{◌≡◌, ◌++◌, ℕ, List, [], map, OnOk, ◌∙◌, ap, sym, subst, append-nil}
use Rattle.aidl_base.specs.declared.breach.Breach.{Breach}
use Rattle.declared_names.specs.Entries.{entry_of}
use Rattle.type_uses.specs.TypeUses.{name_place}
use Rattle.type_uses.specs.TypeUseViews.{seen_use}
use Rattle.type_rules.specs.Filters.{Rule, breaches_at, broken_where}
use Rattle.type_rules.specs.AnnotationRules.{BadAnnotation, BadBacking}
use Rattle.type_rules.specs.TypeRules.{BadNullable, BadShape, BadDirection, BadConstant}
use Rattle.type_rules.specs.IdRules.{BadId}
use Rattle.type_rules.specs.MethodRules.{BadOneway, is_bad_oneway}
use Rattle.type_rules.specs.FieldRules.{BadField, NotFixed}
use Rattle.type_rules.specs.Breaches.{broken_by}
use Rattle.type_rules.proofs.Loops.{and_more}
use Rattle.type_rules.proofs.joined.add_broken.Goals as goal

pub returns : goal.returns
unfolding broken_by
returns c =
    let entries = map entry_of c.args.marked.now.all.now in
    let e = entry_of c.args.found.now in
    let uses = map seen_use c.args.uses.now in
    let of = λ (rule : ℕ) (places : Rule). breaches_at rule e.file (places entries e uses) in
    let from24 : List Breach = of 24 NotFixed ++ [] in
    let from21 : List Breach = of 21 BadField ++ from24 in
    let from20 : List Breach = of 20 BadConstant ++ from21 in
    let from19 : List Breach = of 19 BadId ++ from20 in
    let from18 : List Breach = of 18 BadOneway ++ from19 in
    let from17 : List Breach = of 17 BadDirection ++ from18 in
    let from16 : List Breach = of 16 BadShape ++ from17 in
    let from15 : List Breach = of 15 BadBacking ++ from16 in
    let from14 : List Breach = of 14 BadNullable ++ from15 in
    let oneway = c.in_ok-add_where-3.ensures
    ∙ ap (λ b. c.add_where-2.new.rows.items ++ breaches_at 18 e.file (broken_where (is_bad_oneway b) name_place uses)) c.is_oneway_tree-oneway.ensures in
    subst (λ z. OnOk c.add_not_fixed.result (c.add_not_fixed.new.rows.items ≡ z))
    (ap (λ z. c.add_bad_fields.new.rows.items ++ z) (sym (append-nil (of 24 NotFixed)))
    ∙ and_more _ (of 21 BadField) _ from24 c.in_ok-add_bad_fields.ensures
    ∙ and_more _ (of 20 BadConstant) _ from21 c.in_ok-add_where-4.ensures
    ∙ and_more _ (of 19 BadId) _ from20 c.in_ok-add_bad_ids.ensures
    ∙ and_more _ (of 18 BadOneway) _ from19 oneway
    ∙ and_more _ (of 17 BadDirection) _ from18 c.in_ok-add_where-2.ensures
    ∙ and_more _ (of 16 BadShape) _ from17 c.in_ok-add_where.ensures
    ∙ and_more _ (of 15 BadBacking) _ from16 c.in_ok-add_bad_backing.ensures
    ∙ and_more _ (of 14 BadNullable) _ from15 c.in_ok-add_bad_nullables.ensures
    ∙ and_more _ (of 13 BadAnnotation) _ from14 c.in_ok-add_bad_annotations.ensures)
    c.add_not_fixed.ensures
