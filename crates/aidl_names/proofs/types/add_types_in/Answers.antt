use Rattle.std.proofs.Common.{ℕ, Bor, map, ◌++◌, ◌∙◌, ap, arith}
use Rattle.aidl_syntax.specs.declared.tree.DottedTree.{DottedTree}
use Rattle.aidl_syntax.specs.Sources.{source_of}
use Rattle.aidl_names.specs.Rules.{breach}
use Rattle.aidl_names.specs.TypeRules.{breaks_of, rule_of}
use Rattle.declared_names.proofs.lemmas.Earlier.{goes_on, read-map, one_if}
use Rattle.aidl_names.proofs.Spots.{filter_spot-next}
use Rattle.aidl_names.proofs.types.add_types_in.Goals as goal

pub loop-name-preserved : goal.loop-name-preserved
loop-name-preserved c =
    let rd = read-map (λ (d : Bor DottedTree). d.now) c.as_slice-name-items.result.now c.loop-name.name-index c.name-item.result (omega arith) c.name-item.is in
    goes_on c.loop-name.rows.items c.add_if.new.rows.items _ _ _ _
    (c.in_ok-add_if.ensures
    ∙ ap (λ (r : ℕ). c.loop-name.rows.items ++ one_if c.breaks-broken.result (breach r c.args.inside.now.file c.name-item.result.now.offset)) c.number.ensures
    ∙ ap (λ b. c.loop-name.rows.items ++ one_if b (breach (rule_of c.args.rule) c.args.inside.now.file c.name-item.result.now.offset))
    (c.breaks-broken.ensures ∙ ap (λ name. breaks_of c.args.rule (map source_of c.args.asking.now) c.args.inside.now.file c.args.number name) c.as_slice.ensures))
    (filter_spot-next (rule_of c.args.rule) (λ (d : DottedTree). (c.args.inside.now.file, d.offset))
    (λ d. breaks_of c.args.rule (map source_of c.args.asking.now) c.args.inside.now.file c.args.number d.name.0)
    (map (λ (d : Bor DottedTree). d.now) c.as_slice-name-items.result.now) c.loop-name.name-index c.name-item.result.now rd.0 rd.1)
    c.loop-name.invariant
