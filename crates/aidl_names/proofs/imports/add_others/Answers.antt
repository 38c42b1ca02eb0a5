use Rattle.std.proofs.Common.{◌≡◌, ◌<◌, ◌++◌, length, ◌||◌, [], false, List, map, not, get_or, sym, ◌∙◌, ap, arith}
use Rattle.std.proofs.lemmas.List.{get_or_default}
use Rattle.aidl_syntax.specs.declared.tree.DottedTree.{DottedTree}
use Rattle.declared_names.specs.Names.{same}
use Rattle.aidl_names.specs.Rules.{breach, breaches_at, is_other_import}
use Rattle.declared_names.specs.Numbered.{after_earlier}
use Rattle.declared_names.proofs.lemmas.Earlier.{goes_on, one_if}
use Rattle.aidl_names.proofs.Spots.{earlier_spot-next}
use Rattle.aidl_names.proofs.Alike.{memo-begins, memo-next, other-is}
use Rattle.aidl_names.proofs.imports.add_others.Goals as goal

pub loop-i-init : goal.loop-i-init
loop-i-init c = record {
  all = ap (λ (z : List DottedTree). c.args.rows.now.items ++ breaches_at 2 (map (λ i. (c.args.number, i.offset)) (after_earlier is_other_import [] z))) c.as_slice-imports.ensures;
  memo = memo-begins _ c.in_ok-differ.differ.items (c.in_ok-differ.ensures.items_if_clones_equal (λ y e. e));
}

pub loop-i-preserved : goal.loop-i-preserved
loop-i-preserved c =
    let imports = c.as_slice-imports.result.now in
    let x = c.index-imports-i.result in
    let f = c.index-imports-first.result in
    let count = c.loop-i.invariant.memo.count in
    let within = c.first_place-first.ensures.within in
    let lt : c.first_place-first.result < length c.loop-i.differ.items = omega (arith, count, within) in
    let o : c.either-other.result ≡ (get_or c.loop-i.differ.items c.first_place-first.result false || not (same f.name.0 x.name.0)) =
    c.either-other.ensures ∙ ap (λ b. b || not c.same-another.result) (c.index.ensures ∙ get_or_default c.loop-i.differ.items c.first_place-first.result c.index.result.now false lt)
    ∙ ap (λ b. get_or c.loop-i.differ.items c.first_place-first.result false || not b)
    (c.same-another.ensures ∙ ap (λ z. same z c.as_slice-in-loop-i.result.now) (c.as_slice.ensures ∙ ap (λ (d : DottedTree). d.name.0) (sym c.index-imports-first.is))
    ∙ ap (same f.name.0) c.as_slice-in-loop-i.ensures) in
    record {
      all = goes_on c.loop-i.rows.items c.add_if.new.rows.items _ _ _ _
          (c.in_ok-add_if.ensures ∙ ap (λ b. c.loop-i.rows.items ++ one_if b (breach 2 c.args.number x.offset))
          (o ∙ other-is imports c.loop-i.differ.items c.loop-i.i c.first_place-first.result x f (omega arith) c.index-imports-i.is c.first_place-first.ensures.first c.first_place-first.ensures.within c.index-imports-first.is c.loop-i.invariant.memo))
          (earlier_spot-next 2 (λ (i : DottedTree). (c.args.number, i.offset)) is_other_import imports c.loop-i.i x (omega arith) c.index-imports-i.is)
          c.loop-i.invariant.all;
      memo = memo-next imports c.loop-i.differ.items c.loop-i.i c.first_place-first.result x f c.either-other.result (omega arith) c.index-imports-i.is c.first_place-first.ensures.first c.index-imports-first.is c.loop-i.invariant.memo o;
    }
