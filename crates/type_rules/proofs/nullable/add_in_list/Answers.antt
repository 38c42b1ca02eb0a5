use Rattle.std.proofs.Common.{◌++◌, map, sym, ap, ◌∙◌, append-nil}
use Rattle.std.specs.List.{filter}
use Rattle.std.proofs.Math.ListN.{drop_of_length-le}
use Rattle.aidl_names.specs.Rules.{breach}
use Rattle.aidl_syntax.specs.Trees.{Annot, annot_of}
use Rattle.type_rules.specs.TypeRules.{is_bad_nullable}
use Rattle.type_rules.proofs.Loops.{many}
use Rattle.type_rules.proofs.nullable.add_in_list.Goals as goal

pub returns : goal.returns
returns c =
    let is_broken = is_bad_nullable c.args.nullable c.args.heap in
    sym (append-nil c.loop-annot.rows.items)
    ∙ ap (λ xs. c.loop-annot.rows.items ++ map (λ (a : Annot). breach 14 c.args.file a.offset) (filter is_broken (map annot_of xs))) (sym (drop_of_length-le c.args.annots.now c.loop-annot-test.false))
    ∙ c.loop-annot.invariant
    ∙ ap (λ bs. c.args.rows.now.items ++ bs) (sym (many 14 c.args.file (λ (a : Annot). a.offset) (filter is_broken (map annot_of c.args.annots.now))))
