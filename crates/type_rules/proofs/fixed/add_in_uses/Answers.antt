use Rattle.std.proofs.Common.{◌++◌, map, sym, ap, ◌∙◌, append-nil}
use Rattle.std.specs.List.{filter}
use Rattle.std.proofs.Math.ListN.{drop_of_length-le}
use Rattle.aidl_names.specs.Rules.{breach}
use Rattle.declared_names.specs.Entries.{entry_of}
use Rattle.type_uses.specs.TypeUses.{name_place}
use Rattle.type_uses.specs.TypeUseViews.{seen_use}
use Rattle.type_rules.specs.FieldRules.{is_unfixed}
use Rattle.type_rules.proofs.Loops.{many}
use Rattle.type_rules.proofs.fixed.add_in_uses.Goals as goal

pub returns : goal.returns
returns c =
    let is_broken = is_unfixed (map entry_of c.args.marked.now.all.now) in
    sym (append-nil c.loop-used.rows.items)
    ∙ ap (λ us. c.loop-used.rows.items ++ map (λ u. breach 24 c.args.file (name_place u)) (filter is_broken (map seen_use us))) (sym (drop_of_length-le c.args.uses.now c.loop-used-test.false))
    ∙ c.loop-used.invariant
    ∙ ap (λ bs. c.args.rows.now.items ++ bs) (sym (many 24 c.args.file name_place (filter is_broken (map seen_use c.args.uses.now))))
