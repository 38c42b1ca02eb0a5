use Rattle.std.proofs.Common.{◌++◌, map, sym, ap, ◌∙◌, append-nil}
use Rattle.std.specs.List.{filter}
use Rattle.std.proofs.Math.ListN.{drop_of_length-le}
use Rattle.aidl_names.specs.Rules.{breach}
use Rattle.declared_names.specs.Entries.{entry_of}
use Rattle.type_uses.specs.TypeUseViews.{seen_use}
use Rattle.type_rules.specs.UseRules.{breaks_of, rule_of, place_of}
use Rattle.type_rules.proofs.Loops.{many}
use Rattle.type_rules.proofs.use_rules.add_where.Goals as goal

pub returns : goal.returns
returns c =
    let is_broken = breaks_of c.args.rule (map entry_of c.args.found.now) c.args.oneway in
    sym (append-nil c.loop-used.rows.items)
    ∙ ap (λ us. c.loop-used.rows.items ++ map (λ u. breach (rule_of c.args.rule) c.args.file (place_of c.args.rule u)) (filter is_broken (map seen_use us))) (sym (drop_of_length-le c.args.uses.now c.loop-used-test.false))
    ∙ c.loop-used.invariant
    ∙ ap (λ bs. c.args.rows.now.items ++ bs) (sym (many (rule_of c.args.rule) c.args.file (place_of c.args.rule) (filter is_broken (map seen_use c.args.uses.now))))
