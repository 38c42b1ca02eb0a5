use Rattle.std.proofs.Common.{map, ap, ◌∙◌}
use Rattle.std.specs.Option.{option_copied}
use Rattle.compat_judge.proofs.Adding.{adds_both, adds_rule}
use Rattle.compat_judge.proofs.Walk.{are_beside}
use Rattle.compat_judge.proofs.rules.broken_inside.Goals as goal

pub at_methods-requires-4 : goal.at_methods-requires-4
at_methods-requires-4 c =
    are_beside c.args.pair.now c.methods_of-olds.result.now c.methods_of-news.result.now c.as_slice-afters.result.now c.methods_of-olds.ensures c.methods_of-news.ensures
    (ap (map option_copied) c.as_slice-afters.ensures.value ∙ c.in-Ok.ensures)

pub broken_from_c9-requires : goal.broken_from_c9-requires
broken_from_c9-requires c =
    are_beside c.args.pair.now c.methods_of-olds.result.now c.methods_of-news.result.now c.as_slice-afters.result.now c.methods_of-olds.ensures c.methods_of-news.ensures
    (ap (map option_copied) c.as_slice-afters.ensures.value ∙ c.in-Ok.ensures)

pub returns : goal.returns
returns c =
    adds_both c.at_lost_methods.ensures (adds_both c.at_methods.ensures (adds_both c.at_methods-2.ensures (adds_both (adds_rule 6 _ _ c.at_methods-3.ensures c.at_arguments.ensures)
    (adds_both c.at_arguments-2.ensures (adds_both c.at_methods-4.ensures c.broken_from_c9.ensures)))))
