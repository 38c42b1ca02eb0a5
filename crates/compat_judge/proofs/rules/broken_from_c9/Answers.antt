use Rattle.compat_judge.proofs.Adding.{adds_both, adds_one, adds_rule}
use Rattle.compat_judge.proofs.rules.broken_from_c9.Goals as goal

pub returns : goal.returns
returns c =
    adds_both c.at_decl.ensures (adds_both c.at_fields.ensures (adds_both c.at_fields-2.ensures (adds_both c.at_fields-3.ensures (adds_both c.at_additions.ensures
    (adds_both c.at_decl-2.ensures (adds_both (adds_rule 15 _ _ c.at_decl-3.ensures c.at_fields-4.ensures) (adds_both c.at_decl-4.ensures
    (adds_both c.at_lost_enumerators.ensures (adds_both c.at_lost_constants.ensures
    (adds_one (adds_rule 19 _ _ c.at_decl-5.ensures (adds_rule 19 _ _ c.at_fields-5.ensures (adds_rule 19 _ _ c.at_arguments.ensures c.at_methods.ensures)))))))))))))
