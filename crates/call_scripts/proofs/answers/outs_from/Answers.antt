use Rattle.std.proofs.Common.{◌≡◌, true, sym, subst, ◌∙◌}
use Rattle.std.specs.List.{list_all}
use Rattle.aidl_schema.specs.Methods.{is_passed_type}
use Rattle.call_scripts.proofs.Passed.{passed_outs}
use Rattle.call_scripts.proofs.answers.outs_from.Goals as goal

pub outs_of_types-requires : goal.outs_of_types-requires
outs_of_types-requires c =
    let S = c.args.schema.now.decls in
    subst (λ l. list_all (λ t. is_passed_type S t) l ≡ true) (sym (c.as_slice.ensures.value ∙ c.in_ok-types.ensures)) (passed_outs S c.args.args.now c.requires)
