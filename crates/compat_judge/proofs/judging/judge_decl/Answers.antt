use Rattle.std.proofs.Common.{◌≡◌, ◌++◌, ℕ, List, Option, Some, not, true, ap, subst, ◌∙◌}
use Rattle.std.specs.List.{find}
use Rattle.aidl_base.specs.Names.{dotted}
use Rattle.aidl_schema.specs.declared.schema.Decl.{Decl}
use Rattle.aidl_schema.specs.Broken.{broken_by, if_found, is_there_and, of_rule, place_if, same_name, whole}
use Rattle.aidl_schema.specs.Same.{same_text}
use Rattle.compat_judge.proofs.Adding.{adds_as}
use Rattle.compat_judge.proofs.judging.judge_decl.Goals as goal

-- what is found by the text of the name is found by the declaration
pub returns : goal.returns
returns c =
    let d = c.args.decl.now in
    let new = c.args.new.now.decls in
    let after : Some c.in-Some.after.now ≡ find (λ e. same_name d e) new =
    subst (λ (x : List ℕ). Some c.in-Some.after.now ≡ find (λ e. same_text x (whole e)) new) (c.in-Ok.ensures ∙ ap dotted c.as_slice.ensures) c.in-Some.ensures in
    adds_as (ap (λ (o : Option Decl). of_rule 1 (place_if (whole d) (not (is_there_and (λ y. true) o))) ++ if_found (λ e. broken_by c.args.old.now.decls d new e) o) after) c.broken_by.ensures
