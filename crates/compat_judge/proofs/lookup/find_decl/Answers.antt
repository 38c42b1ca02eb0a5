use Rattle.std.proofs.Common.{slice_get, sym, ap, ◌∙◌}
use Rattle.compat_judge.proofs.Found.{found_decl, found_none}
use Rattle.compat_judge.proofs.lookup.find_decl.Goals as goal

pub returns-in-Some : goal.returns-in-Some
returns-in-Some c =
    c.at_place.ensures ∙ ap (λ ds. slice_get ds c.in-Some.number) c.as_slice.ensures
    ∙ found_decl c.args.new.now.decls c.args.name.now c.as_str.result.now c.as_str.ensures.bytes c.in-Some.number c.in-Some.ensures

pub returns-in-None : goal.returns-in-None
returns-in-None c = sym (found_none c.args.new.now.decls c.args.name.now c.as_str.result.now c.as_str.ensures.bytes c.in-None.ensures)
