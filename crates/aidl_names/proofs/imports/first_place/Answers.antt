use Rattle.std.proofs.Common.{◌≤◌, ℕ, Option, Some, sym, subst, ◌∙◌, ap}
use Rattle.std.specs.Prelude.{unwrap_or}
use Rattle.std.specs.List.{position_from}
use Rattle.aidl_names.specs.Alike.{is_alike}
use Rattle.aidl_names.proofs.Alike.{placed}
use Rattle.aidl_names.proofs.imports.first_place.Goals as goal

pub returns-clause-first : goal.returns-clause-first
returns-clause-first c =
    let w = placed c.args.imports.now c.args.i c.args.import.now c.requires.lies c.requires.here in
    let n = ap (λ name. position_from (is_alike name) 0 c.args.imports.now) c.as_slice.ensures in
    w.1 ∙ ap Some (sym (c.unwrap_or.ensures ∙ ap (λ (o : Option ℕ). unwrap_or o c.args.i) (c.first_alike.ensures ∙ n ∙ w.1)))

pub returns-clause-within : goal.returns-clause-within
returns-clause-within c =
    let w = placed c.args.imports.now c.args.i c.args.import.now c.requires.lies c.requires.here in
    let n = ap (λ name. position_from (is_alike name) 0 c.args.imports.now) c.as_slice.ensures in
    let P : ℕ → Type 0 = λ z. z ≤ c.args.i in
    subst P (sym (c.unwrap_or.ensures ∙ ap (λ (o : Option ℕ). unwrap_or o c.args.i) (c.first_alike.ensures ∙ n ∙ w.1))) w.2
