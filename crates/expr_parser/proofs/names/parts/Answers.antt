use Rattle.std.proofs.Common.{◌≡◌, sym, refl, ◌∙◌, true, [], ◌∷◌, subst}
use Rattle.std.proofs.lemmas.Result.{err_from_is_err_and}
use Rattle.expr_parser.specs.Gives.{Gives}
use Rattle.expr_parser.specs.Reading.{names, name_of}
use Rattle.expr_parser.proofs.lemmas.Looping.{name_dot, name_last, name_none, name_no_more, with_no_names, fails_over}
use Rattle.expr_parser.proofs.names.parts.Goals as goal

pub returns-in_err-part-in-Some-clause-gives : goal.returns-in_err-part-in-Some-clause-gives
returns-in_err-part-in-Some-clause-gives c =
    let p = err_from_is_err_and c.from_residual.result c.from_residual.ensures.1 in
    rw (p.1, p.2) (fails_over c.in_err-part-in-Some.field-0.0 (name_of c.in-Some.t.now.kind) (names true c.args.tokens.now) c.in_err-part-in-Some.ensures
    (λ e. sym (with_no_names (names true c.args.tokens.now)) ∙ name_none [] c.in-Some.t.now c.args.tokens.now c.in-Some.after.now c.in-Some.ensures e))

pub returns-in-Some-after_dot-clause-gives : goal.returns-in-Some-after_dot-clause-gives
returns-in-Some-after_dot-clause-gives c =
    subst (Gives (λ x. (x.0, x.1.now)) c.parts_behind.result)
    (name_dot [] (c.in_ok-part-in-Some.part ∷ []) c.in_ok-part-in-Some.part c.in-Some.t.now c.args.tokens.now c.in-Some.after.now c.in-Some-after_dot.rest.now c.in-Some.ensures c.in_ok-part-in-Some.ensures (sym c.in-Some-after_dot.ensures.value) refl
    ∙ with_no_names (names true c.args.tokens.now))
    c.parts_behind.ensures.gives

pub returns-in-None-after_dot-clause-gives : goal.returns-in-None-after_dot-clause-gives
returns-in-None-after_dot-clause-gives c =
    rw c.one.ensures (sym (with_no_names (names true c.args.tokens.now))
    ∙ name_last [] (c.in_ok-part-in-Some.part ∷ []) c.in_ok-part-in-Some.part c.in-Some.t.now c.args.tokens.now c.in-Some.after.now c.in-Some.ensures c.in_ok-part-in-Some.ensures (sym c.in-None-after_dot.ensures.value) refl)

pub returns-in-None-clause-gives : goal.returns-in-None-clause-gives
returns-in-None-clause-gives c = sym (with_no_names (names true c.args.tokens.now)) ∙ name_no_more [] c.args.tokens.now c.in-None.ensures
