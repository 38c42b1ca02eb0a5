-- What the handler answers for a method: it fits, also where the method isn't the line's.
use Rattle.std.proofs.Common.{◌≡◌, ℕ, ◌==◌, Bool, true, false, cond, List, Option, Some, None, refl, subst, arith}
use Rattle.std.proofs.lemmas.Bool.Decides.{nat_tests}
use Rattle.aidl_schema.specs.declared.schema.Decl.{Decl}
use Rattle.wire_model.specs.MethodOf.{method_of}
use Rattle.wire_model.specs.Requests.{AnswerFits}
use Rattle.call_scripts.specs.Calls.{TargetData, TargetFits}
use Rattle.call_runner.specs.Lines.{scripted}
use Rattle.stub_dispatch.specs.Unscripted.{not_scripted}
use Rattle.stub_dispatch.proofs.lemmas.Unscripted.{unscripted_fits}

pub scripted_fits : (S : List Decl) (i : ℕ) (target : Option TargetData) (m : ℕ) → TargetFits S (Some i) target → AnswerFits (method_of S i m) (scripted target m)
scripted_fits S i None m fits = unscripted_fits S i m
scripted_fits S i (Some t) m fits = by_test (t.method == m) refl
  where
    by_test : (b : Bool) → (t.method == m) ≡ b → AnswerFits (method_of S i m) (cond b t.answer not_scripted)
    by_test true e = let same : t.method ≡ m = grind (arith, nat_tests) in subst (λ k. AnswerFits (method_of S i k) t.answer) same fits
    by_test false e = unscripted_fits S i m
