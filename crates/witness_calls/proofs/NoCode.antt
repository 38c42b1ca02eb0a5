-- No method has the code 0.
use Rattle.std.proofs.Common.{◌≡◌, ℕ, ◌+◌, Bool, true, false, List, [], ◌∷◌, None, refl, ◌∙◌, arith}
use Rattle.std.specs.Prelude.{◌==◌}
use Rattle.std.specs.List.{position_from}
use Rattle.std.proofs.lemmas.Iterator.Adapters.{position_from-zero}
use Rattle.std.proofs.lemmas.Bool.Decides.{nat_tests}
use Rattle.aidl_schema.specs.declared.schema.Method.{Method}
use Rattle.aidl_schema.specs.Find.{position_of_code}

not_zero : (n : ℕ) → (n + 1 == 0) ≡ false
not_zero n = by (n + 1 == 0) refl
  where
    is_zero : (k : ℕ) → (k == 0) ≡ true → k ≡ 0
    is_zero k e = grind (arith, nat_tests)

    by : (b : Bool) → (n + 1 == 0) ≡ b → (n + 1 == 0) ≡ false
    by true e = absurd (omega (arith, is_zero (n + 1) e))
    by false e = e

no_code_from : (k : ℕ) (ms : List Method) → position_from (λ m. m.id + 1 == 0) k ms ≡ None
no_code_from k [] = refl
no_code_from k (m ∷ ms) = rw (not_zero m.id) (no_code_from (k + 1) ms)

pub no_code : (ms : List Method) → position_of_code ms 0 ≡ None
no_code ms = position_from-zero (λ m. m.id + 1 == 0) ms ∙ no_code_from 0 ms
