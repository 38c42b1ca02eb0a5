-- What the tables of methods find.
use Rattle.std.proofs.Common.{◌≡◌, ℕ, ◌+◌, ◌==◌, Bool, true, false, List, Option, Some, refl, sym, ap, ◌∙◌, arith}
use Rattle.std.specs.Prelude.{nat_eq}
use Rattle.std.specs.Str.{encode_utf8_all}
use Rattle.std.proofs.lemmas.Bool.Decides.{nat_tests}
use Rattle.std.proofs.lemmas.Iterator.Adapters.{position_from-zero}
use Rattle.aidl_schema.specs.declared.schema.Method.{Method}
use Rattle.aidl_schema.specs.Broken.{same_method}
use Rattle.aidl_schema.specs.Find.{position_of_code}
use Rattle.aidl_schema.specs.Same.{same_text}
use Rattle.wire_model.specs.Outcome.{method_like}
use Rattle.wire_model.proofs.lemmas.NamedTexts.{by_bytes, same_position}
use Rattle.witness_calls.specs.Named.{method_named}
use Rattle.witness_calls.specs.steps.Tables.{id_from}

-- ids are the same where codes are
pub same_code : (m n : ℕ) → nat_eq m n ≡ (m + 1 == n + 1)
same_code m n = by (nat_eq m n) (m + 1 == n + 1) refl refl
  where
    by : (a b : Bool) → nat_eq m n ≡ a → (m + 1 == n + 1) ≡ b → a ≡ b
    by true true e f = refl
    by false false e f = refl
    by true false e f = absurd (grind (arith, nat_tests))
    by false true e f = absurd (grind (arith, nat_tests))

pub id_found : (ms : List Method) (n : ℕ) (o : Option ℕ) → o ≡ id_from n 0 ms → o ≡ position_of_code ms (n + 1)
id_found ms n o e = e ∙ sym (position_from-zero (λ m. m.id + 1 == n + 1) ms)

pub found_like : (ms : List Method) (v : Method) (q : List ℕ) (o : Option ℕ) → q ≡ encode_utf8_all v.name.0 → o ≡ method_named ms q → o ≡ method_like (Some v) ms
found_like ms v q o is e =
    e ∙ ap (method_named ms) is
    ∙ same_position (λ w. same_text (encode_utf8_all w.name.0) (encode_utf8_all v.name.0)) (λ w. same_method v w) (λ w. by_bytes v.name.0 w.name.0) ms
