-- The codes of methods are below the two that no method has (E19).
use Rattle.std.proofs.Common.{◌≡◌, ℕ, ◌+◌, ◌≤◌, ◌<◌, Bool, true, false, List, Option, Some, None, refl, arith}
use Rattle.std.specs.Prelude.{◌==◌, slice_get}
use Rattle.std.proofs.lemmas.Bool.Decides.{nat_tests}
use Rattle.aidl_schema.specs.declared.schema.Decl.{Decl}
use Rattle.aidl_schema.specs.declared.schema.Method.{Method}
use Rattle.aidl_schema.specs.Find.{methods_at, methods_of_decl, position_of_code}
use Rattle.aidl_schema.specs.Holds.{AllHold, OfEach}
use Rattle.wire_model.specs.MetaStub.{hash_code}
use Rattle.wire_model.proofs.lemmas.Lookups.{position_none}

below_of : (S : List Decl) → AllHold S → (n : ℕ) (o : Option Decl) → slice_get S n ≡ o → OfEach (methods_of_decl o) (λ m. m.id + 1 < hash_code)
below_of S hold n None at = λ k m is. absurd cc
below_of S hold n (Some d) at = λ k m is. let small = (hold n d at).small_ids k m is in omega arith

pub below : (S : List Decl) → AllHold S → (n : ℕ) → OfEach (methods_at S n) (λ m. m.id + 1 < hash_code)
below S hold n = below_of S hold n (slice_get S n) refl

-- a code that is as high is no method's
not_its : (m : Method) (code : ℕ) (b : Bool) → m.id + 1 < hash_code → hash_code ≤ code → (m.id + 1 == code) ≡ b → b ≡ false
not_its m code true lt le e = grind (arith, nat_tests)
not_its m code false lt le e = refl

pub not_a_code : (ms : List Method) (code : ℕ) → OfEach ms (λ m. m.id + 1 < hash_code) → hash_code ≤ code → position_of_code ms code ≡ None
not_a_code ms code small le = position_none (λ m. m.id + 1 == code) ms (λ k m is. not_its m code (m.id + 1 == code) (small k m is) le refl)
