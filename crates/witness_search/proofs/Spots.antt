-- The method that a place names is found by the bytes of the place.
use Rattle.std.proofs.Common.{◌≡◌, ℕ, List, Option, Some, None, refl, ap, ◌∙◌}
use Rattle.std.specs.Prelude.{option_and_then}
use Rattle.std.specs.List.{position}
use Rattle.std.specs.Str.{encode_utf8_all}
use Rattle.aidl_schema.specs.declared.schema.Decl.{Decl}
use Rattle.aidl_schema.specs.Find.{methods_at, number_of_name}
use Rattle.aidl_schema.specs.Same.{same_text}
use Rattle.wire_model.specs.Outcome.{declared_as}
use Rattle.compat_witness.specs.Places.{at_last_dot, spot_at, spot_of}
use Rattle.witness_search.specs.steps.Named.{method_named, spot_named}
use Rattle.witness_search.proofs.NamedTexts.{method_by_bytes}
use Rattle.wire_model.proofs.lemmas.NamedTexts.{number_declared}
use Rattle.witness_search.proofs.PlaceBytes.{halves, dots_by_bytes}

in_interface : (S : List Decl) (x : List ℕ) (i : Option ℕ) → option_and_then (λ i. spot_at S i (method_named (methods_at S i) (encode_utf8_all x))) i
    ≡ option_and_then (λ i. spot_at S i (position (λ v. same_text v.name.0 x) (methods_at S i))) i
in_interface S x None = refl
in_interface S x (Some i) = ap (spot_at S i) (method_by_bytes (methods_at S i) x)

in_halves : (S : List Decl) (o : Option (List ℕ × List ℕ)) → option_and_then (λ q. option_and_then (λ i. spot_at S i (method_named (methods_at S i) q.1)) (number_of_name S q.0)) (halves o)
    ≡ option_and_then (λ q. option_and_then (λ i. spot_at S i (position (λ v. same_text v.name.0 q.1) (methods_at S i))) (declared_as S q.0)) o
in_halves S None = refl
in_halves S (Some q) = in_interface S q.1 (number_of_name S (encode_utf8_all q.0))
    ∙ ap (λ o. option_and_then (λ i. spot_at S i (position (λ v. same_text v.name.0 q.1) (methods_at S i))) o) (number_declared S q.0)

pub spot_by_bytes : (S : List Decl) (p : List ℕ) → spot_named S (encode_utf8_all p) ≡ spot_of S p
spot_by_bytes S p =
    ap (λ o. option_and_then (λ q. option_and_then (λ i. spot_at S i (method_named (methods_at S i) q.1)) (number_of_name S q.0)) o) (dots_by_bytes p)
    ∙ in_halves S (at_last_dot p)
