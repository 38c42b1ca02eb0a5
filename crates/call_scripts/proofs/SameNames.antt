-- The numbers that the names of a call mean to the other side.
use Rattle.std.proofs.Common.{◌≡◌, ℕ, List, Option, Some, None, refl, sym, ap, ◌∙◌}
use Rattle.std.specs.Str.{encode_utf8_all}
use Rattle.std.proofs.lemmas.Slice.Eq.{bytes_eq-Decides}
use Rattle.aidl_schema.specs.declared.schema.Decl.{Decl}
use Rattle.aidl_schema.specs.declared.schema.Method.{Method}
use Rattle.aidl_schema.specs.Broken.{same_method}
use Rattle.aidl_schema.specs.Find.{interface_named, methods_at}
use Rattle.aidl_schema.specs.Names.{bytes_of, name_of}
use Rattle.aidl_schema.specs.Same.{same_text}
use Rattle.wire_model.specs.Calls.{descriptor, name_of_decl}
use Rattle.wire_model.specs.MethodOf.{method_of}
use Rattle.wire_model.specs.Outcome.{declared_as, method_like}
use Rattle.wire_model.proofs.lemmas.NamedTexts.{by_bytes, number_declared, same_position}
use Rattle.call_scripts.specs.Calls.{IsServer, method_of_server}
use Rattle.call_scripts.specs.Names.{method_named, position_named, target_named}
use Rattle.call_scripts.specs.steps.Named.{IsWithin}
use Rattle.aidl_base.proofs.lemmas.Lists.{position_within}
use Rattle.call_scripts.proofs.lemmas.Methods.{found, number-named}

-- the bytes of the descriptor are the name
pub descriptor_bytes : (S : List Decl) (name : List ℕ) (i : ℕ) → interface_named S name ≡ Some i → encode_utf8_all (descriptor S i) ≡ name
descriptor_bytes S name i e =
    let d = found (λ d. same_text (encode_utf8_all (name_of d)) name) S i (number-named S name i e) in
    ap (λ o. encode_utf8_all (name_of_decl o)) d.1 ∙ (bytes_eq-Decides (encode_utf8_all (name_of d.0)) name).0 d.2

-- the interface of a name is the declaration of it
declared : (B : List Decl) (x : List ℕ) (j : ℕ) → interface_named B (encode_utf8_all x) ≡ Some j → declared_as B x ≡ Some j
declared B x j e = sym (number_declared B x) ∙ number-named B (encode_utf8_all x) j e

pub is_server : (A B : List Decl) (name : List ℕ) (i : ℕ) → interface_named A name ≡ Some i → IsServer A B i (interface_named B name)
is_server A B name i e =
    let same = descriptor_bytes A name i e in
    record { named = ap (interface_named B) (sym same); declared = λ j is. declared B (descriptor A i) j (ap (interface_named B) same ∙ is) }

-- the method of the same name
like : (v : Method) (ws : List Method) → position_named ws (bytes_of v.name) ≡ method_like (Some v) ws
like v ws = same_position (λ w. same_text (bytes_of w.name) (bytes_of v.name)) (λ w. same_method v w) (λ w. by_bytes v.name.0 w.name.0) ws

pub is_target : (A B : List Decl) (i m : ℕ) (name : List ℕ) (server : Option ℕ) → method_named A i name ≡ Some m → target_named B server name ≡ method_of_server (method_of A i m) B server
is_target A B i m name None e = refl
is_target A B i m name (Some j) e =
    let v = found (λ w. same_text (bytes_of w.name) name) (methods_at A i) m e in
    let named = (bytes_eq-Decides (bytes_of v.0.name) name).0 v.2 in
    ap (position_named (methods_at B j)) (sym named) ∙ like v.0 (methods_at B j) ∙ ap (λ o. method_like o (methods_at B j)) (sym v.1)

pub target_within : (B : List Decl) (server : Option ℕ) (name : List ℕ) → IsWithin B server (target_named B server name)
target_within B None name = tt
target_within B (Some j) name = by (method_named B j name) refl
  where
    by : (o : Option ℕ) → method_named B j name ≡ o → IsWithin B (Some j) o
    by None e = tt
    by (Some k) e = position_within (λ w. same_text (bytes_of w.name) name) (methods_at B j) k e
