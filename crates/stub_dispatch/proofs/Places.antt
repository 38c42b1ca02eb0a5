-- Where a method with a code stands.
use Rattle.std.proofs.Common.{◌≡◌, ℕ, ◌+◌, ◌<◌, List, [], ◌∷◌, length, Some}
use Rattle.std.specs.Prelude.{◌==◌}
use Rattle.std.proofs.lemmas.List.Quantifiers.{position-Some}
use Rattle.aidl_schema.specs.declared.schema.Method.{Method}
use Rattle.aidl_schema.specs.declared.schema.Decl.{Decl}
use Rattle.aidl_schema.specs.Find.{methods_at, position_of_code}
use Rattle.aidl_base.specs.declared.profile.Profile.{Profile}
use Rattle.stub_dispatch.specs.steps.Calls.{call_received}
use Rattle.wire_model.specs.MethodOf.{method_of}
use Rattle.wire_model.specs.Receiver.{stub}

pub place_there : (ms : List Method) (code m : ℕ) → position_of_code ms code ≡ Some m → m < length ms
place_there [] code m e = cc
place_there (w ∷ ws) code m e = (position-Some (λ v. v.id + 1 == code) (w ∷ ws) m w e).0

-- where a method has the code, the stub goes on to its token
pub stub_found : (p : Profile) (S : List Decl) (i code m : ℕ) (b : List ℕ) → position_of_code (methods_at S i) code ≡ Some m → stub p S i code b ≡ call_received p (method_of S i m) b
unfolding stub
stub_found p S i code m b e = rw e
