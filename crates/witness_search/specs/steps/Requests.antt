-- The requests of a group, method by method.
use Rattle.std.specs.Prelude.{Bool, List, [], ◌∷◌}
use Rattle.std.specs.List.{flat_map}
use Rattle.aidl_values.specs.Data.{none, item}
use Rattle.aidl_values.specs.View.{view}
use Rattle.aidl_values.specs.declared.value.Value.{Value}
use Rattle.compat_witness.specs.Candidates.{Candidate, request}
use Rattle.witness_search.specs.declared.candidates.Reach.{Reach}

-- the request of a method with one value
abbrev pub request_of : Bool → Reach → Value → Candidate
request_of back r v = request back r.interface r.method (item (view v) none)

-- with each of these values
abbrev pub requests_of : Bool → List Value → Reach → List Candidate
requests_of back vs r = flat_map (λ v. request_of back r v ∷ []) vs
