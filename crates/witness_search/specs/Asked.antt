-- The candidates that the code's calls and groups of requests stand for.
use Rattle.std.specs.Prelude.{ℕ, List, [], ◌∷◌, ◌++◌, map, Option, Some, None}
use Rattle.aidl_schema.specs.declared.schema.Decl.{Decl}
use Rattle.aidl_values.specs.View.{view}
use Rattle.compat_witness.specs.Candidates.{Candidate, client_of, server_of}
use Rattle.compat_witness.specs.Reaching.{asks, methods_reaching}
use Rattle.witness_calls.specs.Seen.{call_seen}
use Rattle.witness_search.specs.declared.candidates.Candidates.{Candidates}
use Rattle.witness_search.specs.declared.candidates.Group.{Group}
use Rattle.witness_search.specs.declared.candidates.Part.{Part}
use Rattle.witness_search.specs.declared.candidates.Part.TheVariants.{Call, Requests}
use Rattle.witness_search.specs.declared.candidates.Reach.{Reach}

-- the number of an interface and the position of a method
abbrev pub method_seen : Reach → ℕ × ℕ
method_seen r = (r.interface, r.method)

-- requests of each method that reaches the declaration with each value
abbrev pub group_seen : List Decl → List Decl → Group → List Candidate
group_seen old new g = asks g.back
    (methods_reaching (client_of g.back old new) g.number (server_of g.back old new)) (map view g.values)

-- a call, or requests
abbrev pub part_seen : List Decl → List Decl → Part → List Candidate
part_seen old new (Call c) = call_seen c ∷ []
part_seen old new (Requests g) = group_seen old new g

-- a part, and the other one where there is one
abbrev pub parts_seen : List Decl → List Decl → Part → Option Part → List Candidate
parts_seen old new p None = part_seen old new p
parts_seen old new p (Some q) = part_seen old new p ++ part_seen old new q

abbrev pub candidates_seen : List Decl → List Decl → Candidates → List Candidate
candidates_seen old new c = parts_seen old new c.first c.second
