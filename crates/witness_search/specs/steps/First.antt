-- The first call that is shown, as the code has it.
use Rattle.std.specs.Prelude.{◌≡◌, List, [], ◌∷◌, Option, Some, None, ◌⊎◌}
use Rattle.aidl_schema.specs.declared.schema.Decl.{Decl}
use Rattle.compat_witness.specs.Candidates.{Candidate, IsShown}
use Rattle.witness_calls.specs.Seen.{call_seen}
use Rattle.witness_calls.specs.Showing.{ShowsIt}
use Rattle.witness_search.specs.declared.shown.Witness.{Witness}

-- The call is this candidate, and is shown by what stands beside it.
abbrev pub Finds : List Decl → List Decl → Candidate → Option Witness → Type 0
Finds old new c None = ⊥
Finds old new c (Some w) = (call_seen w.call ≡ c) × ShowsIt old new c w.showing

-- It is the first of these candidates that is shown, and None where none is.
abbrev pub IsFirst : List Decl → List Decl → List Candidate → Option Witness → Type 0
IsFirst old new [] w = w ≡ None
IsFirst old new (c ∷ cs) w = Finds old new c w ⊎ ((IsShown old new c → ⊥) × IsFirst old new cs w)
