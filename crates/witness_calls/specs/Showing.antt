-- When a call shows a broken rule, and what it shows (own).
use Rattle.std.specs.Prelude.{◌≡◌, true, List, Option, Some, None}
use Rattle.aidl_schema.specs.declared.schema.Decl.{Decl}
use Rattle.compat_witness.specs.Alike.{IsShort}
use Rattle.compat_witness.specs.Candidates.{Candidate, IsShown, bytes_of, read_side, projected_side}
use Rattle.witness_calls.specs.declared.showing.Showing.{Showing}
use Rattle.witness_calls.specs.declared.showing.Tried.{Tried}
use Rattle.witness_calls.specs.Seen.{reading_seen}

-- its bytes, what is read of them, and what its values are projected to
pub record ShowsIt (old new : List Decl) (c : Candidate) (s : Showing) : Type 0 where
  pub is_shown : IsShown old new c
  pub bytes : s.bytes ≡ bytes_of old new c
  pub read : reading_seen s.read ≡ read_side old new c
  pub projected : reading_seen s.projected ≡ projected_side old new c

-- what it shows, or that it shows nothing
abbrev pub Tries : List Decl → List Decl → Candidate → Option Showing → Type 0
Tries old new c None = IsShown old new c → ⊥
Tries old new c (Some s) = ShowsIt old new c s

-- the same of a call that was tried; and where it is said to be short, it has at most 1,048,576 bytes, if its
-- values fit
pub record IsTried (old new : List Decl) (c : Candidate) (t : Tried) : Type 0 where
  pub tries : Tries old new c t.showing
  pub short : t.short ≡ true → IsShort old new c
