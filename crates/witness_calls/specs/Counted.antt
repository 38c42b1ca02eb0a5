-- What counts of a call between two versions: its bytes, with its two sides (own).
use Rattle.std.specs.Prelude.{◌≡◌, ℕ, ◌≤◌, List, length, Option, Some, None}
use Rattle.aidl_schema.specs.declared.schema.Decl.{Decl}
use Rattle.compat_witness.specs.Candidates.{Values, fit_between, bytes_between}
use Rattle.compat_witness.specs.Candidates.{read_between, projected_between}
use Rattle.compat_witness.specs.Sides.{Side}
use Rattle.wire_model.specs.MethodOf.{MethodOf}
use Rattle.witness_calls.specs.declared.showing.Showing.{Showing}
use Rattle.witness_calls.specs.Seen.{reading_seen}

-- what counts: the values fit, and these are the bytes, which aren't too many
pub record AreCounted (Fits : Type 0) (bytes spelled : List ℕ) : Type 0 where
  pub fits : Fits
  pub are : spelled ≡ bytes
  pub small : length bytes ≤ 1048576

-- what doesn't
pub record NoneCount (Fits : Type 0) (bytes : List ℕ) : Type 0 where
  pub nothing : Fits → length bytes ≤ 1048576 → ⊥

-- the bytes where they count, or none where they don't
abbrev pub IsCounted : Type 0 → List ℕ → Option (List ℕ) → Type 0
IsCounted Fits bytes None = NoneCount Fits bytes
IsCounted Fits bytes (Some spelled) = AreCounted Fits bytes spelled

-- bytes that count, with the two sides of their call
pub record AreWeighed (Fits : Type 0) (of_bytes : List ℕ) (of_read of_values : Side) (s : Showing) : Type 0 where
  pub bytes : AreCounted Fits of_bytes s.bytes
  pub read : reading_seen s.read ≡ of_read
  pub projected : reading_seen s.projected ≡ of_values

-- these, or none
abbrev pub IsWeighedBy : Type 0 → List ℕ → Side → Side → Option Showing → Type 0
IsWeighedBy Fits bytes read projected None = NoneCount Fits bytes
IsWeighedBy Fits bytes read projected (Some s) = AreWeighed Fits bytes read projected s

-- the same of what is sent between a client A and a server B
abbrev pub IsWeighedBetween : MethodOf → List Decl → Values → Option Showing → Type 0
IsWeighedBetween a B values o =
    IsWeighedBy (fit_between a B values) (bytes_between a B values) (read_between a B values)
    (projected_between a B values) o
