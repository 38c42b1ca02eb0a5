-- What two sides show.
use Rattle.std.specs.Prelude.{◌≡◌, true, Option, Some, None}
use Rattle.witness_calls.specs.declared.showing.Showing.{Showing}
use Rattle.witness_calls.specs.declared.showing.Tried.{Tried}
use Rattle.witness_calls.specs.Seen.{reading_seen}

-- the two sides of a call that counts, where they differ; nothing where they are the same
abbrev pub ShowsBy : Showing → Option Showing → Type 0
ShowsBy s None = reading_seen s.read ≡ reading_seen s.projected
ShowsBy s (Some shown) = (shown ≡ s) × (reading_seen s.read ≡ reading_seen s.projected → ⊥)

-- and that it is short
pub record IsShownBy (s : Showing) (t : Tried) : Type 0 where
  pub shows : ShowsBy s t.showing
  pub short : t.short ≡ true
