-- What a row gives at a place, as the code has it.
use Rattle.std.specs.Prelude.{◌≡◌, List, Option, option_map}
use Rattle.aidl_schema.specs.Broken.{Place}
use Rattle.compat_witness.specs.Candidates.{Candidate}
use Rattle.compat_witness.specs.Rows.{Row}
use Rattle.witness_search.specs.Asked.{candidates_seen}
use Rattle.witness_search.specs.declared.candidates.Candidates.{Candidates}
use Rattle.witness_search.specs.declared.pair.Pair.{Pair}

-- these candidates, and None where there are none
abbrev pub GivesIs : Pair → Option (List Candidate) → Option Candidates → Type 0
GivesIs pair cs o = option_map (candidates_seen pair.old pair.new) o ≡ cs

-- those of a row, and None where its condition isn't met
abbrev pub GivesRow : Row → Pair → Place → Option Candidates → Type 0
GivesRow row pair place o = GivesIs pair (row pair.old pair.new place) o
