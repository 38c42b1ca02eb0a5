-- What a reader's fields stand for.
use Rattle.std.specs.Prelude.{◌≡◌, ℕ, zero, suc, ◌≤◌, List, [], ◌∷◌, length, slice_index}
use Rattle.parcel_words.specs.declared.reader.WordReader.TheInside.{Inside}
use Rattle.parcel_words.specs.Place.{Place}

-- the ends of the open records: the innermost is a field of its own, the others stand in the row, the outermost first
abbrev pub ends_of : ℕ → ℕ → List ℕ → List ℕ
ends_of zero end outer = []
ends_of (suc n) end outer = end ∷ ends_of n (slice_index outer n) outer

abbrev pub place_of : Inside → Place
place_of a =
    record { profile = a.profile; bytes = a.bytes.now; position = a.position; ends = ends_of a.open a.end a.outer }

-- each end is within the one around it, and the outermost is that of the bytes
abbrev pub IsNested : ℕ → ℕ → List ℕ → ℕ → Type 0
IsNested zero end outer len = end ≡ len
IsNested (suc n) end outer len = (end ≤ slice_index outer n) × IsNested n (slice_index outer n) outer len

-- The position is within the limit, and the limit within the bytes. At most 64 records are open, each within the
-- one around it.
pub record IsPlace (a : Inside) : Type 0 where
  pub passed : a.position ≤ a.end
  pub within : a.end ≤ length a.bytes.now
  pub whole : a.open ≡ 0 → a.end ≡ length a.bytes.now
  pub few : a.open ≤ 64
  pub nested : IsNested a.open a.end a.outer (length a.bytes.now)
