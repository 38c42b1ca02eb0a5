-- A parcel that is to be carried.
use Rattle.std.specs.Prelude.{ℕ, List}
use Rattle.aidl_outside.specs.declared.link.Carried.{Carried}
use Rattle.aidl_outside.specs.declared.link.Way.{Way}

pub record Parcel : Type 0 where
  pub way : Way
  pub code : ℕ
  pub sent : List ℕ

-- a parcel by its parts
abbrev pub parcel : Way → ℕ → List ℕ → Parcel
parcel way code sent = record { way = way; code = code; sent = sent }

-- the parcel that was carried
abbrev pub parcel_of : Carried → Parcel
parcel_of entry = record { way = entry.way; code = entry.code; sent = entry.sent }
