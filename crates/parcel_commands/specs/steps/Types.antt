-- What the code's own words for types stand for.
use Rattle.std.specs.Prelude.{◌≡◌, ℕ, true, List, Result, Ok, Err}
use Rattle.std.specs.List.{list_all}
use Rattle.aidl_schema.specs.declared.schema.Decl.{Decl}
use Rattle.aidl_schema.specs.declared.schema.AidlType.{AidlType}
use Rattle.aidl_schema.specs.Types.{is_type}
use Rattle.parcel_commands.specs.declared.types.Types.{Types}
use Rattle.parcel_commands.specs.declared.types.Types.TheVariants.{Known, Unknown}

abbrev pub types_seen : Types → Result (List AidlType) (List ℕ)
types_seen (Known types) = Ok types.items
types_seen (Unknown entry) = Err entry.now

-- each is a type of the schema
abbrev pub AreKnown : List Decl → Types → Type 0
AreKnown S (Known types) = list_all (is_type S) types.items ≡ true
AreKnown S (Unknown entry) = Unit {0}
