-- How the items of a parcel end, and how reading its values does (own).
use Rattle.std.specs.Prelude.{◌≡◌, ℕ, ℤ, Bool, true, false, List, [], ◌∷◌, ◌++◌, Option, Some, None, Result, Ok, Err}
use Rattle.aidl_base.specs.declared.profile.Profile.TheVariants.{Strict}
use Rattle.aidl_base.specs.Readings.{◌>>=◌}
use Rattle.aidl_schema.specs.declared.schema.AidlType.{AidlType}
use Rattle.aidl_schema.specs.declared.schema.Decl.{Decl}
use Rattle.wire_model.specs.ReadOf.{read_of}
use Rattle.parcel_explain.specs.declared.item.ItemKind.{ItemKind}
use Rattle.parcel_explain.specs.declared.item.ItemKind.TheVariants as kind
use Rattle.parcel_explain.specs.Noted.{Part, part, part_of_some}

-- the status of a stop; a part of another kind has none
abbrev pub status_in : ItemKind → Option ℤ
status_in (kind.Stop status) = Some status
status_in _ = None

-- the status of the last part
abbrev pub last_status : List Part → Option ℤ
last_status [] = None
last_status (p ∷ []) = status_in p.kind
last_status (p ∷ q ∷ ps) = last_status (q ∷ ps)

-- no part before the last is a stop
abbrev pub NoneStopsBefore : List Part → Type 0
NoneStopsBefore [] = Unit {0}
NoneStopsBefore (p ∷ []) = Unit {0}
NoneStopsBefore (p ∷ q ∷ ps) = (status_in p.kind ≡ None) × NoneStopsBefore (q ∷ ps)

-- what is left once values of these types were read strictly, one after the other; or the status of the first that
-- isn't read
abbrev pub read_each : List Decl → List AidlType → List ℕ → Result (List ℕ) ℤ
read_each S [] b = Ok b
read_each S (t ∷ ts) b = read_of Strict S 64 t false b >>= λ x. read_each S ts x.1

-- the status, where reading has one
abbrev pub status_of_end : Result (List ℕ) ℤ → Option ℤ
status_of_end (Ok rest) = None
status_of_end (Err status) = Some status

-- a kind of parts that values have: neither what is left nor a stop
abbrev pub is_of_value : ItemKind → Bool
is_of_value kind.Left = false
is_of_value (kind.Stop status) = false
is_of_value _ = true

-- parts of values alone
abbrev pub AreOfValues : List Part → Type 0
AreOfValues [] = Unit {0}
AreOfValues (p ∷ ps) = (is_of_value p.kind ≡ true) × AreOfValues ps

-- parts of values, and behind them what is left, where anything is; or a stop with the status
abbrev pub EndsBy : List Part → Result (List ℕ) ℤ → Type 0
EndsBy parts (Ok rest) = (values : List Part) × AreOfValues values × (parts ≡ values ++ part_of_some [] kind.Left rest)
EndsBy parts (Err status) = (values : List Part) × AreOfValues values × (path wrong : List ℕ)
    × (parts ≡ values ++ part path (kind.Stop status) wrong)
