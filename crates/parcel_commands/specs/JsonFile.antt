-- What a file of JSON stands for: one value for each of some types (own).
use Rattle.std.specs.Prelude.{ℕ, suc, ◌==◌, if◌then◌else◌, List, [], ◌∷◌, length, Option, Some, None, Ok, decimal}
use Rattle.std.specs.Option.{option_map}
use Rattle.serde_json.specs.Data as json
use Rattle.serde_json.specs.Data.{array, no_items, item}
use Rattle.aidl_schema.specs.declared.schema.Decl.{Decl}
use Rattle.aidl_schema.specs.declared.schema.AidlType.{AidlType}
use Rattle.aidl_values.specs.Data.{Data}
use Rattle.aidl_values.specs.Fits.{Fits}
use Rattle.json_values.specs.FromJson.{from_json_of}
use Rattle.json_values.specs.Gives.{refusal_of}
use Rattle.json_values.specs.Refusal.{Answer, ◌>>=◌, Refusal, below, refuse, within, wrong_shape}
use Rattle.parcel_commands.specs.declared.json_file.Unread.{Unread}
use Rattle.parcel_commands.specs.declared.json_file.Unread.TheVariants as unread

-- how many elements there are
abbrev pub elements : json.Items → ℕ
elements no_items = 0
elements (item j js) = suc (elements js)

-- a value of each type, of the element at its place; the first of these is at place k
abbrev pub values_from : List Decl → ℕ → List AidlType → json.Items → Answer (List Data)
values_from S k (t ∷ ts) (item j js) = do
  first ← within (decimal k) (from_json_of S 64 t j)
  others ← values_from S (suc k) ts js
  Ok (first ∷ others)
values_from S k [] js = Ok []
values_from S k (t ∷ ts) no_items = Ok []

-- an array of as many elements as there are types
abbrev pub values_of : List Decl → List AidlType → json.Data → Answer (List Data)
values_of S ts (array js) = if length ts == elements js then values_from S 0 ts js else refuse wrong_shape
values_of S ts _ = refuse wrong_shape

-- one value for each type, which fits it
abbrev pub AreTyped : List Decl → List AidlType → List Data → Type 0
AreTyped S [] [] = Unit {0}
AreTyped S [] (v ∷ vs) = ⊥
AreTyped S (t ∷ ts) [] = ⊥
AreTyped S (t ∷ ts) (v ∷ vs) = Fits S t v × AreTyped S ts vs

-- the refusal that the code found; None is a want of memory
abbrev pub unread_refusal : Unread → Option Refusal
unread_refusal unread.Shape = Some (record { reason = wrong_shape; at = [] })
unread_refusal (unread.Value place fault) = option_map (below (decimal place)) (refusal_of fault)
unread_refusal unread.OutOfMemory = None
