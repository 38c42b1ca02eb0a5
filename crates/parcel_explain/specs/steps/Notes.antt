-- What the steps of the noting of items give.
use Rattle.std.specs.Prelude.{◌≡◌, ◌≤◌, ℕ, zero, suc, Bool, List, [], ◌∷◌, ◌++◌, length, map, Some, Result}
use Rattle.std.specs.Prelude.{Ok, Err}
use Rattle.aidl_base.specs.declared.profile.Profile.TheVariants.{Strict}
use Rattle.aidl_schema.specs.declared.schema.AidlType.{AidlType}
use Rattle.aidl_schema.specs.declared.schema.Decl.{Decl}
use Rattle.parcel_words.specs.Place.{Place}
use Rattle.parcel_words.specs.Taken.{status_of}
use Rattle.parcel_words.specs.declared.fault.ReadFault.{ReadFault}
use Rattle.parcel_explain.specs.declared.item.Item.{Item}
use Rattle.parcel_explain.specs.declared.item.ItemKind.{ItemKind}
use Rattle.parcel_explain.specs.declared.noting.Stopped.{Stopped}
use Rattle.parcel_explain.specs.declared.noting.Stopped.TheVariants as stopped
use Rattle.parcel_explain.specs.Items.{items_of, no_items}
use Rattle.parcel_explain.specs.Noted.{Noted, Notes, Part}

-- an item whose offset isn't set yet
abbrev pub unplaced : List ℕ → ItemKind → ℕ → Item
unplaced path kind length = record { offset = 0; length = length; path = path; kind = kind }

-- none of no bytes
abbrev pub unplaced_some : List ℕ → ItemKind → ℕ → List Item
unplaced_some path kind zero = []
unplaced_some path kind (suc n) = unplaced path kind (suc n) ∷ []

abbrev pub unplaced_part : Part → Item
unplaced_part p = unplaced p.path p.kind (length p.bytes)

-- the status of the fault at this path; or memory was wanted
abbrev pub IsWrong : List ℕ → ReadFault → Stopped → Type 0
IsWrong path fault (stopped.Wrong at status) = (at ≡ path) × (status_of fault ≡ Some status)
IsWrong path fault stopped.OutOfMemory = Unit {0}

-- what was found, so seen, and these bytes are left; or the wrong item
abbrev pub Finds : {T A : Type 0} → (T → A) → Result T Stopped → Noted A → List ℕ → Type 0
Finds seen (Ok x) noted rest = noted.found ≡ Ok (seen x, rest)
Finds seen (Err (stopped.Wrong path status)) noted rest = noted.found ≡ Err (record { path = path; status = status })
Finds seen (Err stopped.OutOfMemory) noted rest = Unit {0}

-- the items that were added
abbrev pub Adds : {T A : Type 0} → Result T Stopped → Noted A → List Item → List Item → Type 0
Adds (Ok x) noted before now = now ≡ before ++ map unplaced_part noted.parts
Adds (Err (stopped.Wrong path status)) noted before now = now ≡ before ++ map unplaced_part noted.parts
Adds (Err stopped.OutOfMemory) noted before now = Unit {0}

-- both
abbrev pub Tells : {T A : Type 0} → (T → A) → Result T Stopped → Noted A → List ℕ → List Item → List Item → Type 0
Tells seen result noted rest before now = Finds seen result noted rest × Adds result noted before now

-- where items are noted: the strict profile reads at most 1,048,576 bytes
abbrev pub MayNote : Place → Type 0
MayNote p = (p.profile ≡ Strict) × (length p.bytes ≤ 1048576)

-- nothing but that it is there
abbrev pub done : Unit {0} → Unit {0}
done u = tt

-- a part of what has d levels left
abbrev pub part_items : List Decl → ℕ → AidlType → List ℕ → Bool → List ℕ → Notes
part_items S zero u path inside b = no_items path
part_items S (suc d) u path inside b = items_of S d u path inside b
