-- Which calls are made of a store for the versions of an API: it is listed once, and then, where the listing passes no
-- limit, the files of each version are read in the order of the versions, one only where none before it is too long
-- (own).
use Rattle.std.specs.Prelude.{◌≡◌, ℕ, ◌⊎◌, List, [], ◌∷◌, ◌++◌, map, flat_map, Result, Ok, Err}
use Rattle.aidl_base.specs.declared.limit.LimitName.TheVariants.{FileBytes}
use Rattle.aidl_outside.specs.Asks.{Asks, AsksInOrder}
use Rattle.aidl_outside.specs.Faults.{FailedIn, StoreCall, StoreFaults, listing as lists}
use Rattle.aidl_outside.specs.Files.{listing, path_below}
use Rattle.aidl_outside.specs.Told.{Tells}
use Rattle.api_versions.specs.declared.fault.VersionsFault.{VersionsFault}
use Rattle.api_versions.specs.declared.fault.VersionsFault.TheVariants as fault
use Rattle.api_versions.specs.Folders.{Folder}
use Rattle.api_versions.specs.Versions.{folders_in, hash_path, present, version_folder}

-- the paths that are read in the folder of a version: those of its sources, and then that of its `.hash`
abbrev pub paths_read : List ℕ → Folder → List (List ℕ)
paths_read api f = map (path_below (version_folder api f.number)) f.sources ++ hash_path api f.number ∷ []

-- what stands in some folders is read in order, one folder after another
abbrev pub AsksFolders : List ℕ → List Folder → Asks
AsksFolders api fs = AsksInOrder FileBytes (flat_map (paths_read api) fs)

-- What is below a path is listed, and where the listing passes no limit, what stands in the folders that it shows is read
-- in order.
abbrev pub AsksVersions : List ℕ → Asks
AsksVersions api kept call = (call ≡ lists api)
    ⊎ ((fs : List Folder) × AsksFolders api (present fs) kept call
    × Tells kept (λ files. folders_in (listing api files) ≡ Ok fs))

-- where the store failed: one of these calls
abbrev pub FaultCall : (StoreCall → Type 0) → StoreFaults → VersionsFault → Type 0
FaultCall Asked faults (fault.BadVersions missing) = Unit {0}
FaultCall Asked faults (fault.Limit limit) = Unit {0}
FaultCall Asked faults fault.ReadFault = FailedIn faults Asked
FaultCall Asked faults fault.OutOfMemory = Unit {0}

abbrev pub FailedCall : {A : Type 0} → (StoreCall → Type 0) → StoreFaults → Result A VersionsFault → Type 0
FailedCall Asked faults (Ok x) = Unit {0}
FailedCall Asked faults (Err e) = FaultCall Asked faults e
