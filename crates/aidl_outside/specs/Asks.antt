-- Which calls are made of a store: to read, by what it tells, or to write (own).
use Rattle.std.specs.Prelude.{◌≡◌, ℕ, ◌≤◌, ◌⊎◌, List, ◌∷◌, ◌++◌, length, All, Option, IfSome}
use Rattle.std.specs.FinMap.{get}
use Rattle.aidl_base.specs.declared.limit.LimitName.{LimitName}
use Rattle.aidl_base.specs.Limits.{limit_number}
use Rattle.aidl_outside.specs.Faults.{StoreCall, reading, writing}
use Rattle.aidl_outside.specs.Files.{Files}
use Rattle.aidl_outside.specs.Told.{Tells}

abbrev pub Asks : Type 1
Asks = Option Files → StoreCall → Type 0

abbrev pub AsksNothing : Asks
AsksNothing kept call = ⊥

-- the file at a path is read, up to this limit and one byte more
abbrev pub AsksFile : LimitName → List ℕ → Asks
AsksFile which path kept call = call ≡ reading path (limit_number which)

-- no file at some paths is longer than this limit
abbrev pub AreNoneLong : LimitName → List (List ℕ) → Files → Type 0
AreNoneLong which paths files = All (λ path. IfSome (get files path) (λ bytes. length bytes ≤ limit_number which)) paths

-- the files at some paths are read in order: one of them, where none before it is too long
abbrev pub AsksInOrder : LimitName → List (List ℕ) → Asks
AsksInOrder which paths kept call = (before after : List (List ℕ)) × (path : List ℕ)
    × (paths ≡ before ++ path ∷ after) × AsksFile which path kept call × Tells kept (AreNoneLong which before)

-- these calls and those
infixr 5 ◌also◌
abbrev pub ◌also◌ : Asks → Asks → Asks
(These also Those) kept call = These kept call ⊎ Those kept call

-- a file is written
abbrev pub IsWrite : StoreCall → Type 0
IsWrite call = (path : List ℕ) × (call ≡ writing path)
