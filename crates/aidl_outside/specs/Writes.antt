-- What writes do to the files that a store tells (own).
use Rattle.std.specs.Prelude.{◌≡◌, ◌≢◌, ℕ, List, [], ◌∷◌, Option, Some, None, Result, Ok, Err}
use Rattle.std.specs.FinMap.{get, insert}
use Rattle.aidl_outside.specs.declared.store.StoreFault.{StoreFault}
use Rattle.aidl_outside.specs.declared.store.StoreFault.TheVariants.{Failed, OutOfMemory}
use Rattle.aidl_outside.specs.Files.{Files}

-- bytes that are to stand at a path
pub record Write : Type 0 where
  pub path : List ℕ
  pub bytes : List ℕ

-- the files after some writes, one after another
abbrev pub written : List Write → Files → Files
written [] files = files
written (w ∷ ws) files = written ws (insert files w.path w.bytes)

-- the path has the bytes, and all others have what they had
abbrev pub Sets : Option Files → Option Files → List ℕ → List ℕ → Type 0
Sets None now path bytes = now ≡ None
Sets (Some before) now path bytes = now ≡ Some (insert before path bytes)

-- every other path has what it had
abbrev pub ChangesOnly : Option Files → Option Files → List ℕ → Type 0
ChangesOnly None now path = now ≡ None
ChangesOnly (Some before) now path = (after : Files) × (now ≡ Some after)
    × ((other : List ℕ) → other ≢ path → get after other ≡ get before other)

abbrev pub Writes : {T : Type 0} → Option Files → Option Files → List ℕ → List ℕ → Result T StoreFault → Type 0
Writes before now path bytes (Ok x) = Sets before now path bytes
Writes before now path bytes (Err Failed) = ChangesOnly before now path
Writes before now path bytes (Err OutOfMemory) = now ≡ before
