-- What was written: the writes that are meant, all, some first ones, or those before one that failed (own).
use Rattle.std.specs.Prelude.{◌≡◌, List, ◌∷◌, ◌++◌, Option, Some, None, Result, Ok, Err}
use Rattle.aidl_outside.specs.declared.store.StoreFault.{StoreFault}
use Rattle.aidl_outside.specs.declared.store.StoreFault.TheVariants.{Failed, OutOfMemory}
use Rattle.aidl_outside.specs.Faults.{FailedIn, StoreCall, StoreFaults, writing}
use Rattle.aidl_outside.specs.Files.{Files}
pub use Rattle.aidl_outside.specs.Writes.{Write, written}
use Rattle.aidl_outside.specs.Writes.{ChangesOnly}

-- these writes were made
abbrev pub Wrote : List Write → Option Files → Option Files → Type 0
Wrote ws None now = now ≡ None
Wrote ws (Some files) now = now ≡ Some (written ws files)

-- the first of them were made
abbrev pub WroteSome : List Write → Option Files → Option Files → Type 0
WroteSome ws before now = (made rest : List Write) × (ws ≡ made ++ rest) × Wrote made before now

-- the first of them were made, and the call is that of the next one, which changed at most its path
abbrev pub FailedAt : List Write → Option Files → Option Files → StoreCall → Type 0
FailedAt ws before now call = (made rest : List Write) × (w : Write) × (middle : Option Files)
    × (ws ≡ made ++ w ∷ rest) × Wrote made before middle × ChangesOnly middle now w.path
    × (call ≡ writing w.path)

-- by what a write that gave nothing answered, and the store's faults then: those before it, and it is the call that
-- failed; the first ones
abbrev pub LeftAt : List Write → Option Files → Option Files → StoreFaults → StoreFault → Type 0
LeftAt ws before now faults Failed = FailedIn faults (FailedAt ws before now)
LeftAt ws before now faults OutOfMemory = WroteSome ws before now

-- all, or these
abbrev pub Left : {A : Type 0} → List Write → Option Files → Option Files → StoreFaults → Result A StoreFault → Type 0
Left ws before now faults (Ok x) = Wrote ws before now
Left ws before now faults (Err e) = LeftAt ws before now faults e
