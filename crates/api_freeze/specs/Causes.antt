-- When the store's count of faults rises, and which call failed then (own).
use Rattle.std.specs.Prelude.{◌≡◌, Result, Ok, Err}
use Rattle.aidl_outside.specs.Asks.{IsWrite}
use Rattle.aidl_outside.specs.Causes.{Rose}
use Rattle.aidl_outside.specs.Faults.{FailedIn, StoreCall, StoreFaults, WhereStoreFailed}
use Rattle.aidl_outside.specs.declared.store.StoreFault.{StoreFault}
use Rattle.aidl_outside.specs.declared.store.StoreFault.TheVariants as store
use Rattle.api_versions.specs.Answers.{ReadFaultCause}
use Rattle.api_versions.specs.Asks.{FaultCall as ReadFaultCall}
use Rattle.api_freeze.specs.declared.fault.FreezeFault.{FreezeFault}
use Rattle.api_freeze.specs.declared.fault.FreezeFault.TheVariants as fault
use Rattle.api_freeze.specs.declared.fault.RehashFault.{RehashFault}
use Rattle.api_freeze.specs.declared.fault.RehashFault.TheVariants as rehash

-- of a write that gave nothing
abbrev pub WriteCause : StoreFaults → StoreFaults → StoreFault → Type 0
WriteCause before now store.Failed = Rose before now
WriteCause before now store.OutOfMemory = now ≡ before

-- it rises with a failed call of the store, and with no other answer
abbrev pub FaultCause : StoreFaults → StoreFaults → FreezeFault → Type 0
FaultCause before now (fault.Versions e) = ReadFaultCause before now e
FaultCause before now (fault.Torn torn) = now ≡ before
FaultCause before now (fault.Unreadable version files cause) = now ≡ before
FaultCause before now (fault.Unchanged version) = now ≡ before
FaultCause before now (fault.Incompatible rows) = now ≡ before
FaultCause before now (fault.Limit limit) = now ≡ before
FaultCause before now (fault.Write e) = WriteCause before now e
FaultCause before now fault.OutOfMemory = now ≡ before

abbrev pub Cause : {A : Type 0} → StoreFaults → StoreFaults → Result A FreezeFault → Type 0
Cause before now (Ok x) = now ≡ before
Cause before now (Err e) = FaultCause before now e

-- where the store failed: one of these calls, or a write
abbrev pub FaultCall : (StoreCall → Type 0) → StoreFaults → FreezeFault → Type 0
FaultCall Asked faults (fault.Versions e) = ReadFaultCall Asked faults e
FaultCall Asked faults (fault.Torn torn) = Unit {0}
FaultCall Asked faults (fault.Unreadable version files cause) = Unit {0}
FaultCall Asked faults (fault.Unchanged version) = Unit {0}
FaultCall Asked faults (fault.Incompatible rows) = Unit {0}
FaultCall Asked faults (fault.Limit limit) = Unit {0}
FaultCall Asked faults (fault.Write e) = WhereStoreFailed e (FailedIn faults IsWrite)
FaultCall Asked faults fault.OutOfMemory = Unit {0}

abbrev pub FailedCall : {A : Type 0} → (StoreCall → Type 0) → StoreFaults → Result A FreezeFault → Type 0
FailedCall Asked faults (Ok x) = Unit {0}
FailedCall Asked faults (Err e) = FaultCall Asked faults e

-- the same where hashes are written again
abbrev pub RehashFaultCause : StoreFaults → StoreFaults → RehashFault → Type 0
RehashFaultCause before now (rehash.Versions e) = ReadFaultCause before now e
RehashFaultCause before now (rehash.Torn torn) = now ≡ before
RehashFaultCause before now (rehash.Write e) = WriteCause before now e
RehashFaultCause before now rehash.OutOfMemory = now ≡ before

abbrev pub RehashCause : {A : Type 0} → StoreFaults → StoreFaults → Result A RehashFault → Type 0
RehashCause before now (Ok x) = now ≡ before
RehashCause before now (Err e) = RehashFaultCause before now e

abbrev pub RehashFaultCall : (StoreCall → Type 0) → StoreFaults → RehashFault → Type 0
RehashFaultCall Asked faults (rehash.Versions e) = ReadFaultCall Asked faults e
RehashFaultCall Asked faults (rehash.Torn torn) = Unit {0}
RehashFaultCall Asked faults (rehash.Write e) = WhereStoreFailed e (FailedIn faults IsWrite)
RehashFaultCall Asked faults rehash.OutOfMemory = Unit {0}

abbrev pub RehashFailed : {A : Type 0} → (StoreCall → Type 0) → StoreFaults → Result A RehashFault → Type 0
RehashFailed Asked faults (Ok x) = Unit {0}
RehashFailed Asked faults (Err e) = RehashFaultCall Asked faults e
