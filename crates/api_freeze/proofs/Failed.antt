-- When the store's count rose, and which call failed, by the steps.
use Rattle.std.proofs.Common.{Option, None, Ok, Err, List, refl}
use Rattle.std.specs.Prelude.{Result}
use Rattle.aidl_outside.specs.Asks.{AsksNothing}
use Rattle.aidl_outside.specs.Causes.{StoreCause}
use Rattle.aidl_outside.specs.Faults.{StoreCall, StoreFaults}
use Rattle.aidl_outside.specs.declared.store.StoreFault.{StoreFault}
use Rattle.aidl_outside.specs.declared.store.StoreFault.TheVariants as store
use Rattle.aidl_schema.specs.declared.schema.Decl.{Decl}
use Rattle.api_freeze.specs.Causes.{FailedCall, FaultCall, FaultCause, RehashFailed, RehashFaultCall, WriteCause}
use Rattle.api_freeze.specs.Freeze.{RefusedAs}
use Rattle.api_freeze.specs.declared.fault.FreezeFault.{FreezeFault}
use Rattle.api_freeze.specs.declared.fault.FreezeFault.TheVariants as fault
use Rattle.api_freeze.specs.declared.fault.RehashFault.{RehashFault}
use Rattle.api_freeze.specs.declared.fault.RehashFault.TheVariants as rehash
use Rattle.api_versions.specs.Asks.{FaultCall as ReadFaultCall}
use Rattle.api_versions.specs.declared.fault.VersionsFault.{VersionsFault}
use Rattle.api_versions.specs.declared.fault.VersionsFault.TheVariants as read
use Rattle.api_versions.specs.declared.version.Version.{Version}

-- of a write
pub write_cause : (A : Type 0) (before now : StoreFaults) (e : StoreFault) → StoreCause {T = A} before now (Err e) → WriteCause before now e
write_cause A before now store.Failed h = h
write_cause A before now store.OutOfMemory h = h

-- of what asks nothing
nothing_read : (Q : StoreCall → Type 0) (faults : StoreFaults) (e : VersionsFault) → ReadFaultCall (AsksNothing None) faults e → ReadFaultCall Q faults e
nothing_read Q faults (read.BadVersions missing) h = tt
nothing_read Q faults (read.Limit limit) h = tt
nothing_read Q faults read.ReadFault h = absurd h.1
nothing_read Q faults read.OutOfMemory h = tt

nothing_asks : (Q : StoreCall → Type 0) (faults : StoreFaults) (e : FreezeFault) → FaultCall (AsksNothing None) faults e → FaultCall Q faults e
nothing_asks Q faults (fault.Versions e) h = nothing_read Q faults e h
nothing_asks Q faults (fault.Torn torn) h = tt
nothing_asks Q faults (fault.Unreadable version files cause) h = tt
nothing_asks Q faults (fault.Unchanged version) h = tt
nothing_asks Q faults (fault.Incompatible rows) h = tt
nothing_asks Q faults (fault.Limit limit) h = tt
nothing_asks Q faults (fault.Write e) h = h
nothing_asks Q faults fault.OutOfMemory h = tt

pub nothing_answers : {A : Type 0} (Q : StoreCall → Type 0) (faults : StoreFaults) (r : Result A FreezeFault) → FailedCall (AsksNothing None) faults r → FailedCall Q faults r
nothing_answers Q faults (Ok x) h = tt
nothing_answers Q faults (Err e) h = nothing_asks Q faults e h

nothing_hashes : (Q : StoreCall → Type 0) (faults : StoreFaults) (e : RehashFault) → RehashFaultCall (AsksNothing None) faults e → RehashFaultCall Q faults e
nothing_hashes Q faults (rehash.Versions e) h = nothing_read Q faults e h
nothing_hashes Q faults (rehash.Torn torn) h = tt
nothing_hashes Q faults (rehash.Write e) h = h
nothing_hashes Q faults rehash.OutOfMemory h = tt

pub nothing_rehashes : {A : Type 0} (Q : StoreCall → Type 0) (faults : StoreFaults) (r : Result A RehashFault) → RehashFailed (AsksNothing None) faults r → RehashFailed Q faults r
nothing_rehashes Q faults (Ok x) h = tt
nothing_rehashes Q faults (Err e) h = nothing_hashes Q faults e h

-- of a refusal before any write
pub refused_cause : (vs : List Version) (S : List Decl) (faults : StoreFaults) (e : FreezeFault) → RefusedAs vs S e → FaultCause faults faults e
refused_cause vs S faults (fault.Versions e) h = absurd h
refused_cause vs S faults (fault.Torn torn) h = refl
refused_cause vs S faults (fault.Unreadable version files cause) h = refl
refused_cause vs S faults (fault.Unchanged version) h = refl
refused_cause vs S faults (fault.Incompatible rows) h = refl
refused_cause vs S faults (fault.Limit limit) h = refl
refused_cause vs S faults (fault.Write e) h = absurd h
refused_cause vs S faults fault.OutOfMemory h = refl

pub refused_call : (vs : List Version) (S : List Decl) (Q : StoreCall → Type 0) (faults : StoreFaults) (e : FreezeFault) → RefusedAs vs S e → FaultCall Q faults e
refused_call vs S Q faults (fault.Versions e) h = absurd h
refused_call vs S Q faults (fault.Torn torn) h = tt
refused_call vs S Q faults (fault.Unreadable version files cause) h = tt
refused_call vs S Q faults (fault.Unchanged version) h = tt
refused_call vs S Q faults (fault.Incompatible rows) h = tt
refused_call vs S Q faults (fault.Limit limit) h = tt
refused_call vs S Q faults (fault.Write e) h = absurd h
refused_call vs S Q faults fault.OutOfMemory h = tt
