-- What is answered where a step is defined, and when the store's count rises (own).
use Rattle.std.specs.Prelude.{◌≡◌, Result, Ok, Err}
use Rattle.aidl_outside.specs.Causes.{Rose}
use Rattle.aidl_outside.specs.Faults.{StoreFaults}
use Rattle.aidl_outside.specs.declared.store.StoreFault.{StoreFault}
use Rattle.aidl_outside.specs.declared.store.StoreFault.TheVariants as store
use Rattle.api_versions.specs.declared.fault.VersionsFault.{VersionsFault}
use Rattle.api_versions.specs.declared.fault.VersionsFault.TheVariants as fault

-- the refusal is the defined one, unless the store failed or memory was wanted
abbrev pub Refuses : {A : Type 0} → Result A VersionsFault → VersionsFault → Type 0
Refuses defined (fault.BadVersions missing) = defined ≡ Err (fault.BadVersions missing)
Refuses defined (fault.Limit limit) = defined ≡ Err (fault.Limit limit)
Refuses defined fault.ReadFault = Unit {0}
Refuses defined fault.OutOfMemory = Unit {0}

-- the answer is the defined one, unless the store failed or memory was wanted
abbrev pub Gives : {A : Type 0} → Result A VersionsFault → Result A VersionsFault → Type 0
Gives defined (Ok x) = defined ≡ Ok x
Gives defined (Err e) = Refuses defined e

-- the same, by what an answer stands for
abbrev pub GivesAs : {T A : Type 0} → (T → A) → Result A VersionsFault → Result T VersionsFault → Type 0
GivesAs view defined (Ok x) = defined ≡ Ok (view x)
GivesAs view defined (Err e) = Refuses defined e

-- of a refusal to read versions, by the count of the store's faults: it rises with `ReadFault`, and with nothing else
abbrev pub ReadFaultCause : StoreFaults → StoreFaults → VersionsFault → Type 0
ReadFaultCause before now (fault.BadVersions missing) = now ≡ before
ReadFaultCause before now (fault.Limit limit) = now ≡ before
ReadFaultCause before now fault.ReadFault = Rose before now
ReadFaultCause before now fault.OutOfMemory = now ≡ before

abbrev pub ReadCause : {A : Type 0} → StoreFaults → StoreFaults → Result A VersionsFault → Type 0
ReadCause before now (Ok x) = now ≡ before
ReadCause before now (Err e) = ReadFaultCause before now e

-- what a failed listing or reading is answered by
abbrev pub ReadAs : StoreFault → VersionsFault → Type 0
ReadAs store.Failed e = e ≡ fault.ReadFault
ReadAs store.OutOfMemory e = e ≡ fault.OutOfMemory
