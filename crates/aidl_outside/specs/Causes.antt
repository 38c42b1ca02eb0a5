-- Why a call of the outside failed: its count of faults rose, or stands at its end (own).
use Rattle.std.specs.Prelude.{◌≡◌, ◌+◌, ◌-◌, ◌^◌, ◌≤◌, min, Result, Ok, Err}
use Rattle.aidl_outside.specs.declared.store.StoreFault.{StoreFault}
use Rattle.aidl_outside.specs.declared.store.StoreFault.TheVariants as store
use Rattle.aidl_outside.specs.declared.sink.SinkFault.{SinkFault}
use Rattle.aidl_outside.specs.declared.sink.SinkFault.TheVariants as sink
use Rattle.aidl_outside.specs.declared.link.CarryFault.{CarryFault}
use Rattle.aidl_outside.specs.declared.link.CarryFault.TheVariants as link
use Rattle.aidl_outside.specs.Faults.{Faults, StoreFaults, SinkFaults, LinkFaults}

-- the count is greater than before, or was and is the greatest of its type
abbrev pub Rose : {Call : Type 0} → Faults Call → Faults Call → Type 0
Rose before now = min (before.count + 1) (2 ^ 64 - 1) ≤ now.count

-- of a store's call: its faults are the same but for `Failed`
abbrev pub StoreCause : {T : Type 0} → StoreFaults → StoreFaults → Result T StoreFault → Type 0
StoreCause before now (Ok x) = now ≡ before
StoreCause before now (Err store.Failed) = Rose before now
StoreCause before now (Err store.OutOfMemory) = now ≡ before

-- of a sink's call
abbrev pub SinkCause : {T : Type 0} → SinkFaults → SinkFaults → Result T SinkFault → Type 0
SinkCause before now (Ok x) = now ≡ before
SinkCause before now (Err sink.Failed) = Rose before now
SinkCause before now (Err sink.OutOfMemory) = now ≡ before

-- of a link's call
abbrev pub CarryCause : {T : Type 0} → LinkFaults → LinkFaults → Result T CarryFault → Type 0
CarryCause before now (Ok x) = now ≡ before
CarryCause before now (Err link.Failed) = Rose before now
CarryCause before now (Err link.OutOfMemory) = now ≡ before
