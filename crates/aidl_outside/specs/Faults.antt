-- What is seen of the faults of an object outside: how many there were, and which call failed last, where it tells
-- that (own).
use Rattle.std.specs.Prelude.{◌≡◌, ℕ, List, Option, None, Result, Ok, Err}
use Rattle.aidl_outside.specs.declared.link.CarryFault.{CarryFault}
use Rattle.aidl_outside.specs.declared.link.CarryFault.TheVariants as link
use Rattle.aidl_outside.specs.declared.sink.SinkFault.{SinkFault}
use Rattle.aidl_outside.specs.declared.sink.SinkFault.TheVariants as sink
use Rattle.aidl_outside.specs.declared.store.StoreFault.{StoreFault}
use Rattle.aidl_outside.specs.declared.store.StoreFault.TheVariants as store
use Rattle.aidl_outside.specs.Parcel.{Parcel}
use Rattle.aidl_outside.specs.Told.{Tells}

pub record Faults (Call : Type 0) : Type 0 where
  pub count : ℕ
  pub last : Option Call

-- A call of a store, by its path; of a reading also how many bytes are asked for, and one more tells that a file is
-- longer. A call of a sink is the bytes that it puts, and one of a link the parcel.
pub data StoreCall : Type 0 where
  listing : (root : List ℕ) → StoreCall
  reading : (path : List ℕ) → (most : ℕ) → StoreCall
  writing : (path : List ℕ) → StoreCall

-- so many, and which call failed last isn't told
abbrev pub untold : {Call : Type 0} → ℕ → Faults Call
untold count = record { count = count; last = None }

abbrev pub StoreFaults : Type 0
StoreFaults = Faults StoreCall

abbrev pub SinkFaults : Type 0
SinkFaults = Faults (List ℕ)

abbrev pub LinkFaults : Type 0
LinkFaults = Faults Parcel

-- one of these calls failed, and it is the one that is told as the last
abbrev pub FailedIn : {Call : Type 0} → Faults Call → (Call → Type 0) → Type 0
FailedIn {Call} faults IsOne = (call : Call) × IsOne call × Tells faults.last (λ last. last ≡ call)

-- what is said where a call of a store failed
abbrev pub WhereStoreFailed : StoreFault → Type 0 → Type 0
WhereStoreFailed store.Failed Said = Said
WhereStoreFailed store.OutOfMemory Said = Unit {0}

abbrev pub IfStoreFailed : {T : Type 0} → Result T StoreFault → Type 0 → Type 0
IfStoreFailed (Ok x) Said = Unit {0}
IfStoreFailed (Err fault) Said = WhereStoreFailed fault Said

-- of a sink
abbrev pub WhereSinkFailed : SinkFault → Type 0 → Type 0
WhereSinkFailed sink.Failed Said = Said
WhereSinkFailed sink.OutOfMemory Said = Unit {0}

abbrev pub IfSinkFailed : {T : Type 0} → Result T SinkFault → Type 0 → Type 0
IfSinkFailed (Ok x) Said = Unit {0}
IfSinkFailed (Err fault) Said = WhereSinkFailed fault Said

-- of a link
abbrev pub WhereCarryFailed : CarryFault → Type 0 → Type 0
WhereCarryFailed link.Failed Said = Said
WhereCarryFailed link.OutOfMemory Said = Unit {0}

abbrev pub IfCarryFailed : {T : Type 0} → Result T CarryFault → Type 0 → Type 0
IfCarryFailed (Ok x) Said = Unit {0}
IfCarryFailed (Err fault) Said = WhereCarryFailed fault Said
