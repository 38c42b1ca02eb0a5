-- Which calls of an object in memory fail: those whose 0-based numbers it was given, or those from one on (own).
use Rattle.std.specs.Prelude.{◌≡◌, ℕ, ◌+◌, ◌-◌, ◌/◌, ◌^◌, ◌==◌, min, nat_le, Bool, true, false}
use Rattle.std.specs.Prelude.{if◌then◌else◌, List, [], ◌∷◌, length, take, Result, Ok, Err}
use Rattle.std.specs.List.{list_any}
use Rattle.memory_outside.specs.declared.failures.Failing.{Failing}
use Rattle.memory_outside.specs.declared.failures.Failing.TheVariants.{Numbers, From}
use Rattle.memory_outside.specs.declared.failures.Failures.{Failures}
use Rattle.aidl_outside.specs.declared.store.StoreFault.{StoreFault}
use Rattle.aidl_outside.specs.declared.store.StoreFault.TheVariants as store
use Rattle.aidl_outside.specs.declared.sink.SinkFault.{SinkFault}
use Rattle.aidl_outside.specs.declared.sink.SinkFault.TheVariants as sink
use Rattle.aidl_outside.specs.declared.link.CarryFault.{CarryFault}
use Rattle.aidl_outside.specs.declared.link.CarryFault.TheVariants as link

-- one more, or the greatest of the type
abbrev pub one_more : ℕ → ℕ
one_more count = min (count + 1) (2 ^ 64 - 1)

-- before any call: no call and no fault is counted
abbrev pub uncounted : Failing → Failures
uncounted failing = record { failing = failing; calls = 0; faults = 0 }

-- the call with this number fails
abbrev pub fails_at : Failing → ℕ → Bool
fails_at (Numbers numbers) call = list_any (λ number. number == call) numbers
fails_at (From first) call = nat_le first call

-- the next call fails
abbrev pub fails_next : Failures → Bool
fails_next f = fails_at f.failing f.calls

-- with one more fault
abbrev pub with_fault : Failures → Failures
with_fault f = record f { faults = one_more f.faults }

-- after one call, which was answered by `Failed` or not: one more call, and one more fault where it was
abbrev pub counted : Bool → Failures → Failures
counted failed f = record f { calls = one_more f.calls; faults = if failed then one_more f.faults else f.faults }

-- after such calls
abbrev pub after_calls : List Bool → Failures → Failures
after_calls [] f = f
after_calls (failed ∷ later) f = after_calls later (counted failed f)

-- such calls may come: one is answered by `Failed` only if it is one that fails
abbrev pub MayBe : List Bool → Failures → Type 0
MayBe [] f = Unit {0}
MayBe (failed ∷ later) f = (failed ≡ true → fails_next f ≡ true) × MayBe later (counted failed f)

-- what a store's call is answered by, which is one that fails or isn't; memory may be wanted in both cases, in the
-- first to keep which call it was
abbrev pub StoreFails : {T : Type 0} → Bool → Result T StoreFault → Type 0
StoreFails fails (Ok x) = fails ≡ false
StoreFails fails (Err store.Failed) = fails ≡ true
StoreFails fails (Err store.OutOfMemory) = Unit {0}

-- a sink's call
abbrev pub SinkFails : {T : Type 0} → Bool → Result T SinkFault → Type 0
SinkFails fails (Ok x) = fails ≡ false
SinkFails fails (Err sink.Failed) = fails ≡ true
SinkFails fails (Err sink.OutOfMemory) = Unit {0}

-- a link's call
abbrev pub CarryFails : {T : Type 0} → Bool → Result T CarryFault → Type 0
CarryFails fails (Ok x) = fails ≡ false
CarryFails fails (Err link.Failed) = fails ≡ true
CarryFails fails (Err link.OutOfMemory) = Unit {0}

-- a store's call is answered by `Failed`
abbrev pub store_failed : {T : Type 0} → Result T StoreFault → Bool
store_failed (Ok x) = false
store_failed (Err store.Failed) = true
store_failed (Err store.OutOfMemory) = false

-- a sink's call is answered by `Failed`
abbrev pub sink_failed : {T : Type 0} → Result T SinkFault → Bool
sink_failed (Ok x) = false
sink_failed (Err sink.Failed) = true
sink_failed (Err sink.OutOfMemory) = false

-- a link's call is answered by `Failed`
abbrev pub carry_failed : {T : Type 0} → Result T CarryFault → Bool
carry_failed (Ok x) = false
carry_failed (Err link.Failed) = true
carry_failed (Err link.OutOfMemory) = false

-- the first half, rounded down
abbrev pub half_of : List ℕ → List ℕ
half_of bytes = take (length bytes / 2) bytes
