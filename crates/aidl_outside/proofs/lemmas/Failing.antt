-- What failed, said by other words.
use Rattle.std.proofs.Common.{Ok, Err}
use Rattle.std.specs.Prelude.{Result}
use Rattle.aidl_outside.specs.declared.store.StoreFault.{StoreFault}
use Rattle.aidl_outside.specs.declared.store.StoreFault.TheVariants as store
use Rattle.aidl_outside.specs.Faults.{FailedIn, Faults, IfStoreFailed, WhereStoreFailed}

pub failed_as : {Call : Type 0} (faults : Faults Call) (P Q : Call → Type 0) → ((call : Call) → P call → Q call) → FailedIn faults P → FailedIn faults Q
failed_as faults P Q wider failed = (failed.0, wider failed.0 failed.1, failed.2)

-- of a fault that is passed on
pub fault_as : (fault : StoreFault) (P Q : Type 0) → (P → Q) → WhereStoreFailed fault P → WhereStoreFailed fault Q
fault_as store.Failed P Q wider h = wider h
fault_as store.OutOfMemory P Q wider h = tt

-- of the result of a call
pub result_as : {T : Type 0} (r : Result T StoreFault) (P Q : Type 0) → (P → Q) → IfStoreFailed r P → IfStoreFailed r Q
result_as (Ok x) P Q wider h = tt
result_as (Err fault) P Q wider h = fault_as fault P Q wider h
