-- What a fault of the host is to a store (own).
use Rattle.std.specs.IoError.{error_kind}
use Rattle.std.specs.declared.io.Error.{Error}
use Rattle.std.specs.declared.io.ErrorKind.{ErrorKind}
use Rattle.std.specs.declared.io.ErrorKind.TheVariants.{OutOfMemory}
use Rattle.aidl_outside.specs.declared.store.StoreFault.{StoreFault}
use Rattle.aidl_outside.specs.declared.store.StoreFault.TheVariants as store
use Rattle.host_outside.specs.declared.host_fault.HostFault.{HostFault}
use Rattle.host_outside.specs.declared.host_fault.HostFault.TheVariants as host

-- want of memory is one, whoever wanted it, and all else is a failed call
abbrev pub of_kind : ErrorKind → HostFault
of_kind OutOfMemory = host.OutOfMemory
of_kind _ = host.Failed

abbrev pub caused : Error → HostFault
caused fault = of_kind (error_kind fault)

-- the store's answer
abbrev pub store_fault : HostFault → StoreFault
store_fault host.Failed = store.Failed
store_fault host.OutOfMemory = store.OutOfMemory
