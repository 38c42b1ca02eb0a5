-- The call that failed last, as the definitions of the outside have it.
use Rattle.std.specs.Prelude.{option_map, string_bytes}
use Rattle.aidl_outside.specs.Faults.{Faults, LinkFaults, SinkFaults, StoreFaults}
use Rattle.aidl_outside.specs.Faults as outside
use Rattle.aidl_outside.specs.Parcel as outside_parcel
use Rattle.memory_outside.specs.declared.last_call.FailedParcel.{FailedParcel}
use Rattle.memory_outside.specs.declared.last_call.FailedCall.{FailedCall}
use Rattle.memory_outside.specs.declared.last_call.FailedCall.TheVariants.{Listing, Reading, Writing}
use Rattle.memory_outside.specs.declared.mem_sink.MemSink.{MemSink}
use Rattle.memory_outside.specs.declared.mem_store.MemStore.{MemStore}
use Rattle.memory_outside.specs.declared.record_link.RecordLink.{RecordLink}
use Rattle.memory_outside.specs.declared.tamper_link.TamperLink.{TamperLink}

abbrev pub call_seen : FailedCall → outside.StoreCall
call_seen (Listing root) = outside.listing (string_bytes root)
call_seen (Reading path most) = outside.reading (string_bytes path) most
call_seen (Writing path) = outside.writing (string_bytes path)

abbrev pub parcel_seen : FailedParcel → outside_parcel.Parcel
parcel_seen p = outside_parcel.parcel p.way p.code p.sent

-- the faults so far: how many, and which call failed last
abbrev pub store_faults : MemStore → StoreFaults
store_faults store = record { count = store.failures.faults; last = option_map call_seen store.last }

abbrev pub sink_faults : MemSink → SinkFaults
sink_faults sink = record { count = sink.failures.faults; last = sink.last }

abbrev pub record_faults : RecordLink → LinkFaults
record_faults link = record { count = link.failures.faults; last = option_map parcel_seen link.last }

abbrev pub tamper_faults : TamperLink → LinkFaults
tamper_faults link = record { count = link.failures.faults; last = option_map parcel_seen link.last }
