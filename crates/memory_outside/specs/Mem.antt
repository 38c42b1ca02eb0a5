-- What the objects in memory tell.
use Rattle.std.specs.Prelude.{ℕ, List}
use Rattle.memory_outside.specs.declared.failures.Failures.{Failures}
use Rattle.memory_outside.specs.declared.mem_sink.MemSink.{MemSink}
use Rattle.memory_outside.specs.declared.mem_store.MemStore.{MemStore}
use Rattle.memory_outside.specs.declared.edits.Edit.{Edit}
use Rattle.aidl_outside.specs.declared.link.Carried.{Carried}
use Rattle.memory_outside.specs.declared.record_link.RecordLink.{RecordLink}
use Rattle.memory_outside.specs.declared.tamper_link.TamperLink.{TamperLink}
use Rattle.aidl_outside.specs.Entries.{sorted_files}
use Rattle.aidl_outside.specs.Files.{Files}

-- the bytes that were put
abbrev pub sink_bytes : MemSink → List ℕ
sink_bytes sink = sink.bytes.items

-- the sink's failing calls, with the calls and faults so far
abbrev pub sink_failures : MemSink → Failures
sink_failures sink = sink.failures

-- the files, by their paths
abbrev pub store_files : MemStore → Files
store_files store = sorted_files store.files.items

-- the store's failing calls, with the calls and faults so far
abbrev pub store_failures : MemStore → Failures
store_failures store = store.failures

-- how often the store has failed
abbrev pub faults_of : MemStore → ℕ
faults_of store = store.failures.faults

-- the parcels that a link carried, in order
abbrev pub recorded : RecordLink → List Carried
recorded link = link.log.items

-- the link's failing calls, with the calls and faults so far
abbrev pub record_failures : RecordLink → Failures
record_failures link = link.failures

-- the parcels that a link carried, in order
abbrev pub tampered : TamperLink → List Carried
tampered link = link.log.items

-- the edits of its carries
abbrev pub tamper_edits : TamperLink → List Edit
tamper_edits link = link.edits

-- the link's failing calls, with the calls and faults so far
abbrev pub tamper_failures : TamperLink → Failures
tamper_failures link = link.failures
