use Rattle.std.proofs.Common.{◌≡◌, ◌++◌}
use Rattle.aidl_outside.specs.Entries.{files_of}
use Rattle.memory_outside.specs.Failing.{uncounted}
use Rattle.memory_outside.specs.Mem.{store_failures, store_files}
use Rattle.memory_outside.proofs.mem_store.MemStore.filled.Given as goal

-- the files so far and those that are left are all; the store has those so far; no call is counted
abbrev pub invariant-loop-file : goal.invariant-loop-file
invariant-loop-file l = record {
  all : l.yielded ++ l.file-iterator.rest.items ≡ l.fn.files;
  files : store_files l.store ≡ files_of l.yielded;
  failures : store_failures l.store ≡ uncounted l.fn.failing;
}
