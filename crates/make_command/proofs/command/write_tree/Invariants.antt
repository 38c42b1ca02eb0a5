use Rattle.std.proofs.Common.{◌≡◌, map, drop, Option}
use Rattle.std.specs.Prelude.{Result, ⊤}
use Rattle.aidl_outside.specs.declared.store.StoreFault.{StoreFault}
use Rattle.aidl_outside.specs.Faults.{StoreFaults}
use Rattle.aidl_outside.specs.Files.{Files}
use Rattle.make_command.specs.Making.{file_write}
use Rattle.api_versions.specs.Writes.{Left}
use Rattle.tree_make.specs.Made.{file_seen}
use Rattle.make_command.proofs.command.write_tree.Given as goal

-- what is left to write completes what was written; and no call of the store failed
abbrev pub invariant-loop-file : goal.invariant-loop-file
invariant-loop-file g l = record {
  completes : (later : Option Files) (faults : StoreFaults) (r : Result ⊤ StoreFault) → Left (map (file_write l.root) (map file_seen (drop l.file-index l.files))) (g.S.Store.kept l.store) later faults r
      → Left (map (file_write l.root) (map file_seen l.files)) (g.S.Store.kept l.fn.store) later faults r;
  cause : g.S.Store.fault_record l.store ≡ g.S.Store.fault_record l.fn.store;
}
