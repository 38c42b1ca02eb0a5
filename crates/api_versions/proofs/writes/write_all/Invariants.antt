use Rattle.std.proofs.Common.{◌≡◌, map, take}
use Rattle.api_versions.specs.Writes.{Wrote}
use Rattle.api_versions.specs.Seen.{write_seen}
use Rattle.api_versions.proofs.writes.write_all.Given as goal

-- the writes so far were made, and no call of the store failed
abbrev pub invariant-loop-write : goal.invariant-loop-write
invariant-loop-write g l = record {
  made : Wrote (map write_seen (take l.write-index l.writes)) (g.S.Store.kept l.fn.store) (g.S.Store.kept l.store);
  cause : g.S.Store.fault_record l.store ≡ g.S.Store.fault_record l.fn.store;
}
