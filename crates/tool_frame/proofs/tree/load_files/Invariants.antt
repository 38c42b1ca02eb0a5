use Rattle.std.proofs.Common.{◌≡◌, ℕ, List, ◌++◌, map, string_bytes}
use Rattle.aidl_base.specs.declared.limit.LimitName.TheVariants.{FileBytes}
use Rattle.aidl_outside.specs.Asks.{AreNoneLong}
use Rattle.aidl_outside.specs.Files.{path_below}
use Rattle.aidl_outside.specs.Told.{Tells}
use Rattle.tool_frame.specs.Trees.{AreShort, files_at}
use Rattle.tool_frame.specs.steps.Trees.{onto}
use Rattle.tool_frame.proofs.tree.load_files.Given as goal

-- the files so far, and then those at the paths that are left, are all; none is too long; and no call of the store failed
abbrev pub invariant-loop-path : goal.invariant-loop-path
invariant-loop-path g l = record {
  all : Tells (g.S.Store.kept l.fn.store) (λ files. onto l.files (files_at files l.root (map string_bytes l.path-iterator.rest.items)) ≡ files_at files l.root (map string_bytes l.fn.paths.items));
  left : (done : List (List ℕ)) × (map string_bytes l.fn.paths.items ≡ done ++ map string_bytes l.path-iterator.rest.items)
      × Tells (g.S.Store.kept l.fn.store) (AreNoneLong FileBytes (map (path_below l.root) done));
  short : AreShort l.files;
  unchanged : g.S.Store.kept l.store ≡ g.S.Store.kept l.fn.store;
  cause : g.S.Store.fault_record l.store ≡ g.S.Store.fault_record l.fn.store;
}
