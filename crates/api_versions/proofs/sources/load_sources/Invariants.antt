use Rattle.std.proofs.Common.{◌≡◌, ℕ, List, ◌++◌, true, map, string_bytes}
use Rattle.aidl_base.specs.declared.limit.LimitName.TheVariants.{FileBytes}
use Rattle.aidl_outside.specs.Asks.{AreNoneLong}
use Rattle.aidl_outside.specs.Entries.{path_of}
use Rattle.aidl_outside.specs.Files.{is_ascending, path_below}
use Rattle.aidl_outside.specs.Told.{Tells}
use Rattle.api_versions.specs.Versions.{sources_at}
use Rattle.api_versions.specs.steps.Onto.{onto}
use Rattle.api_versions.proofs.sources.load_sources.Given as goal

-- the files so far, and then those at the paths that are left, are all, and in order; none is too long; and no call of the store failed
abbrev pub invariant-loop-path : goal.invariant-loop-path
invariant-loop-path g l = record {
  all : Tells (g.S.Store.kept l.fn.store) (λ files. onto l.files (sources_at files l.folder (map string_bytes l.path-iterator.rest.items)) ≡ sources_at files l.folder (map string_bytes l.fn.paths.items));
  left : (done : List (List ℕ)) × (map string_bytes l.fn.paths.items ≡ done ++ map string_bytes l.path-iterator.rest.items)
      × Tells (g.S.Store.kept l.fn.store) (AreNoneLong FileBytes (map (path_below l.folder) done));
  ascending : is_ascending (map string_bytes l.fn.paths.items) ≡ true → is_ascending (map path_of l.files ++ map string_bytes l.path-iterator.rest.items) ≡ true;
  unchanged : g.S.Store.kept l.store ≡ g.S.Store.kept l.fn.store;
  cause : g.S.Store.fault_record l.store ≡ g.S.Store.fault_record l.fn.store;
}
