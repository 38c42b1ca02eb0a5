use Rattle.std.proofs.Common.{◌≡◌, List, ◌++◌, true, map}
use Rattle.std.specs.List.{list_all}
use Rattle.std.specs.Prelude.{flat_map}
use Rattle.aidl_base.specs.declared.limit.LimitName.TheVariants.{FileBytes}
use Rattle.aidl_outside.specs.Asks.{AreNoneLong}
use Rattle.aidl_outside.specs.Files.{is_ascending}
use Rattle.aidl_outside.specs.Told.{Tells}
use Rattle.api_versions.specs.declared.version.Version.{Version}
use Rattle.api_versions.specs.Asks.{paths_read}
use Rattle.api_versions.specs.Folders.{Folder}
use Rattle.api_versions.specs.Versions.{are_ascending, versions_in}
use Rattle.api_versions.specs.steps.Onto.{onto}
use Rattle.api_versions.specs.Seen.{folder_seen}
use Rattle.api_versions.proofs.reading.load_versions.Given as goal

-- the versions so far, and then those in the folders that are left, are all; no file so far is too long; and no call of the store failed
abbrev pub invariant-loop-folder : goal.invariant-loop-folder
invariant-loop-folder g l = record {
  all : Tells (g.S.Store.kept l.fn.store) (λ files. onto l.versions (versions_in files l.api (map folder_seen l.folder-iterator.rest.items)) ≡ versions_in files l.api (map folder_seen l.fn.folders.items));
  numbers : map (λ (v : Version). v.number) l.versions ++ map (λ (f : Folder). f.number) (map folder_seen l.folder-iterator.rest.items) ≡ map (λ (f : Folder). f.number) (map folder_seen l.fn.folders.items);
  left : (done : List Folder) × (map folder_seen l.fn.folders.items ≡ done ++ map folder_seen l.folder-iterator.rest.items)
      × Tells (g.S.Store.kept l.fn.store) (AreNoneLong FileBytes (flat_map (paths_read l.api) done));
  ascending : list_all (λ (f : Folder). is_ascending f.sources) (map folder_seen l.fn.folders.items) ≡ true
      → (are_ascending l.versions ≡ true) × (list_all (λ (f : Folder). is_ascending f.sources) (map folder_seen l.folder-iterator.rest.items) ≡ true);
  unchanged : g.S.Store.kept l.store ≡ g.S.Store.kept l.fn.store;
  cause : g.S.Store.fault_record l.store ≡ g.S.Store.fault_record l.fn.store;
}
