use Rattle.std.proofs.Common.{map, ap, sym, ◌∙◌}
use Rattle.std.specs.List.{filter_map}
use Rattle.aidl_outside.specs.Entries.{entries, path_of}
use Rattle.aidl_outside.specs.Files.{below, is_ascending}
use Rattle.memory_outside.proofs.Below.{ascending, paths_of}
use Rattle.memory_outside.proofs.Kept.{keys_sorted}
use Rattle.memory_outside.proofs.mem_store.MemStoreStore.list.Goals as goal

pub returns-in-Ok-paths_below-clause-listed : goal.returns-in-Ok-paths_below-clause-listed
returns-in-Ok-paths_below-clause-listed c =
    c.in-Ok-paths_below.ensures ∙ ap (λ fs. filter_map (below c.args.root.now) (map path_of fs)) c.as_slice.ensures.value
    ∙ ap (filter_map (below c.args.root.now)) (sym (keys_sorted c.args.self.now.files.items c.args.self.now.sorted ∙ paths_of c.args.self.now.files.items))

pub returns-in-Ok-paths_below-clause-ascending : goal.returns-in-Ok-paths_below-clause-ascending
returns-in-Ok-paths_below-clause-ascending c =
    ap is_ascending (c.in-Ok-paths_below.ensures ∙ ap (λ fs. filter_map (below c.args.root.now) (map path_of fs)) c.as_slice.ensures.value ∙ ap (filter_map (below c.args.root.now)) (sym (paths_of c.args.self.now.files.items)))
    ∙ ascending c.args.root.now (entries c.args.self.now.files.items) c.args.self.now.sorted
