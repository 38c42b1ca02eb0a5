use Rattle.std.proofs.Common.{ap, ◌∙◌, rules}
use Rattle.std.proofs.lemmas.Cmp.{nat_list_cmp_total}
use Rattle.std.proofs.lemmas.Fn.{always_returns_same}
use Rattle.std.proofs.lemmas.List.MinMax.{ranks_by}
use Rattle.aidl_outside.specs.Entries.{path_of, files_of}
use Rattle.memory_outside.proofs.Sorted.{same_files, before}
use Rattle.memory_outside.proofs.mem_store.sorted.Goals as goal

pub returns : goal.returns
returns c =
    let stable = c.in_ok-sort_by.ensures.stable before (ranks_by nat_list_cmp_total path_of) (always_returns_same _ _ _ (λ a r g called. (search rules, search rules))) in
    ap files_of c.from_vec.ensures ∙ same_files _ _ stable ∙ ap files_of c.into_vec-files.ensures
