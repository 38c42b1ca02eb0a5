use Rattle.std.proofs.Common.{◌≡◌, ap, sym, ◌∙◌, subst}
use Rattle.std.specs.FinMap.{get}
use Rattle.aidl_outside.specs.Entries.{entries, file_at, sorted_files}
use Rattle.aidl_outside.specs.Files.{IsRead}
use Rattle.memory_outside.proofs.Kept.{get_sorted}
use Rattle.memory_outside.proofs.mem_store.MemStoreStore.read.Goals as goal

pub returns-in-Ok-front_at-clause-found : goal.returns-in-Ok-front_at-clause-found
returns-in-Ok-front_at-clause-found c =
    let fs = c.args.self.now.files.items in
    let path = c.args.path.now in
    let there : file_at path (entries c.as_slice.result.now) ≡ get (sorted_files fs) path = ap (λ gs. file_at path (entries gs)) c.as_slice.ensures.value ∙ sym (get_sorted fs path c.args.self.now.sorted) in
    subst (λ o. IsRead c.args.most o c.in-Ok-front_at.file) there c.in-Ok-front_at.ensures.found
