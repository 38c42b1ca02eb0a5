use Rattle.std.proofs.Common.{◌++◌, append_assoc, ap, sym, ◌∙◌}
use Rattle.aidl_outside.specs.Entries.{sorted_files, files_of, path_of, with_new}
use Rattle.memory_outside.proofs.Kept.{sorted_files-nil, files_of-last, nothing_left}
use Rattle.memory_outside.proofs.mem_store.MemStore.filled.Goals as goal

pub loop-file-init : goal.loop-file-init
loop-file-init c = record {
  all = c.into_iter-file-iterator.ensures.into_iter_gives.0 ∙ c.into_vec-file-items.ensures;
  files = ap sorted_files c.new.ensures.items ∙ sorted_files-nil;
  failures = c.new-2.ensures;
}

pub loop-file-preserved : goal.loop-file-preserved
loop-file-preserved c = record {
  all = append_assoc c.loop-file.yielded _ _ ∙ ap (λ left. c.loop-file.yielded ++ left) (sym c.in-Some.ensures.steps.0) ∙ c.loop-file.invariant.all;
  files = c.in_ok-add.ensures.ok ∙ ap (λ files. with_new files (path_of c.in-Some.file) c.in-Some.file.bytes) c.loop-file.invariant.files ∙ files_of-last c.loop-file.yielded c.in-Some.file;
  failures = c.add.ensures.failures ∙ c.loop-file.invariant.failures;
}

pub returns-clause-files : goal.returns-clause-files
returns-clause-files c =
    c.loop-file.invariant.files
    ∙ ap files_of (nothing_left c.loop-file.yielded _ c.args.files c.loop-file.invariant.all (sym c.loop-file.file-iterator.rest.ok.0 ∙ c.in-None.ensures.steps.0))
