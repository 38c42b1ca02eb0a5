use Rattle.std.proofs.Common.{ap, sym, ◌∙◌, [], ◌∷◌, ◌++◌, append_assoc, map, string_bytes}
use Rattle.std.proofs.lemmas.Result.{err_from_is_err_and}
use Rattle.aidl_base.specs.declared.limit.LimitName.TheVariants.{FileBytes}
use Rattle.aidl_outside.proofs.lemmas.Asked.{asks_next}
use Rattle.aidl_outside.proofs.lemmas.Failing.{failed_as, fault_as}
use Rattle.tool_frame.proofs.TreeFiles.{passed_more, step_more, steps_done}
use Rattle.tool_frame.proofs.tree.load_files.Goals as goal

pub loop-path-preserved : goal.loop-path-preserved
loop-path-preserved g c =
    let kept = g.S.Store.kept in
    let step = c.in_ok-limit.ensures in
    record {
      all = step_more c.args.root.now (kept c.loop-path.store) (kept c.args.store.now) (string_bytes c.in-Some.path) _ _ _ c.loop-path.files c.load_next.new.files _ _
          c.loop-path.invariant.unchanged (ap (map string_bytes) c.in-Some.ensures.steps.0) c.in_default.is step.file c.loop-path.invariant.all;
      left = (
        c.loop-path.invariant.left.0 ++ string_bytes c.in-Some.path ∷ [],
        c.loop-path.invariant.left.1 ∙ ap (λ ps. c.loop-path.invariant.left.0 ++ ps) (ap (map string_bytes) c.in-Some.ensures.steps.0) ∙ sym (append_assoc c.loop-path.invariant.left.0 (string_bytes c.in-Some.path ∷ []) _),
        passed_more c.args.root.now (kept c.loop-path.store) (kept c.args.store.now) c.loop-path.invariant.left.0 (string_bytes c.in-Some.path) c.loop-path.files c.load_next.new.files _ _
            c.loop-path.invariant.unchanged c.in_default.is step.file c.loop-path.invariant.left.2,
      );
      short = step.short c.loop-path.invariant.short;
      unchanged = step.unchanged ∙ c.loop-path.invariant.unchanged;
      cause = step.cause ∙ c.loop-path.invariant.cause;
    }

pub returns-clause-tree : goal.returns-clause-tree
returns-clause-tree g c =
    steps_done c.args.root.now (g.S.Store.kept c.args.store.now) _ (map string_bytes c.args.paths.items) c.loop-path.files
    (sym c.loop-path.path-iterator.rest.ok.0 ∙ c.in-None.ensures.steps.0) c.loop-path.invariant.all

pub returns-in_err-limit-clause-failed : goal.returns-in_err-limit-clause-failed
returns-in_err-limit-clause-failed g c =
    let q = err_from_is_err_and c.from_residual.result c.from_residual.ensures.1 in
    rw (q.1, q.2) (fault_as c.in_err-limit.field-0.0 _ _ (failed_as (g.S.Store.fault_record c.load_next.new.store) _ _ (asks_next FileBytes c.args.root.now (string_bytes c.in-Some.path) (map string_bytes c.args.paths.items)
    c.loop-path.invariant.left.0 _ _ (g.S.Store.kept c.loop-path.store) (g.S.Store.kept c.args.store.now) c.loop-path.invariant.left.1 (ap (map string_bytes) c.in-Some.ensures.steps.0) c.loop-path.invariant.left.2)) c.in_err-limit.ensures.failed)
