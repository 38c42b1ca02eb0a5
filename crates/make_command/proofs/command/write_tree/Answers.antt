use Rattle.std.proofs.Common.{◌∙◌, Ok, Err}
use Rattle.make_command.proofs.Laying.{file_next, file_stopped, files_done}
use Rattle.make_command.proofs.command.write_tree.Goals as goal

pub loop-file-preserved : goal.loop-file-preserved
loop-file-preserved g c = record {
  completes = λ later faults r left. c.loop-file.invariant.completes later faults r
      (file_next c.args.root.now c.args.files.now c.loop-file.file-index c.file-item.result c.loop-file-test.true c.file-item.is (g.S.Store.kept c.loop-file.store)
      (g.S.Store.kept c.write_file.new.store) later faults r c.in-Ok.ensures.written left);
  cause = c.in-Ok.ensures.cause ∙ c.loop-file.invariant.cause;
}

pub returns-clause-wrote : goal.returns-clause-wrote
returns-clause-wrote g c =
    c.loop-file.invariant.completes (g.S.Store.kept c.loop-file.store) (g.S.Store.fault_record c.loop-file.store) (Ok tt)
    (files_done c.args.root.now c.args.files.now c.loop-file.file-index (g.S.Store.kept c.loop-file.store) (g.S.Store.fault_record c.loop-file.store) c.loop-file-test.false)

pub returns-in-Err-clause-wrote : goal.returns-in-Err-clause-wrote
returns-in-Err-clause-wrote g c =
    c.loop-file.invariant.completes (g.S.Store.kept c.write_file.new.store) (g.S.Store.fault_record c.write_file.new.store) (Err c.in-Err.fault)
    (file_stopped c.args.root.now c.args.files.now c.loop-file.file-index c.file-item.result c.loop-file-test.true c.file-item.is (g.S.Store.kept c.loop-file.store)
    (g.S.Store.kept c.write_file.new.store) (g.S.Store.fault_record c.write_file.new.store) c.in-Err.fault c.in-Err.ensures.written c.in-Err.ensures.failed)
