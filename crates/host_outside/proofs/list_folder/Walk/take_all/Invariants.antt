use Rattle.host_outside.specs.Walks.{Grew}
use Rattle.host_outside.proofs.list_folder.Walk.take_all.Given as goal

abbrev pub invariant-loop-entry : goal.invariant-loop-entry
invariant-loop-entry g l = Grew l.initial.self l.self
