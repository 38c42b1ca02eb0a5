use Rattle.std.proofs.Common.{◌≡◌, drop}
use Rattle.memory_outside.specs.Edits.{delivered}
use Rattle.memory_outside.proofs.edits.edit_all.Given as goal

-- the edits that are left give what all of them give
abbrev pub invariant-loop-edit : goal.invariant-loop-edit
invariant-loop-edit l = delivered (drop l.edit-index l.edits) l.carry l.bytes.items ≡ delivered l.edits l.carry l.initial.bytes.items
