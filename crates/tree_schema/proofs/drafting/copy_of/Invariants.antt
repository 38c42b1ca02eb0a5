use Rattle.std.proofs.Common.{◌≡◌, take}
use Rattle.tree_schema.proofs.drafting.copy_of.Given as goal

-- what was copied is the front
abbrev pub invariant-loop-part : goal.invariant-loop-part
invariant-loop-part l = l.copy.items ≡ take l.part-index l.parts
