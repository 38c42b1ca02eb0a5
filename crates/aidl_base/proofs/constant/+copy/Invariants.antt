use Rattle.std.proofs.Common.{◌≡◌, take}
use Rattle.aidl_base.proofs.constant.+copy.Given as goal

-- what was copied is the front
abbrev pub invariant-copy_each-loop-constant : goal.invariant-copy_each-loop-constant
invariant-copy_each-loop-constant l = l.copies.items ≡ take l.constant-index l.constants
