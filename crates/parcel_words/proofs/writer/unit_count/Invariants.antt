use Rattle.std.proofs.Common.{◌≡◌, ◌+◌, length, drop}
use Rattle.std.specs.Str.{chars}
use Rattle.aidl_base.specs.Words.{units}
use Rattle.parcel_words.proofs.writer.unit_count.Given as goal

-- what is counted, and the units of the characters that are left, are all
abbrev pub invariant-loop-c : goal.invariant-loop-c
invariant-loop-c l = l.count + length (units (drop (length l.yielded) (chars l.text))) ≡ length (units (chars l.text))
