use Rattle.std.proofs.Common.{◌≡◌, drop}
use Rattle.aidl_base.specs.Profiles.{all_zero}
use Rattle.parcel_words.proofs.padding.is_zero.Given as goal

-- what is left decides
abbrev pub invariant-loop-byte : goal.invariant-loop-byte
invariant-loop-byte l = all_zero (drop l.byte-index l.bytes) ≡ all_zero l.bytes
