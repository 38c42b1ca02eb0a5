use Rattle.std.proofs.Common.{sym}
use Rattle.parcel_replay.proofs.Digits.{half_long}
use Rattle.parcel_replay.proofs.parcels.is_too_large.Goals as goal

pub returns : goal.returns
returns c = λ bytes is. rw c.number.ensures (half_long c.args.word.now bytes 1048576 is)
