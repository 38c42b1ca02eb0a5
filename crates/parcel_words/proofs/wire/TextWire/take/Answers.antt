use Rattle.aidl_base.proofs.lemmas.Spelled.{never_null}
use Rattle.parcel_words.specs.Place.{left, is_inside}
use Rattle.parcel_words.proofs.wire.TextWire.take.Goals as goal

pub unreachable-requires : goal.unreachable-requires
unreachable-requires c = never_null c.args.from.now.profile (is_inside c.args.from.now) (left c.args.from.now) (left c.text.new.self) (rw c.in-None.is at c.in_ok-text.ensures.taken)
