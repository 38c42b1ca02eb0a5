use Rattle.std.proofs.Common.{sym, subst}
use Rattle.std.proofs.lemmas.Str.{IsUtf8-from_ascii}
use Rattle.std.specs.Str.{IsAscii}
use Rattle.parcel_commands.proofs.HexDigits.{digits_ascii}
use Rattle.parcel_commands.proofs.explaining.push_bytes.Goals as goal

pub from_utf8_unchecked-requires : goal.from_utf8_unchecked-requires
from_utf8_unchecked-requires c = IsUtf8-from_ascii c.encode_to_slice.new.output (subst IsAscii (sym c.in-Ok.ensures.written) (digits_ascii c.args.bytes.now))
