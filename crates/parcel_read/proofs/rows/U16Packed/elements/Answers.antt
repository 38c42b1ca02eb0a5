use Rattle.parcel_read.proofs.SideBySide.{chars_are}
use Rattle.parcel_read.proofs.rows.U16Packed.elements.Goals as goal

pub returns : goal.returns
returns c = chars_are c.args.row
