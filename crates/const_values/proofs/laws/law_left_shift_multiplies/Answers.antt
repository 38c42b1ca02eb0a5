use Rattle.const_values.proofs.LeftShift.{multiplies}
use Rattle.const_values.proofs.laws.law_left_shift_multiplies.Goals as goal

pub returns : goal.returns
returns c = multiplies c.args.width c.args.a c.args.places
