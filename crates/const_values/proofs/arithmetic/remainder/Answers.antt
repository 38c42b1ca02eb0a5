use Rattle.const_values.proofs.Numbers.{remainder_is}
use Rattle.const_values.proofs.arithmetic.remainder.Goals as goal

pub returns : goal.returns
returns c = remainder_is c.args.a c.args.b c.ranges.a c.ranges.b
