use Rattle.std.proofs.Common.{length}
use Rattle.stub_dispatch.proofs.token.+dots_units.Given as goal

abbrev pub decreases-dots_units : goal.decreases-dots_units
decreases-dots_units l = length l.parts.now
