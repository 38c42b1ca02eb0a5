use Rattle.std.proofs.Common.{arith}
use Rattle.api_dump.specs.Pieces.{spelling}
use Rattle.api_dump.proofs.Packages.{last_is}
use Rattle.api_dump.proofs.Texts.{behind}
use Rattle.api_dump.proofs.names.push_last.Goals as goal

pub returns-in-len1-up : goal.returns-in-len1-up
unfolding spelling
returns-in-len1-up c = grind (arith, behind, last_is c.args.parts.now c.last-item.result (omega arith) c.last-item.is)
