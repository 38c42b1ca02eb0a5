use Rattle.std.proofs.Common.{arith}
use Rattle.api_dump.specs.Pieces.{spelling}
use Rattle.api_dump.proofs.Packages.{package_none, package_some}
use Rattle.api_dump.proofs.Texts.{behind}
use Rattle.api_dump.proofs.dumping.push_package.Goals as goal

pub returns-in-empty : goal.returns-in-empty
returns-in-empty c = rw (package_none c.args.parts.now c.in-empty.len_below) (grind (arith, behind))

pub returns-in-len1-up : goal.returns-in-len1-up
unfolding spelling
returns-in-len1-up c = rw (package_some c.args.parts.now c.in-len1-up.len_at_least) (grind (arith, behind))
