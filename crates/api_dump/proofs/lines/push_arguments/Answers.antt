use Rattle.std.proofs.Common.{arith}
use Rattle.api_dump.proofs.Texts.{behind}
use Rattle.api_dump.proofs.lines.push_arguments.Goals as goal

pub returns : goal.returns
returns c = grind (arith, behind)
