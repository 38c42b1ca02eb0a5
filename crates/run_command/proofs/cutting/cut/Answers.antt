use Rattle.std.proofs.Common.{◌-◌, ◌+◌, length, refl}
use Rattle.run_command.proofs.Cuts.{cut_none, cut_some}
use Rattle.run_command.proofs.cutting.cut.Goals as goal

pub returns-in-Some-clause-lines : goal.returns-in-Some-clause-lines
returns-in-Some-clause-lines c = cut_some c.args.text.now c.in-Some.end (length c.args.text.now - (c.in-Some.end + 1)) c.in-Some.ensures.first refl

pub returns-in-None-clause-lines : goal.returns-in-None-clause-lines
returns-in-None-clause-lines c = cut_none c.args.text.now (length c.args.text.now - length c.args.text.now) c.in-None.ensures.first c.requires
