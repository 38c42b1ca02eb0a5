use Rattle.run_command.proofs.lemmas.Takes.{printed_early}
use Rattle.make_command.proofs.command.print_early.Goals as goal

pub returns : goal.returns
returns g c = printed_early c.args.early _ _ _ _ c.print.ensures
