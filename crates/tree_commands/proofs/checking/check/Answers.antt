use Rattle.std.proofs.Common.{refl}
use Rattle.tree_commands.specs.Checked.{CheckAnswers}
use Rattle.tool_frame.proofs.lemmas.Endings.{ended_read}
use Rattle.tool_frame.specs.Exit.{number_of}
use Rattle.tree_commands.proofs.checking.check.Goals as goal

pub returns : goal.returns
returns g c = λ others.
    let gets = c.check_root-answered.ensures in
    ended_read _ (CheckAnswers c.args.root.now) _ _ gets.unchanged refl refl refl (number_of c.end.result) _ gets.cause gets.failed gets.said c.end.ensures
