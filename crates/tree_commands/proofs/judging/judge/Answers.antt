use Rattle.std.proofs.Common.{refl}
use Rattle.tree_commands.specs.Judged.{JudgeAnswers}
use Rattle.tool_frame.proofs.lemmas.Endings.{ended_read}
use Rattle.tool_frame.specs.Exit.{number_of}
use Rattle.tree_commands.proofs.judging.judge.Goals as goal

pub returns : goal.returns
returns g c = λ others.
    let gets = c.judge_roots-answered.ensures in
    ended_read _ (JudgeAnswers c.args.old.now c.args.new.now) _ _ gets.unchanged refl refl refl (number_of c.end.result) _ gets.cause gets.failed gets.said c.end.ensures
