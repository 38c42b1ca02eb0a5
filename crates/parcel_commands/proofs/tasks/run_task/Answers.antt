use Rattle.std.proofs.Common.{refl}
use Rattle.parcel_commands.specs.Tasks.{TaskAnswers}
use Rattle.tool_words.specs.Seen.{tree_seen}
use Rattle.tool_frame.proofs.lemmas.Endings.{ended_read}
use Rattle.tool_frame.specs.Exit.{number_of}
use Rattle.parcel_commands.proofs.tasks.run_task.Goals as goal

pub returns : goal.returns
returns g c = λ others.
    let gets = c.answer_task-answered.ensures in
    ended_read _ (TaskAnswers c.args.task (tree_seen c.args.asked.tree) c.args.asked.types.now c.args.asked.path.now) _ _ gets.unchanged refl refl refl (number_of c.end.result) _ gets.cause gets.failed gets.said c.end.ensures
