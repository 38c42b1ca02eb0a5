use Rattle.std.proofs.Common.{refl}
use Rattle.replay_command.specs.Replaying.{ReplayAnswers}
use Rattle.tool_frame.proofs.lemmas.Endings.{ended_read}
use Rattle.tool_frame.specs.Exit.{number_of}
use Rattle.replay_command.proofs.replaying.replay.Goals as goal

pub returns : goal.returns
returns g c = λ others.
    let gets = c.replay_trace-answered.ensures in
    ended_read _ (ReplayAnswers c.args.asked.server.now c.args.asked.interface.now c.args.asked.trace.now) _ _ gets.unchanged refl refl refl (number_of c.end.result) _ gets.cause gets.failed gets.said c.end.ensures
