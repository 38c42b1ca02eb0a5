use Rattle.std.proofs.Common.{refl}
use Rattle.ask_command.specs.Asked.{AskAnswers, words_seen}
use Rattle.tool_frame.proofs.lemmas.Endings.{ended_read}
use Rattle.tool_frame.specs.Exit.{number_of}
use Rattle.ask_command.proofs.asking.ask.Goals as goal

pub returns : goal.returns
returns g c = λ others.
    let gets = c.ask_api-answered.ensures in
    ended_read _ (AskAnswers (words_seen c.args.asked) c.args.asked.path.now) _ _ gets.unchanged refl refl refl (number_of c.end.result) _ gets.cause gets.failed gets.said c.end.ensures
