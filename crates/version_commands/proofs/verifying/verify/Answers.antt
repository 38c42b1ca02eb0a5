use Rattle.std.proofs.Common.{refl}
use Rattle.version_commands.specs.Verified.{VerifyAnswers}
use Rattle.tool_frame.proofs.lemmas.Endings.{ended_read}
use Rattle.tool_frame.specs.Exit.{number_of}
use Rattle.version_commands.proofs.verifying.verify.Goals as goal

pub returns : goal.returns
returns g c = λ others.
    let gets = c.verify_versions-answered.ensures in
    ended_read _ (VerifyAnswers c.args.api.now) _ _ gets.unchanged refl refl refl (number_of c.end.result) _ gets.cause gets.failed gets.said c.end.ensures
