use Rattle.parcel_replay.proofs.Codes.{request_behind}
use Rattle.parcel_replay.proofs.words.recorded_code.Goals as goal

pub returns-in-Some : goal.returns-in-Some
returns-in-Some c = λ code b e.
    c.first_code.ensures code b (request_behind c.args.line.now c.in-Some.text.now code b c.in-Some.ensures.0 c.in-Some.ensures.1 e)
