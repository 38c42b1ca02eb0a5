use Rattle.api_freeze.proofs.Files.{other_length}
use Rattle.api_freeze.proofs.following.are_same.Goals as goal

pub returns-then-first-second : goal.returns-then-first-second
returns-then-first-second c = other_length c.args.first.now c.args.second.now c.if-first-second.true
