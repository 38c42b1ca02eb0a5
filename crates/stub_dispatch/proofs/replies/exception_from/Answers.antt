use Rattle.std.proofs.Common.{rules}
use Rattle.wire_model.specs.Receiver.{exception_at}
use Rattle.stub_dispatch.proofs.replies.exception_from.Goals as goal

pub returns-in_err-error : goal.returns-in_err-error
unfolding exception_at
returns-in_err-error c = search rules
