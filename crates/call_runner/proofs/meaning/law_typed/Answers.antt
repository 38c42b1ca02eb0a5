use Rattle.std.proofs.Common.{subst}
use Rattle.call_runner.proofs.Received.{line_typed}
use Rattle.call_scripts.specs.Calls.{call_of}
use Rattle.wire_model.specs.MethodOf.{method_of}
use Rattle.wire_model.specs.Receiver.{called, stub}
use Rattle.wire_model.specs.Typed.{AreArguments}
use Rattle.std.specs.Prelude.{◌≡◌, Ok, Some, ℕ}
use Rattle.aidl_values.specs.Data.{Items}
use Rattle.call_runner.proofs.meaning.law_typed.Goals as goal

pub returns : goal.returns
returns c =
    line_typed c.args.profile c.args.client.now.decls c.args.server.now.decls (call_of c.args.call.now) c.args.bytes.now c.args.reply.now c.requires.there
    (subst (λ code. (j n : ℕ) (saw : Items) → c.args.call.now.server ≡ Some j → stub c.args.profile c.args.server.now.decls j code c.args.bytes.now ≡ Ok (called n saw) → AreArguments (method_of c.args.server.now.decls j n) saw)
    c.requires.code c.law_received.ensures.typed)
    c.law_client.ensures.typed
