use Rattle.std.proofs.Common.{◌≡◌, Some, None, sym, subst}
use Rattle.aidl_schema.specs.Find.{methods_at, position_of_code}
use Rattle.call_runner.proofs.Reported.{found_methods, unfound_methods}
use Rattle.call_scripts.specs.Calls.{call_of}
use Rattle.call_runner.proofs.reporting.methods_at.Goals as goal

pub returns-in-Some : goal.returns-in-Some
returns-in-Some c =
    let at = subst (λ S. position_of_code (methods_at S c.args.other) c.args.code ≡ Some c.in-Some.called) c.schema.ensures (sym c.in-Some.ensures) in
    found_methods (call_of c.args.call.now) c.args.profile c.args.server.now c.args.other c.args.code c.args.bytes.now c.in-Some.called at c.requires.refused c.requires.accepted

pub returns-in-None : goal.returns-in-None
returns-in-None c =
    let none = subst (λ S. position_of_code (methods_at S c.args.other) c.args.code ≡ None) c.schema.ensures (sym c.in-None.ensures) in
    unfound_methods (call_of c.args.call.now) c.args.profile c.args.server.now c.args.other c.args.code c.args.bytes.now none
