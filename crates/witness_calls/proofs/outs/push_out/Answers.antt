use Rattle.std.proofs.Common.{sym, ap, ◌∙◌}
use Rattle.std.specs.Prelude.{option_map}
use Rattle.aidl_schema.specs.Methods.{is_in_way}
use Rattle.aidl_values.specs.View.{view}
use Rattle.witness_calls.proofs.Collected.{puts_one}
use Rattle.witness_calls.proofs.Tests.{back_way}
use Rattle.witness_calls.proofs.outs.push_out.Goals as goal

pub returns-in_ok-push-in-Some : goal.returns-in_ok-push-in-Some
returns-in_ok-push-in-Some c =
    puts_one c.args.seen.now.items c.push.new.self.items c.in-Some.view c.args.wanted.now _
    (back_way (is_in_way c.args.wanted.now.way) (sym c.comes_back.ensures ∙ c.if-not-comes_back.false))
    (sym c.in_ok-view.ensures ∙ ap (option_map view) c.in-Some.is) c.in_ok-push-in-Some.ensures.items
