use Rattle.std.proofs.Common.{◌≡◌, ◌∙◌, Ok, Err, ap}
use Rattle.compat_judge.specs.Seen.{seen}
use Rattle.witness_calls.specs.Seen.{call_seen}
use Rattle.witness_search.specs.Seen.{shown_seen}
use Rattle.witness_search.specs.declared.shown.NoCall.TheVariants.{OutsideWire}
use Rattle.witness_command.proofs.Added.{shown_behind}
use Rattle.witness_command.proofs.entries.push_entry.Goals as goal

pub returns-in-Found : goal.returns-in-Found
returns-in-Found c =
    shown_behind c.args.pair.now.old c.args.pair.now.new (seen c.args.row.now) (shown_seen c.args.shown.now) (Ok (call_seen c.in-Found.found.call)) c.args.text.now c.push_break.new.text
    c.push_call.new.text (ap shown_seen c.in-Found.is) c.push_break.ensures c.push_call.ensures

pub returns-in-OutsideWire : goal.returns-in-OutsideWire
returns-in-OutsideWire c =
    let shown : shown_seen c.args.shown.now ≡ Err c.in-Reason.why = ap shown_seen c.in-Reason.is in
    shown_behind c.args.pair.now.old c.args.pair.now.new (seen c.args.row.now) (shown_seen c.args.shown.now) (Err OutsideWire) c.args.text.now c.push_break.new.text
    c.push_str.new.self (shown ∙ ap Err c.in-OutsideWire.is) c.push_break.ensures c.push_str.ensures
