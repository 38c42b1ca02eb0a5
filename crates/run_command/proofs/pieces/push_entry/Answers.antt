use Rattle.std.proofs.Common.{◌++◌, codes, subst}
use Rattle.std.specs.Fmt.{decimal}
use Rattle.growing.specs.Grows.{Grows}
use Rattle.growing.proofs.lemmas.Chains.{both_grow}
use Rattle.tool_frame.specs.Shown.{shown}
use Rattle.run_command.specs.Trace.{way_text}
use Rattle.run_command.proofs.pieces.push_entry.Goals as goal

pub returns : goal.returns
returns c =
    let entry = c.args.entry.now in
    let text = c.args.text.now in
    let way = way_text entry.way ++ codes " " ++ decimal entry.code ++ codes " " in
    let sent = subst (λ bytes. Grows c.push_way.new.text c.push_shown.new.text (shown bytes)) c.as_slice.ensures c.push_shown.ensures in
    let delivered = subst (λ bytes. Grows c.push_str.new.self c.push_shown-2.new.text (shown bytes)) c.as_slice-2.ensures c.push_shown-2.ensures in
    let front = both_grow text c.push_shown.new.text c.push_str.new.self (way ++ shown entry.sent) (codes " ") (both_grow text c.push_way.new.text c.push_shown.new.text way (shown entry.sent) c.push_way.ensures sent) c.push_str.ensures in
    let most = both_grow text c.push_str.new.self c.push_shown-2.new.text (way ++ shown entry.sent ++ codes " ") (shown entry.delivered) front delivered in
    both_grow text c.push_shown-2.new.text c.push_str-2.new.self (way ++ shown entry.sent ++ codes " " ++ shown entry.delivered) (codes "\n") most c.push_str-2.ensures
