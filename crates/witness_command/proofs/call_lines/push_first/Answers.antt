use Rattle.std.proofs.Common.{◌++◌, codes}
use Rattle.growing.proofs.lemmas.Chains.{both_grow}
use Rattle.tool_frame.specs.Shown.{shown}
use Rattle.witness_calls.specs.Seen.{call_seen}
use Rattle.witness_command.specs.CallLines.{heading_text}
use Rattle.witness_command.proofs.call_lines.push_first.Goals as goal

pub returns : goal.returns
returns c =
    let old = c.args.text.now in
    let heading = heading_text c.args.name.now c.args.client.now.decls (call_seen c.args.call.now) in
    let bytes = shown c.args.bytes.now in
    both_grow old c.push_shown.new.text c.push_str-2.new.self (heading ++ codes " " ++ bytes) (codes "\n")
    (both_grow old c.push_str.new.self c.push_shown.new.text (heading ++ codes " ") bytes
    (both_grow old c.push_heading.new.text c.push_str.new.self heading (codes " ") c.push_heading.ensures c.push_str.ensures) c.push_shown.ensures) c.push_str-2.ensures
