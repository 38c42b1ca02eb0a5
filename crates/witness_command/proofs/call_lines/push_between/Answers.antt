use Rattle.witness_calls.specs.Seen.{call_seen, reading_seen}
use Rattle.witness_command.proofs.Lines.{between}
use Rattle.witness_command.proofs.call_lines.push_between.Goals as goal

pub returns : goal.returns
returns c =
    let showing = c.args.found.now.showing in
    between c.args.client.now.decls c.args.server.now.decls (call_seen c.args.found.now.call) c.in-Ok.name c.as_slice.result.now showing.bytes c.declared-interface.result (reading_seen showing.read)
    (reading_seen showing.projected) c.args.text.now c.push_first.new.text c.push_line.new.text c.push_line-2.new.text c.in-Ok.ensures c.declared-interface.ensures c.as_slice.ensures
    c.push_first.ensures c.push_line.ensures c.push_line-2.ensures
