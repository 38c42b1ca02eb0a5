use Rattle.std.proofs.Common.{true, false}
use Rattle.witness_calls.specs.Seen.{call_seen}
use Rattle.witness_command.proofs.Lines.{shown_between}
use Rattle.witness_command.proofs.call_lines.push_call.Goals as goal

pub returns-then-found : goal.returns-then-found
returns-then-found c =
    shown_between c.args.pair.now.old c.args.pair.now.new c.schema-new.result.now.decls c.schema-old.result.now.decls (call_seen c.args.found.now.call) c.args.found.now.showing true
    c.args.text.now c.push_between.new.text c.schema-new.ensures c.schema-old.ensures c.if-found.true c.requires c.push_between.ensures

pub returns-else-found : goal.returns-else-found
returns-else-found c =
    shown_between c.args.pair.now.old c.args.pair.now.new c.schema-old.result.now.decls c.schema-new.result.now.decls (call_seen c.args.found.now.call) c.args.found.now.showing false
    c.args.text.now c.push_between-else-found.new.text c.schema-old.ensures c.schema-new.ensures c.if-found.false c.requires c.push_between-else-found.ensures
