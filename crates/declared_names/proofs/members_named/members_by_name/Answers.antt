use Rattle.std.proofs.Common.{arith}
use Rattle.declared_names.specs.Called.{called, seen_table}
use Rattle.declared_names.specs.Entries.{entry_of}
use Rattle.declared_names.proofs.lemmas.Named.{one_more}
use Rattle.declared_names.proofs.members_named.members_by_name.Goals as goal

pub loop-f-preserved : goal.loop-f-preserved
loop-f-preserved c =
    one_more seen_table called entry_of c.args.found.now c.loop-f.f-index c.f-item.result c.in_ok-table_of.field-0 c.loop-f.tables.items c.push.new.self.items
    c.loop-f.invariant (omega arith) c.f-item.is c.in_ok-table_of.ensures c.in_ok-push.ensures.items
