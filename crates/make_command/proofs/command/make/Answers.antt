use Rattle.std.proofs.Common.{refl}
use Rattle.make_command.specs.Making.{MakeTakes, make_writes}
use Rattle.make_command.proofs.Laying.{ended_lost, left_none}
use Rattle.tool_frame.specs.Seen.{Seen, seen_by}
use Rattle.make_command.proofs.command.make.Goals as goal

pub returns-in-Ok : goal.returns-in-Ok
returns-in-Ok g c = c.make_laid.ensures c.args.count c.args.out.now c.in-Ok.ensures

pub returns-in-Err : goal.returns-in-Err
returns-in-Err g c =
    let before : Seen =
    seen_by g.S.Store.kept g.S.Store.fault_record g.K.Sink.told g.K.Sink.fault_record g.L.Link.log g.L.Link.is_faithful g.L.Link.fault_record c.args.store.now c.args.sink.now c.args.link.now in
    ended_lost (make_writes c.args.count c.args.out.now) (MakeTakes c.args.count c.args.out.now) before before (left_none (make_writes c.args.count c.args.out.now) before.kept before.store_faults) refl refl
