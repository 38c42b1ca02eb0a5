use Rattle.std.proofs.Common.{Option, None, subst}
use Rattle.aidl_outside.specs.Told.{Tells}
use Rattle.tool_frame.specs.Ended.{Ran}
use Rattle.tool_frame.specs.Seen.{Seen, seen_by}
use Rattle.tool_words.specs.Command.{Command}
use Rattle.aidl_tool.specs.Headline.{Headline}
use Rattle.aidl_tool.specs.Meant.{meant_by}
use Rattle.aidl_tool.proofs.Kept.{told_anyway}
use Rattle.tool_frame.specs.Exit.{number_of}
use Rattle.aidl_tool.proofs.top.run_words.Goals as goal

pub returns-in-None-clause-ran : goal.returns-in-None-clause-ran
returns-in-None-clause-ran g c =
    let before : Seen =
    seen_by g.S.Store.kept g.S.Store.fault_record g.K.Sink.told g.K.Sink.fault_record g.L.Link.log g.L.Link.is_faithful g.L.Link.fault_record c.args.store.now c.args.sink.now c.args.link.now in
    let now : Seen =
    seen_by g.S.Store.kept g.S.Store.fault_record g.K.Sink.told g.K.Sink.fault_record g.L.Link.log g.L.Link.is_faithful g.L.Link.fault_record c.args.store.now c.refuse.new.sink c.args.link.now in
    subst (λ (words : Option Command). Ran (meant_by words) before now (number_of c.refuse.result)) c.in-None.ensures (c.refuse.ensures before)

pub returns-in-None-clause-headline : goal.returns-in-None-clause-headline
returns-in-None-clause-headline g c =
    let before : Seen =
    seen_by g.S.Store.kept g.S.Store.fault_record g.K.Sink.told g.K.Sink.fault_record g.L.Link.log g.L.Link.is_faithful g.L.Link.fault_record c.args.store.now c.args.sink.now c.args.link.now in
    let now : Seen =
    seen_by g.S.Store.kept g.S.Store.fault_record g.K.Sink.told g.K.Sink.fault_record g.L.Link.log g.L.Link.is_faithful g.L.Link.fault_record c.args.store.now c.refuse.new.sink c.args.link.now in
    subst (λ (words : Option Command). Tells (g.S.Store.kept c.args.store.now) (Headline words before now (number_of c.refuse.result))) c.in-None.ensures
    (told_anyway (g.S.Store.kept c.args.store.now) None before now (number_of c.refuse.result) (λ files. tt))
