use Rattle.std.proofs.Common.{rules}
use Rattle.aidl_base.specs.declared.memory.OutOfMemory.{OutOfMemory}
use Rattle.meta_calls.specs.contracts.meta.MetaService.transact.F-Fn as handler
use Rattle.wire_model.specs.MetaStub.{told_of}
use Rattle.meta_calls.proofs.Told.{meta_inner, meta_told}
use Rattle.meta_calls.proofs.meta.MetaService.transact.Goals as goal

pub returns-in-Some : goal.returns-in-Some
returns-in-Some g c =
    meta_told {E = OutOfMemory} ((handler.words g.row.F g.F.Fn).post c.args.self.now.service.handler) c.args.self.now.service.decls c.args.self.now.service.interface c.args.code c.args.bytes.now
    c.self.inside.schema.now.decls c.self.inside.interface c.answer_told.result (search rules) (search rules) (told_of c.args.self.now.version c.args.self.now.hash c.args.code) c.in-Some.told.items
    (search rules) c.answer_told.ensures

pub returns-in-None : goal.returns-in-None
returns-in-None g c =
    meta_inner {E = OutOfMemory} ((handler.words g.row.F g.F.Fn).post c.args.self.now.service.handler) c.args.self.now.service.decls c.args.self.now.service.interface c.args.code c.args.bytes.now
    c.transact.result (told_of c.args.self.now.version c.args.self.now.hash c.args.code) (search rules) (search rules)
