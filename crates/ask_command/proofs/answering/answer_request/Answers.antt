use Rattle.ask_command.proofs.Unscripted.{seen, text_is}
use Rattle.wire_model.specs.MetaStub.{told_of}
use Rattle.ask_command.proofs.answering.answer_request.Goals as goal

pub returns-clause-seen : goal.returns-clause-seen
returns-clause-seen c =
    seen c.args.schema.now.decls c.args.request.interface c.args.request.code c.args.bytes.now (told_of c.args.request.version c.args.hash c.args.request.code) c.transact.result c.law_stub.ensures.typed c.law_stub.ensures.coded c.transact.ensures

pub returns-clause-text : goal.returns-clause-text
returns-clause-text c =
    text_is c.args.schema.now.decls c.args.request.interface c.args.request.code c.args.bytes.now (told_of c.args.request.version c.args.hash c.args.request.code) c.transact.result c.law_stub.ensures.coded c.transact.ensures
