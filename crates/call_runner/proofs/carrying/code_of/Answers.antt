use Rattle.std.proofs.Common.{sym, arith}
use Rattle.call_runner.proofs.Codes.{small_id, code_is, code_none}
use Rattle.call_runner.proofs.carrying.code_of.Goals as goal

pub overflow_add-result : goal.overflow_add-result
overflow_add-result c =
    let le = small_id c.args.schema.now.decls c.law_valid.ensures.declarations c.args.interface c.args.method c.in-Some.id (sym c.in-Some.ensures) in
    omega arith

pub returns-in-Some : goal.returns-in-Some
returns-in-Some c = code_is c.args.schema.now.decls c.args.interface c.args.method c.in-Some.id (sym c.in-Some.ensures)

pub returns-in-None : goal.returns-in-None
returns-in-None c = code_none c.args.schema.now.decls c.args.interface c.args.method (sym c.in-None.ensures)
