use Rattle.std.proofs.Common.{rules, sym}
use Rattle.parcel_commands.proofs.NamedBases.{text_named, bytes_unnamed}
use Rattle.parcel_commands.proofs.base.named_base.Goals as goal

pub returns-in-Ok : goal.returns-in-Ok
returns-in-Ok c =
    let text = c.in-Ok.ensures.cases in
    let named = text_named c.args.schema.now.decls c.args.name.now text.1 in
    let same = text.0 in
    let found = c.find.ensures in
    let mapped = c.map.ensures.cases in
    search (rules, named, same, found, mapped)

pub returns-in-Err : goal.returns-in-Err
returns-in-Err c = sym (bytes_unnamed c.args.schema.now.decls c.args.name.now c.in-Err.ensures.cases.0)
