use Rattle.std.proofs.Common.{◌≡◌, Some, arith, length, refl, slice_get}
use Rattle.std.proofs.lemmas.Option.{slice_get_read}
use Rattle.api_dump.proofs.Texts.{behind}
use Rattle.api_dump.proofs.nested.+push_declaration.Goals as goal

pub push_declaration-returns-in-Some : goal.push_declaration-returns-in-Some
push_declaration-returns-in-Some t c =
    let S = c.args.decls.now in
    let there : slice_get S c.args.number ≡ Some c.in-Some.decl.now = slice_get_read S (length S) c.args.number c.in-Some.decl.now refl c.in-Some.ensures.lookup.3.0 c.in-Some.ensures.lookup.1 in
    rw there (grind (arith, behind))
