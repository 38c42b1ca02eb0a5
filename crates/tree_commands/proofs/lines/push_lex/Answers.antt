use Rattle.std.proofs.Common.{◌++◌, append_assoc, codes, decimal, length, refl, sym}
use Rattle.std.proofs.lemmas.Option.{slice_get_read, slice_get_past}
use Rattle.aidl_lexer.specs.Naming.{number_of, offset_of, name_of}
use Rattle.tree_commands.specs.Lines.{lex_words}
use Rattle.tree_commands.proofs.Adding.{placed, said, unsaid}
use Rattle.tree_commands.proofs.lines.push_lex.Goals as goal

pub returns-in-Some-Some-Some : goal.returns-in-Some-Some-Some
returns-in-Some-Some-Some c =
    let files = c.args.files.now in
    let row = c.args.row.now in
    let file = c.in-Some.file.now in
    said (λ f. lex_words c.args.root.now f (offset_of row.fault) (number_of row.fault) (name_of row.fault)) files row.file file c.args.text.now c.writeln.new.self
    (slice_get_read files (length files) row.file file refl c.in-Some.ensures.lookup.3.0 c.in-Some.ensures.lookup.1)
    (rw (← c.offset.ensures, ← c.number.ensures, ← c.name.ensures, c.in-Some-Some-Some.is-0, c.in-Some-Some-Some.is-1, c.in-Some-Some-Some.is-2)
    (placed c.args.root.now file c.in-Some-Some-Some.offset (codes "lex " ++ decimal c.in-Some-Some-Some.number ++ codes " " ++ c.in-Some-Some-Some.name.now) c.as_str-path.result.now _ c.args.text.now c.writeln.new.self c.as_str-path.ensures.bytes (sym (simp append_assoc)) c.writeln.ensures))

pub returns-in_default : goal.returns-in_default
returns-in_default c =
    let files = c.args.files.now in
    let row = c.args.row.now in
    unsaid (λ f. lex_words c.args.root.now f (offset_of row.fault) (number_of row.fault) (name_of row.fault)) files row.file c.args.text.now (slice_get_past files row.file c.in_default.ensures.lookup.3)
