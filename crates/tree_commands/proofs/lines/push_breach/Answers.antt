use Rattle.std.proofs.Common.{◌++◌, append_assoc, codes, decimal, length, refl, sym}
use Rattle.std.proofs.lemmas.Option.{slice_get_read, slice_get_past}
use Rattle.tree_commands.specs.Lines.{rule_line}
use Rattle.tree_commands.proofs.Adding.{placed, said, unsaid}
use Rattle.tree_commands.proofs.lines.push_breach.Goals as goal

pub returns-in-Some : goal.returns-in-Some
returns-in-Some c =
    let files = c.args.files.now in
    let row = c.args.row in
    let file = c.in-Some.file.now in
    said (λ f. rule_line c.args.root.now f row.offset row.rule) files row.file file c.args.text.now c.writeln.new.self
    (slice_get_read files (length files) row.file file refl c.in-Some.ensures.lookup.3.0 c.in-Some.ensures.lookup.1) (rw (← c.rule_name-name.ensures)
    (placed c.args.root.now file row.offset (codes "E" ++ decimal row.rule ++ codes " " ++ c.rule_name-name.result.now) c.as_str-path.result.now _ c.args.text.now c.writeln.new.self c.as_str-path.ensures.bytes (sym (simp append_assoc)) c.writeln.ensures))

pub returns-in_default : goal.returns-in_default
returns-in_default c =
    let files = c.args.files.now in
    let row = c.args.row in
    unsaid (λ f. rule_line c.args.root.now f row.offset row.rule) files row.file c.args.text.now (slice_get_past files row.file c.in_default.ensures.lookup.3)
