use Rattle.std.proofs.Common.{length, refl}
use Rattle.std.proofs.lemmas.Option.{slice_get_read, slice_get_past}
use Rattle.tree_commands.proofs.Adding.{fault_added, none_added}
use Rattle.tree_commands.proofs.places.push_line.Goals as goal

pub returns-in-Ok : goal.returns-in-Ok
returns-in-Ok c =
    let files = c.args.files.now in
    let number = c.args.number in
    let file = c.in-Some.file.now in
    fault_added c.args.root.now files number file c.args.text.now c.push_place.new.text (slice_get_read files (length files) number file refl c.in-Some.ensures.lookup.3.0 c.in-Some.ensures.lookup.1) c.push_place.ensures

pub returns-in_default : goal.returns-in_default
returns-in_default c =
    let files = c.args.files.now in
    none_added c.args.root.now files c.args.number c.args.text.now (slice_get_past files c.args.number c.in_default.ensures.lookup.3)
