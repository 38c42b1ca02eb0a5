use Rattle.std.proofs.Common.{codes, refl, Some, None}
use Rattle.growing.proofs.lemmas.Chains.{nothing_grows}
use Rattle.tree_commands.proofs.Adding.{place_added, placed}
use Rattle.tree_commands.proofs.places.push_place.Goals as goal

pub returns-in-Ok-Some : goal.returns-in-Ok-Some
returns-in-Ok-Some c =
    let found = rw c.in-Ok-Some.field-0-is at c.in-Ok-Some.ensures in
    place_added c.args.root.now c.args.file.now c.args.tokens.now (Some c.in-Ok-Some.place) c.args.text.now c.writeln.new.self c.requires found.place found.only_tree
    (rw (← c.offset_at-offset.ensures) (placed c.args.root.now c.args.file.now c.offset_at-offset.result (codes "syntax") c.as_str-path.result.now _ c.args.text.now c.writeln.new.self c.as_str-path.ensures.bytes refl c.writeln.ensures))

pub returns-in-Ok-None : goal.returns-in-Ok-None
returns-in-Ok-None c =
    let found = rw c.in-Ok-None.field-0-is at c.in-Ok-None.ensures in
    place_added c.args.root.now c.args.file.now c.args.tokens.now None c.args.text.now c.args.text.now c.requires found.place found.only_tree (nothing_grows c.args.text.now)
