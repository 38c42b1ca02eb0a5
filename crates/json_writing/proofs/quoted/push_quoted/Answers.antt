use Rattle.std.proofs.Common.{◌≡◌, rules, true, arith}
use Rattle.std.proofs.lemmas.Grind.{common_steps}
use Rattle.std.specs.List.{list_all}
use Rattle.json_writing.specs.steps.Plain.{is_plain_byte}
use Rattle.json_writing.proofs.Plain.{quoted_plain}
use Rattle.json_writing.proofs.quoted.push_quoted.Goals as goal

pub returns-then-is_plain : goal.returns-then-is_plain
unfolding lib.Utf8.encode
returns-then-is_plain c =
    let quoted = c.args.quoted.now in
    let plain : list_all is_plain_byte quoted ≡ true = search rules in
    let written = quoted_plain quoted plain in
    grind (arith, common_steps)
