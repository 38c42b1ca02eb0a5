use Rattle.std.proofs.Common.{◌<◌, ◌∷◌, length, get_or, ◌∙◌, arith}
use Rattle.std.proofs.lemmas.Grind.{common_steps}
use Rattle.json_writing.specs.steps.Numbers.{text_of_byte}
use Rattle.json_writing.proofs.SideBySide.{text_at}
use Rattle.json_writing.proofs.number_text.push_texts.Goals as goal

pub loop-byte-preserved : goal.loop-byte-preserved
loop-byte-preserved c =
    let b = get_or c.args.bytes.now c.loop-byte.byte-index 0 in
    let within : b < length c.args.texts.now = omega (arith, c.requires.all, c.type_inv.bytes c.loop-byte.byte-index) in
    let here = c.as_str.ensures.value ∙ text_at (λ k. 44 ∷ text_of_byte k) c.args.texts.now b c.index-texts-byte.result c.requires.texts within c.index-texts-byte.is in
    grind (arith, common_steps)
