use Rattle.std.proofs.Common.{◌≡◌, ◌+◌, ◌*◌, ◌/◌, ◌%◌, ◌<◌, ◌∷◌, ◌++◌, length, get_or, refl, ◌∙◌, arith}
use Rattle.std.proofs.lemmas.Grind.{common_steps}
use Rattle.std.proofs.lemmas.List.{drop_more}
use Rattle.json_writing.specs.steps.Numbers.{text_of_byte, text_of_pair}
use Rattle.json_writing.proofs.SideBySide.{text_at}
use Rattle.json_writing.proofs.number_text.push_twos.Goals as goal

pub loop-i-preserved : goal.loop-i-preserved
loop-i-preserved c =
    let bs = c.args.bytes.now in
    let i = c.loop-i.i in
    let a = get_or bs (2 * i) 0 in
    let b = get_or bs (2 * i + 1) 0 in
    let pair = 256 * a + b in
    let lies : 2 * i + 1 < length bs = omega arith in
    let small : b < 256 = omega (arith, c.type_inv.bytes (2 * i + 1)) in
    let within : pair < length c.args.pairs.now = omega (arith, c.requires.all, c.type_inv.bytes (2 * i)) in
    let here = c.as_str.ensures.value ∙ text_at text_of_pair c.args.pairs.now pair c.index-pairs-pair.result c.requires.texts within c.index-pairs-pair.is in
    let high : pair / 256 ≡ a = omega arith in
    let low : pair % 256 ≡ b = omega arith in
    let both : text_of_pair pair ≡ (44 ∷ text_of_byte a) ++ (44 ∷ text_of_byte b) = rw (high, low) refl in
    let first = drop_more bs (2 * i) 0 (omega arith) in
    let second = drop_more bs (2 * i + 1) 0 lies in
    let after : 2 * i + 1 + 1 ≡ 2 * (i + 1) = omega arith in
    grind (arith, common_steps)
