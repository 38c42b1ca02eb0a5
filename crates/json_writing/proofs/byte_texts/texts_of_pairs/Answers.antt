use Rattle.std.proofs.Common.{◌≡◌, ◌/◌, ◌%◌, ◌∷◌, length, length-append, sym, ap, subst, ◌∙◌, arith}
use Rattle.json_writing.specs.steps.Numbers.{ArePairTexts, text_of_byte, text_of_pair}
use Rattle.json_writing.proofs.SideBySide.{both_texts, text_at, texts_more}
use Rattle.json_writing.proofs.byte_texts.texts_of_pairs.Goals as goal

pub loop-pair-preserved : goal.loop-pair-preserved
loop-pair-preserved c =
    let texts = c.args.texts.now in
    let pairs = c.loop-pair.pairs.items in
    let n = c.loop-pair.pair in
    let many : length pairs ≡ n = c.loop-pair.invariant.many in
    let first = text_at (λ k. 44 ∷ text_of_byte k) texts (n / 256) c.index-texts-pair.result c.requires.texts (omega (arith, c.requires.all)) c.index-texts-pair.is in
    let second = text_at (λ k. 44 ∷ text_of_byte k) texts (n % 256) c.index-texts-pair-in-loop-pair.result c.requires.texts (omega (arith, c.requires.all)) c.index-texts-pair-in-loop-pair.is in
    record {
      many = omega (arith, many, simp length-append at (ap length c.in_ok-push.ensures.items));
      texts = subst (ArePairTexts 0) (sym c.in_ok-push.ensures.items)
          (texts_more text_of_pair 0 n pairs c.joined.result (omega (arith, many)) c.loop-pair.invariant.texts (c.joined.ensures ∙ both_texts n _ _ first second));
    }
