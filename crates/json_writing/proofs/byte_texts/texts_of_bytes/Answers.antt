use Rattle.std.proofs.Common.{◌≡◌, ℤ, ◌∷◌, length, length-append, sym, ap, subst, ◌∙◌, w8, arith}
use Rattle.std.proofs.lemmas.Int.{ints, to_z-of_z}
use Rattle.std.specs.Fmt.{signed_decimal}
use Rattle.json_writing.specs.steps.Numbers.{AreByteTexts, text_of_byte}
use Rattle.json_writing.proofs.SideBySide.{texts_more}
use Rattle.json_writing.proofs.byte_texts.texts_of_bytes.Goals as goal

pub loop-byte-preserved : goal.loop-byte-preserved
loop-byte-preserved c =
    let texts = c.loop-byte.texts.items in
    let n = c.cast_signed.result in
    let many : length texts ≡ c.loop-byte.byte = c.loop-byte.invariant.many in
    record {
      many = omega (arith, many, simp length-append at (ap length c.in_ok-push.ensures.items));
      texts = subst (AreByteTexts 0) (sym c.in_ok-push.ensures.items)
          (texts_more (λ k. 44 ∷ text_of_byte k) 0 c.loop-byte.byte texts c.behind_comma.result (omega (arith, many)) c.loop-byte.invariant.texts (c.behind_comma.ensures ∙ ap (λ (n : ℤ). 44 ∷ signed_decimal n) (to_z-of_z w8 n (omega (arith, ints, c.cast_signed.type_inv)) ∙ c.cast_signed.ensures)));
    }
