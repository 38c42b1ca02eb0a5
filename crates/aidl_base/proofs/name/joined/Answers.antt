use Rattle.std.proofs.Common.{◌≡◌, ◌∷◌, ◌++◌, [], ◌<◌, ◌+◌, length, ap, ◌∙◌, arith, lit<, subst, sym, take, append_assoc}
use Rattle.std.specs.Prelude.{string_bytes}
use Rattle.std.proofs.lemmas.Str.{encode_ascii}
use Rattle.aidl_base.specs.Names.{dotted}
use Rattle.aidl_base.proofs.lemmas.Lists.{take_further, take_to_end}
use Rattle.aidl_base.proofs.lemmas.Joined.{Spells, dotted_more, marked, read_back}
use Rattle.aidl_base.proofs.name.joined.Goals as goal

pub loop-part-init : goal.loop-part-init
loop-part-init c = record { bytes = c.in_ok-text.ensures.ok ∙ c.as_str.ensures.bytes; scalars = c.as_str.ensures.scalars }

pub loop-part-preserved : goal.loop-part-preserved
loop-part-preserved c =
    let first = c.args.first.now in
    let done = take c.loop-part.part-index c.args.others.now in
    let part = c.part-item.result in
    let lt : c.loop-part.part-index < length c.args.others.now = omega arith in
    let spelled : Spells c.as_str-in-loop-part.result.now part.0 = record { bytes = c.as_str-in-loop-part.ensures.bytes; scalars = c.as_str-in-loop-part.ensures.scalars } in
    let bytes : string_bytes c.push_str.new.self ≡ string_bytes c.loop-part.text ++ 46 ∷ c.as_str-in-loop-part.result.now =
    c.in_ok-push_str.ensures.bytes ∙ ap (λ z. z ++ c.as_str-in-loop-part.result.now) (c.in_ok-push.ensures.bytes ∙ ap (λ z. string_bytes c.loop-part.text ++ z) (encode_ascii 46 (lit< tt)))
    ∙ append_assoc (string_bytes c.loop-part.text) (46 ∷ []) c.as_str-in-loop-part.result.now in
    let text : dotted (first ∷ done) ++ 46 ∷ part.0 ≡ dotted (first ∷ take (c.loop-part.part-index + 1) c.args.others.now) =
    sym (dotted_more first part done) ∙ ap (λ ps. dotted (first ∷ ps)) (sym (take_further c.args.others.now c.loop-part.part-index part lt c.part-item.is)) in
    subst (λ bs. Spells bs (dotted (first ∷ take (c.loop-part.part-index + 1) c.args.others.now))) (sym bytes)
    (subst (λ t. Spells (string_bytes c.loop-part.text ++ 46 ∷ c.as_str-in-loop-part.result.now) t) text (marked 46 (lit< tt) _ _ _ _ c.loop-part.invariant spelled))

pub returns : goal.returns
returns c =
    let at : c.loop-part.part-index ≡ length c.args.others.now = omega arith in
    c.from_string.ensures ∙ read_back (string_bytes c.loop-part.text) _ c.loop-part.invariant ∙ ap (λ ps. dotted (c.args.first.now ∷ ps)) (take_to_end c.args.others.now c.loop-part.part-index at)
