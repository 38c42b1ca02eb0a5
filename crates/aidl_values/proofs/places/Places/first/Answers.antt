use Rattle.std.proofs.Common.{◌<◌, ◌∷◌, ◌++◌, [], sym, ap, ◌∙◌, subst}
use Rattle.std.specs.List.{All, range_with_len}
use Rattle.aidl_values.proofs.Rising.{first_below, first_more}
use Rattle.aidl_values.proofs.places.Places.first.Goals as goal

pub push-requires : goal.push-requires
push-requires c =
    let narrow = c.in-Ok.ensures.1 in
    let below : All (λ p. p < c.loop-i.i) c.loop-i.places = subst (All (λ p. p < c.loop-i.i)) (sym c.loop-i.invariant) (first_below c.loop-i.i) in
    subst (λ n. All (λ p. p < n) c.loop-i.places) (sym narrow) below

pub loop-i-preserved : goal.loop-i-preserved
loop-i-preserved c =
    let narrow = c.in-Ok.ensures.1 in
    c.in_ok-push.ensures.ok ∙ ap (λ ps. ps ++ c.in-Ok.place ∷ []) c.loop-i.invariant ∙ ap (λ n. range_with_len 0 c.loop-i.i ++ n ∷ []) narrow ∙ sym (first_more c.loop-i.i)
