use Rattle.std.proofs.Common.{◌≡◌, false, [], Ok, ap, ◌∙◌, subst}
use Rattle.std.proofs.lemmas.List.{get_or_default}
use Rattle.std.specs.Fmt.{decimal}
use Rattle.parcel_words.specs.Place.{left, is_inside, is_some_open}
use Rattle.parcel_words.proofs.lemmas.Moves.{on_and_on}
use Rattle.parcel_explain.specs.Items.{below}
use Rattle.parcel_explain.specs.steps.Notes.{Tells, done}
use Rattle.parcel_explain.proofs.Explains.{item_here, value_next}
use Rattle.parcel_explain.proofs.whole.values_items.Goals as goal

pub loop-index-preserved : goal.loop-index-preserved
loop-index-preserved c =
    let S = c.args.schema.now.decls in
    let p = c.args.from.now in
    let l = c.loop-index in
    let outside : is_inside l.from ≡ false = ap is_inside l.invariant.on ∙ ap is_some_open c.requires.outside in
    let end = left c.value_items.new.from in
    let path : c.in_ok-below.below ≡ below [] (decimal l.index) = c.in_ok-below.ensures ∙ ap (λ root. below root (decimal l.index)) c.empty-root.ensures in
    let told = subst (λ x. Tells done (Ok tt) x end l.items c.value_items.new.items) (item_here S _ c.in_ok-below.below (below [] (decimal l.index)) (is_inside l.from) (left l.from) path outside) c.in_ok-value_items.ensures.told in
    record {
      told = value_next S _ l.invariant.told.0 c.args.types.now l.index _ (left l.from) l.invariant.told.1 c.loop-index-test.true (get_or_default c.args.types.now l.index _ _ c.loop-index-test.true) c.args.items.now l.items l.invariant.told.2
          end c.value_items.new.items told;
      on = on_and_on p l.from c.value_items.new.from l.invariant.on c.in_ok-value_items.ensures.on;
    }
