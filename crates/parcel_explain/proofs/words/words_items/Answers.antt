use Rattle.std.proofs.Common.{◌≡◌, Ok, Err, ap, ◌∙◌, subst}
use Rattle.std.proofs.lemmas.Result.{err_from_is_err_and}
use Rattle.std.specs.Fmt.{decimal}
use Rattle.std.specs.Prelude.{string_bytes}
use Rattle.std.specs.Str.{chars}
use Rattle.aidl_base.specs.declared.profile.Profile.TheVariants.{Strict}
use Rattle.parcel_words.specs.Place.{Place, left, is_inside}
use Rattle.parcel_words.proofs.lemmas.Moves.{on_and_on}
use Rattle.parcel_explain.specs.Items.{below, value_item}
use Rattle.parcel_explain.specs.steps.Notes.{Tells, done}
use Rattle.parcel_explain.proofs.Levels.{word_here}
use Rattle.parcel_explain.proofs.Stems.{stem_below}
use Rattle.parcel_explain.proofs.Steps.{elements_end, elements_next}
use Rattle.parcel_explain.proofs.words.words_items.Goals as goal

pub returns-in_err-word_with-clause-told : goal.returns-in_err-word_with-clause-told
returns-in_err-word_with-clause-told g c =
    let p = c.args.from.now in
    let l = c.loop-index in
    let reading = g.W.Wire.reading in
    let inside : is_inside l.from ≡ is_inside p = ap is_inside l.invariant.on in
    let strict : l.from.profile ≡ Strict = ap (λ (r : Place). r.profile) l.invariant.on ∙ c.requires.reader.0 in
    let q = err_from_is_err_and c.from_residual-in_err-word_with.result c.from_residual-in_err-word_with.ensures.1 in
    let stop = c.in_err-word_with.field-0.0 in
    let end = left c.word_with.new.from in
    let path = stem_below c.args.spot.now.path.now (string_bytes l.stem) (decimal l.index) c.in_ok-below.below l.invariant.stem c.in_ok-below.ensures.made in
    let told = subst (λ x. Tells {T = Unit {0}} done (Err stop) x end l.items c.word_with.new.items)
    (word_here reading c.in_ok-below.below (below c.args.spot.now.path.now (decimal l.index)) l.from.profile Strict (is_inside l.from) (is_inside p) (left l.from) path strict inside) c.in_err-word_with.ensures.told in
    rw (q.1, q.2) (elements_end (λ r b. value_item r (λ e. reading Strict (is_inside p) e) b) c.args.spot.now.path.now _ l.invariant.told.0 l.index c.args.count (left l.from) l.invariant.told.1
    c.loop-index-test.true c.args.items.now l.items l.invariant.told.2 stop end c.word_with.new.items told)

pub loop-index-preserved : goal.loop-index-preserved
loop-index-preserved g c =
    let p = c.args.from.now in
    let l = c.loop-index in
    let reading = g.W.Wire.reading in
    let inside : is_inside l.from ≡ is_inside p = ap is_inside l.invariant.on in
    let strict : l.from.profile ≡ Strict = ap (λ (r : Place). r.profile) l.invariant.on ∙ c.requires.reader.0 in
    let end = left c.word_with.new.from in
    let path = stem_below c.args.spot.now.path.now (string_bytes l.stem) (decimal l.index) c.in_ok-below.below l.invariant.stem c.in_ok-below.ensures.made in
    let told = subst (λ x. Tells done (Ok tt) x end l.items c.word_with.new.items)
    (word_here reading c.in_ok-below.below (below c.args.spot.now.path.now (decimal l.index)) l.from.profile Strict (is_inside l.from) (is_inside p) (left l.from) path strict inside) c.in_ok-word_with.ensures.told in
    record {
      told = elements_next (λ r b. value_item r (λ e. reading Strict (is_inside p) e) b) c.args.spot.now.path.now _ l.invariant.told.0 l.index c.args.count (left l.from) l.invariant.told.1
          c.loop-index-test.true c.args.items.now l.items l.invariant.told.2 end c.word_with.new.items told;
      on = on_and_on p l.from c.word_with.new.from l.invariant.on c.in_ok-word_with.ensures.on;
      stem = ap chars c.in_ok-below.ensures.same ∙ l.invariant.stem;
    }
