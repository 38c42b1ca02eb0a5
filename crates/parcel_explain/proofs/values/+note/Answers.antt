use Rattle.std.proofs.Common.{length, ◌≡◌, ◌-◌, ℕ, Bool, true, false, Option, Some, Ok, Err, sym, ap, ◌∙◌, subst}
use Rattle.std.proofs.lemmas.Result.{err_from_is_err_and}
use Rattle.aidl_schema.specs.Seen.{seen}
use Rattle.aidl_schema.specs.Types.{Form, elem, is_one, is_raw}
use Rattle.aidl_schema.specs.Types as form
use Rattle.aidl_values.specs.steps.Levels.{is_level_left}
use Rattle.parcel_words.specs.Place.{left, is_inside}
use Rattle.parcel_explain.specs.declared.item.ItemKind.TheVariants as kind
use Rattle.parcel_explain.specs.Items as meant
use Rattle.parcel_explain.specs.Items.{below, body_items, chosen_items, counted_items, elements_items, fields_items, items_of, record_items, sequence_items, union_items}
use Rattle.parcel_explain.specs.Marks.{elements_count_at, value_marker_at}
use Rattle.parcel_explain.specs.Noted.{Noted, Notes, item}
use Rattle.parcel_explain.specs.steps.Notes.{Tells, done, part_items}
use Rattle.std.specs.Fmt.{decimal}
use Rattle.std.specs.Prelude.{string_bytes}
use Rattle.std.specs.Str.{chars}
use Rattle.parcel_words.specs.Place.{Place, closed, limit}
use Rattle.parcel_words.proofs.lemmas.Moves.{on_and_on}
use Rattle.parcel_explain.proofs.Bodies.{body_ends, body_told, left_long, no_body, some_left}
use Rattle.parcel_explain.proofs.Levels.{element_here, elements_as, of_many, of_one}
use Rattle.parcel_words.proofs.lemmas.Records.{stays}
use Rattle.parcel_explain.proofs.Stems.{stem_below}
use Rattle.parcel_explain.proofs.Steps.{counted_told, elements_end, elements_next, field_end, field_next, there_told}
use Rattle.parcel_explain.proofs.values.+note.Goals as goal

pub value_items-returns-in-One-clause-told : goal.value_items-returns-in-One-clause-told
value_items-returns-in-One-clause-told t c =
    let S = c.args.spot.now.schema.now.decls in
    let p = c.args.from.now in
    let one : is_one c.args.ty.shape ≡ true = ap is_one c.in-One.is in
    subst (λ (x : Notes). Tells done c.one_items.result x (left c.one_items.new.from) c.args.items.now c.one_items.new.items)
    (ap (λ (f : Form). meant.one_items (is_level_left c.args.spot.now.levels) (λ u q j b. part_items S c.args.spot.now.levels u q j b) c.args.ty.nullable c.args.spot.now.path.now f (is_inside p) (left p)) c.form_in-form.ensures
    ∙ of_one S c.args.spot.now.levels c.args.ty c.args.spot.now.path.now (is_inside p) (left p) one) c.one_items.ensures.told

pub value_items-returns-in-Array-clause-told : goal.value_items-returns-in-Array-clause-told
value_items-returns-in-Array-clause-told t c =
    let S = c.args.spot.now.schema.now.decls in
    let p = c.args.from.now in
    let many : is_one c.args.ty.shape ≡ false = ap is_one c.in-Array.is in
    subst (λ (x : Notes). Tells done c.sequence_items.result x (left c.sequence_items.new.from) c.args.items.now c.sequence_items.new.items)
    (of_many S c.args.spot.now.levels c.args.ty c.args.spot.now.path.now (is_inside p) (left p) many) c.sequence_items.ensures.told

pub value_items-returns-in-List-clause-told : goal.value_items-returns-in-List-clause-told
value_items-returns-in-List-clause-told t c =
    let S = c.args.spot.now.schema.now.decls in
    let p = c.args.from.now in
    let many : is_one c.args.ty.shape ≡ false = ap is_one c.in-List.is in
    subst (λ (x : Notes). Tells done c.sequence_items-in-List.result x (left c.sequence_items-in-List.new.from) c.args.items.now c.sequence_items-in-List.new.items)
    (of_many S c.args.spot.now.levels c.args.ty c.args.spot.now.path.now (is_inside p) (left p) many) c.sequence_items-in-List.ensures.told

pub sequence_items-returns-in-Some-clause-told : goal.sequence_items-returns-in-Some-clause-told
unfolding sequence_items
sequence_items-returns-in-Some-clause-told t c =
    let S = c.args.spot.now.schema.now.decls in
    let p = c.args.from.now in
    let q = c.elements_count_item.new.from in
    let inside : is_inside q ≡ is_inside p = ap is_inside c.in_ok-count.ensures.on in
    let raw = is_raw S c.args.ty in
    let count : Noted (Option ℕ) = item c.args.spot.now.path.now kind.Count (λ b. elements_count_at (is_level_left c.args.spot.now.levels) c.args.ty.nullable (is_inside p) b) (left p) in
    counted_told count (λ n b. counted_items raw (λ r b. part_items S c.args.spot.now.levels (elem S c.args.ty) r (is_inside p) b) c.args.spot.now.path.now (is_inside p) n b) (left q) c.in_ok-count.field-0 c.in-Some.count
    c.args.items.now c.elements_count_item.new.items c.counted_items.new.items (left c.counted_items.new.from) c.counted_items.result c.in_ok-count.ensures.told.0 c.in_ok-count.ensures.told.1 c.in-Some.is
    (subst (λ j. Tells done c.counted_items.result (counted_items raw (λ r b. part_items S c.args.spot.now.levels (elem S c.args.ty) r j b) c.args.spot.now.path.now j (Some c.in-Some.count) (left q)) (left c.counted_items.new.from)
    c.elements_count_item.new.items c.counted_items.new.items) inside c.counted_items.ensures.told)

pub record_items-returns-clause-told : goal.record_items-returns-clause-told
unfolding record_items
record_items-returns-clause-told t c =
    let S = c.args.spot.now.schema.now.decls in
    let p = c.args.from.now in
    let q = c.marker_item.new.from in
    let inside : is_inside q ≡ is_inside p = ap is_inside c.in_ok-marker_item.ensures.on in
    let marker : Noted Bool = item c.args.spot.now.path.now kind.Marker (λ b. value_marker_at (is_level_left c.args.spot.now.levels) c.args.nullable (is_inside p) b) (left p) in
    there_told marker (λ b. body_items (λ u r b. part_items S c.args.spot.now.levels u r true b) c.args.spot.now.path.now c.args.fields.now (is_inside p) b) (left q) c.in_ok-marker_item.field-0
    c.args.items.now c.marker_item.new.items c.body_items.new.items (left c.body_items.new.from) c.body_items.result c.in_ok-marker_item.ensures.told.0 c.in_ok-marker_item.ensures.told.1 c.if-not-branch.false
    (subst (λ j. Tells done c.body_items.result (body_items (λ u r b. part_items S c.args.spot.now.levels u r true b) c.args.spot.now.path.now c.args.fields.now j (left q)) (left c.body_items.new.from)
    c.marker_item.new.items c.body_items.new.items) inside c.body_items.ensures.told)

pub union_items-returns-clause-told : goal.union_items-returns-clause-told
unfolding union_items
union_items-returns-clause-told t c =
    let S = c.args.spot.now.schema.now.decls in
    let p = c.args.from.now in
    let q = c.marker_item.new.from in
    let inside : is_inside q ≡ is_inside p = ap is_inside c.in_ok-marker_item.ensures.on in
    let marker : Noted Bool = item c.args.spot.now.path.now kind.Marker (λ b. value_marker_at (is_level_left c.args.spot.now.levels) c.args.nullable (is_inside p) b) (left p) in
    there_told marker (λ b. chosen_items (λ u r b. part_items S c.args.spot.now.levels u r (is_inside p) b) c.args.spot.now.path.now c.args.fields.now (is_inside p) b) (left q) c.in_ok-marker_item.field-0
    c.args.items.now c.marker_item.new.items c.chosen_items.new.items (left c.chosen_items.new.from) c.chosen_items.result c.in_ok-marker_item.ensures.told.0 c.in_ok-marker_item.ensures.told.1 c.if-not-branch.false
    (subst (λ j. Tells done c.chosen_items.result (chosen_items (λ u r b. part_items S c.args.spot.now.levels u r j b) c.args.spot.now.path.now c.args.fields.now j (left q)) (left c.chosen_items.new.from)
    c.marker_item.new.items c.chosen_items.new.items) inside c.chosen_items.ensures.told)

pub elements_items-returns-in-Truth-clause-told : goal.elements_items-returns-in-Truth-clause-told
elements_items-returns-in-Truth-clause-told t c =
    let p = c.args.from.now in
    subst (λ (x : Notes). Tells done c.words_items.result x (left c.words_items.new.from) c.args.items.now c.words_items.new.items)
    (elements_as c.args.spot.now.schema.now.decls c.args.spot.now.levels c.args.element (is_inside p) c.requires.some c.requires.one form.truth (sym c.form_in.ensures ∙ ap seen c.in-Truth.is) c.args.spot.now.path.now c.args.count (left p)) c.words_items.ensures.told

pub elements_items-returns-in-Byte-clause-told : goal.elements_items-returns-in-Byte-clause-told
elements_items-returns-in-Byte-clause-told t c =
    let p = c.args.from.now in
    subst (λ (x : Notes). Tells done c.words_items-in-Byte.result x (left c.words_items-in-Byte.new.from) c.args.items.now c.words_items-in-Byte.new.items)
    (elements_as c.args.spot.now.schema.now.decls c.args.spot.now.levels c.args.element (is_inside p) c.requires.some c.requires.one form.byte (sym c.form_in.ensures ∙ ap seen c.in-Byte.is) c.args.spot.now.path.now c.args.count (left p)) c.words_items-in-Byte.ensures.told

pub elements_items-returns-in-Char-clause-told : goal.elements_items-returns-in-Char-clause-told
elements_items-returns-in-Char-clause-told t c =
    let p = c.args.from.now in
    subst (λ (x : Notes). Tells done c.words_items-in-Char.result x (left c.words_items-in-Char.new.from) c.args.items.now c.words_items-in-Char.new.items)
    (elements_as c.args.spot.now.schema.now.decls c.args.spot.now.levels c.args.element (is_inside p) c.requires.some c.requires.one form.char (sym c.form_in.ensures ∙ ap seen c.in-Char.is) c.args.spot.now.path.now c.args.count (left p)) c.words_items-in-Char.ensures.told

pub elements_items-returns-in-Int-clause-told : goal.elements_items-returns-in-Int-clause-told
elements_items-returns-in-Int-clause-told t c =
    let p = c.args.from.now in
    subst (λ (x : Notes). Tells done c.words_items-in-Int.result x (left c.words_items-in-Int.new.from) c.args.items.now c.words_items-in-Int.new.items)
    (elements_as c.args.spot.now.schema.now.decls c.args.spot.now.levels c.args.element (is_inside p) c.requires.some c.requires.one form.int (sym c.form_in.ensures ∙ ap seen c.in-Int.is) c.args.spot.now.path.now c.args.count (left p)) c.words_items-in-Int.ensures.told

pub elements_items-returns-in-Long-clause-told : goal.elements_items-returns-in-Long-clause-told
elements_items-returns-in-Long-clause-told t c =
    let p = c.args.from.now in
    subst (λ (x : Notes). Tells done c.words_items-in-Long.result x (left c.words_items-in-Long.new.from) c.args.items.now c.words_items-in-Long.new.items)
    (elements_as c.args.spot.now.schema.now.decls c.args.spot.now.levels c.args.element (is_inside p) c.requires.some c.requires.one form.long (sym c.form_in.ensures ∙ ap seen c.in-Long.is) c.args.spot.now.path.now c.args.count (left p)) c.words_items-in-Long.ensures.told

pub each_items-returns-in_err-value_items-clause-told : goal.each_items-returns-in_err-value_items-clause-told
each_items-returns-in_err-value_items-clause-told t c =
    let S = c.args.spot.now.schema.now.decls in
    let p = c.args.from.now in
    let l = c.loop-index in
    let inside : is_inside l.from ≡ is_inside p = ap is_inside l.invariant.on in
    let q = err_from_is_err_and c.from_residual-in_err-value_items.result c.from_residual-in_err-value_items.ensures.1 in
    let stop = c.in_err-value_items.field-0.0 in
    let end = left c.value_items.new.from in
    let path = stem_below c.args.spot.now.path.now (string_bytes l.stem) (decimal l.index) c.in_ok-below.below l.invariant.stem c.in_ok-below.ensures.made in
    let told = subst (λ x. Tells {T = Unit {0}} done (Err stop) x end l.items c.value_items.new.items)
    (element_here S c.args.spot.now.levels c.args.element c.in_ok-below.below (below c.args.spot.now.path.now (decimal l.index)) (is_inside l.from) (is_inside p) (left l.from) path inside c.requires.some) c.in_err-value_items.ensures.told in
    rw (q.1, q.2) (elements_end (λ r b. part_items S c.args.spot.now.levels c.args.element r (is_inside p) b) c.args.spot.now.path.now _ l.invariant.told.0 l.index c.args.count (left l.from) l.invariant.told.1
    c.loop-index-test.true c.args.items.now l.items l.invariant.told.2 stop end c.value_items.new.items told)

pub each_items-loop-index-preserved : goal.each_items-loop-index-preserved
each_items-loop-index-preserved t c =
    let S = c.args.spot.now.schema.now.decls in
    let p = c.args.from.now in
    let l = c.loop-index in
    let inside : is_inside l.from ≡ is_inside p = ap is_inside l.invariant.on in
    let end = left c.value_items.new.from in
    let path = stem_below c.args.spot.now.path.now (string_bytes l.stem) (decimal l.index) c.in_ok-below.below l.invariant.stem c.in_ok-below.ensures.made in
    let told = subst (λ x. Tells done (Ok tt) x end l.items c.value_items.new.items)
    (element_here S c.args.spot.now.levels c.args.element c.in_ok-below.below (below c.args.spot.now.path.now (decimal l.index)) (is_inside l.from) (is_inside p) (left l.from) path inside c.requires.some) c.in_ok-value_items.ensures.told in
    record {
      told = elements_next (λ r b. part_items S c.args.spot.now.levels c.args.element r (is_inside p) b) c.args.spot.now.path.now _ l.invariant.told.0 l.index c.args.count (left l.from) l.invariant.told.1
          c.loop-index-test.true c.args.items.now l.items l.invariant.told.2 end c.value_items.new.items told;
      on = on_and_on p l.from c.value_items.new.from l.invariant.on c.in_ok-value_items.ensures.on;
      stem = ap chars c.in_ok-below.ensures.same ∙ l.invariant.stem;
    }

pub fields_items-returns-in_err-value_items-clause-told : goal.fields_items-returns-in_err-value_items-clause-told
fields_items-returns-in_err-value_items-clause-told t c =
    let S = c.args.spot.now.schema.now.decls in
    let p = c.args.from.now in
    let l = c.loop-field in
    let f = c.field-item.result in
    let inside : is_inside l.from ≡ true = ap is_inside l.invariant.on ∙ c.requires.inside in
    let q = err_from_is_err_and c.from_residual-in_err-value_items.result c.from_residual-in_err-value_items.ensures.1 in
    let stop = c.in_err-value_items.field-0.0 in
    let end = left c.value_items.new.from in
    let told = subst (λ x. Tells {T = Unit {0}} done (Err stop) x end l.items c.value_items.new.items)
    (element_here S c.args.spot.now.levels f.ty c.in_ok-below.below (below c.args.spot.now.path.now f.name.0) (is_inside l.from) true (left l.from) (c.in_ok-below.ensures ∙ ap (below c.args.spot.now.path.now) (sym c.as_str.ensures.value)) inside c.requires.some) c.in_err-value_items.ensures.told in
    rw (q.1, q.2) (field_end (λ u r b. part_items S c.args.spot.now.levels u r true b) c.args.spot.now.path.now _ l.invariant.told.0 c.args.fields.now l.field-index f (left l.from) l.invariant.told.1
    c.loop-field-test.true c.field-item.is (some_left c.at_end.result (left l.from) c.at_end.ensures.none_left c.if-at_end.false) c.args.items.now l.items l.invariant.told.2 stop end c.value_items.new.items told)

pub fields_items-loop-field-preserved : goal.fields_items-loop-field-preserved
fields_items-loop-field-preserved t c =
    let S = c.args.spot.now.schema.now.decls in
    let p = c.args.from.now in
    let l = c.loop-field in
    let f = c.field-item.result in
    let inside : is_inside l.from ≡ true = ap is_inside l.invariant.on ∙ c.requires.inside in
    let end = left c.value_items.new.from in
    let told = subst (λ x. Tells done (Ok tt) x end l.items c.value_items.new.items)
    (element_here S c.args.spot.now.levels f.ty c.in_ok-below.below (below c.args.spot.now.path.now f.name.0) (is_inside l.from) true (left l.from) (c.in_ok-below.ensures ∙ ap (below c.args.spot.now.path.now) (sym c.as_str.ensures.value)) inside c.requires.some) c.in_ok-value_items.ensures.told in
    record {
      told = field_next (λ u r b. part_items S c.args.spot.now.levels u r true b) c.args.spot.now.path.now _ l.invariant.told.0 c.args.fields.now l.field-index f (left l.from) l.invariant.told.1
          c.loop-field-test.true c.field-item.is (some_left c.at_end.result (left l.from) c.at_end.ensures.none_left c.if-at_end.false) c.args.items.now l.items l.invariant.told.2 end c.value_items.new.items told;
      on = on_and_on p l.from c.value_items.new.from l.invariant.on c.in_ok-value_items.ensures.on;
    }

pub body_items-returns-in-Err-clause-told : goal.body_items-returns-in-Err-clause-told
body_items-returns-in-Err-clause-told t c =
    let S = c.args.spot.now.schema.now.decls in
    let p = c.args.from.now in
    no_body (λ u r b. part_items S c.args.spot.now.levels u r true b) c.args.spot.now.path.now c.args.fields.now (is_inside p) (left p) (left c.enter.new.self) c.in-Err.fault c.stop_at.result c.args.items.now
    c.in-Err.ensures.refused c.stop_at.ensures

pub body_items-returns-in_err-fields_items-clause-told : goal.body_items-returns-in_err-fields_items-clause-told
body_items-returns-in_err-fields_items-clause-told t c =
    let S = c.args.spot.now.schema.now.decls in
    let p = c.args.from.now in
    let q = err_from_is_err_and c.from_residual-in_err-fields_items.result c.from_residual-in_err-fields_items.ensures.1 in
    let inner = c.enter.new.self in
    rw (q.1, q.2) (body_ends (λ u r b. part_items S c.args.spot.now.levels u r true b) c.args.spot.now.path.now c.args.fields.now p inner inner c.in_default.ensures.entered (stays inner) c.in_err-fields_items.field-0.0
    c.args.items.now c.push.new.items c.fields_items.new.items (left c.fields_items.new.from) c.in_ok-push.ensures c.in_err-fields_items.ensures.told)

pub body_items-returns-clause-told : goal.body_items-returns-clause-told
body_items-returns-clause-told t c =
    let S = c.args.spot.now.schema.now.decls in
    let p = c.args.from.now in
    let inner = c.enter.new.self in
    let last = c.fields_items.new.from in
    let after : left (closed last) ≡ left c.leave.new.self = ap left (sym c.leave.ensures) in
    let gone : c.position.result ≡ limit last = c.position.ensures.value ∙ ap (λ (r : Place). r.position) c.leave.ensures in
    let long : c.position.result - c.position-start.result ≡ length (left last) = left_long last c.position.result c.position-start.result gone c.position-start.ensures.value c.position-start.ensures.whole in
    subst (λ rest. Tells done (Ok tt) (body_items (λ u r b. part_items S c.args.spot.now.levels u r true b) c.args.spot.now.path.now c.args.fields.now (is_inside p) (left p)) rest c.args.items.now c.push_some.new.items) after
    (body_told (λ u r b. part_items S c.args.spot.now.levels u r true b) c.args.spot.now.path.now c.args.fields.now p inner last c.in_default.ensures.entered c.in_ok-fields_items.ensures.on
    c.args.items.now c.push.new.items c.fields_items.new.items c.push_some.new.items _ c.in_ok-push.ensures c.in_ok-fields_items.ensures.told long c.in_ok-push_some.ensures)
