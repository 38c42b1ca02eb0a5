use Rattle.std.proofs.Common.{◌≡◌, ◌++◌, ◌∷◌, [], ◌+◌, ◌-◌, ℕ, List, Ok, true, refl, sym, ap, ◌∙◌, subst, rules, arith, length, map, drop}
use Rattle.std.proofs.lemmas.Result.{err_from_is_err_and}
use Rattle.std.proofs.lemmas.List.{length_push, map_push}
use Rattle.marshal_plans.specs.declared.plans.PlanItem.TheVariants.{Word, Long}
use Rattle.marshal_plans.specs.declared.plans.WordKind.TheVariants.{Truth, Char, Int}
use Rattle.aidl_values.specs.Data.{Data, rec}
use Rattle.aidl_values.specs.View.{items_of, view, views}
use Rattle.marshal_plans.specs.declared.plans.PlanField.{PlanField}
use Rattle.marshal_plans.specs.Standing.{entries_of}
use Rattle.marshal_plans.specs.declared.plans.Plans.{Plans}
use Rattle.parcel_words.specs.Place.{Place, left, is_inside, closed, MovesOn}
use Rattle.parcel_words.specs.Taken.{TakesIfMemory, RefusesIfMemory}
use Rattle.parcel_words.proofs.lemmas.Moves.{on_and_on}
use Rattle.parcel_words.proofs.lemmas.Faults.{refused_if_memory}
use Rattle.parcel_words.proofs.lemmas.Records.{stays, leaves}
use Rattle.parcel_read.proofs.Loop.{goes_on, ends, is_done, field_ends, field_on, field_there, fields_done, fields_left}
use Rattle.parcel_read.proofs.SideBySide.{packed}
use Rattle.parcel_read.proofs.Records.{body_is, record_is, record_fails, no_record, whole_seen, first_seen, first_fit}
use Rattle.parcel_read.proofs.tree.+read.Goals as goal
use Rattle.parcel_read.specs.steps.PlanDefault.{initial_by_plan}
use Rattle.wire_model.specs.ReadOf.{fields_at}
use Rattle.parcel_read.specs.steps.PlanRead.{plan_read, plan_parts}
use Rattle.parcel_read.specs.steps.Rows.{as_record}
use Rattle.parcel_read.proofs.Levels.{plan_read-item, plan_read-none, plan_parts-below}

pub value_from-returns-in-Some-clause-taken : goal.value_from-returns-in-Some-clause-taken
value_from-returns-in-Some-clause-taken t c =
    let p = c.args.from.now in
    subst (λ r. TakesIfMemory view c.item_from.result r (left c.item_from.new.from))
    (plan_read-item p.profile c.args.plans.now c.args.levels c.args.id (is_inside p) (left p) c.in-Some.item (sym c.item.ensures ∙ c.in-Some.is)) c.item_from.ensures.taken

pub value_from-returns-in-None-clause-taken : goal.value_from-returns-in-None-clause-taken
value_from-returns-in-None-clause-taken t c =
    let p = c.args.from.now in
    plan_read-none p.profile c.args.plans.now c.args.levels c.args.id (is_inside p) (left p) (sym c.item.ensures ∙ c.in-None.is)

pub row_from-returns-in-Some-Word-Truth-clause-taken : goal.row_from-returns-in-Some-Word-Truth-clause-taken
row_from-returns-in-Some-Word-Truth-clause-taken t c =
    let p = c.args.from.now in
    packed p.profile c.args.plans.now c.args.levels c.args.element (is_inside p) c.requires.some (Word Truth) (sym c.item.ensures ∙ search rules) c.args.count (left p) (left c.row_of.new.from) c.row_of.result c.row_of.ensures.taken

pub row_from-returns-in-Some-Word-Char-clause-taken : goal.row_from-returns-in-Some-Word-Char-clause-taken
row_from-returns-in-Some-Word-Char-clause-taken t c =
    let p = c.args.from.now in
    packed p.profile c.args.plans.now c.args.levels c.args.element (is_inside p) c.requires.some (Word Char) (sym c.item.ensures ∙ search rules) c.args.count (left p) (left c.row_of-in-Some-Word-Char.new.from) c.row_of-in-Some-Word-Char.result c.row_of-in-Some-Word-Char.ensures.taken

pub row_from-returns-in-Some-Word-Int-clause-taken : goal.row_from-returns-in-Some-Word-Int-clause-taken
row_from-returns-in-Some-Word-Int-clause-taken t c =
    let p = c.args.from.now in
    packed p.profile c.args.plans.now c.args.levels c.args.element (is_inside p) c.requires.some (Word Int) (sym c.item.ensures ∙ search rules) c.args.count (left p) (left c.row_of-in-Some-Word-Int.new.from) c.row_of-in-Some-Word-Int.result c.row_of-in-Some-Word-Int.ensures.taken

pub row_from-returns-in-Some-Long-clause-taken : goal.row_from-returns-in-Some-Long-clause-taken
row_from-returns-in-Some-Long-clause-taken t c =
    let p = c.args.from.now in
    packed p.profile c.args.plans.now c.args.levels c.args.element (is_inside p) c.requires.some Long (sym c.item.ensures ∙ search rules) c.args.count (left p) (left c.row_of-in-Some-Long.new.from) c.row_of-in-Some-Long.result c.row_of-in-Some-Long.ensures.taken

pub items_from-returns-in_err-value-clause-taken : goal.items_from-returns-in_err-value-clause-taken
items_from-returns-in_err-value-clause-taken t c =
    let P = c.args.plans.now in
    let p = c.args.from.now in
    let inside : is_inside c.loop.from ≡ is_inside p = ap is_inside c.loop.invariant.on in
    let q = err_from_is_err_and c.from_residual.result c.from_residual.ensures.1 in
    let e = c.in_err-value.field-0.0 in
    let here = plan_parts-below p.profile P c.args.levels c.args.element (is_inside p) (left c.loop.from) c.requires.some in
    let profile : c.loop.from.profile ≡ p.profile = ap (λ (r : Place). r.profile) c.loop.invariant.on in
    let planned = subst (λ (Q : Plans). RefusesIfMemory e (plan_read c.loop.from.profile Q (c.args.levels - 1) c.args.element (is_inside c.loop.from) (left c.loop.from))) c.loop.invariant.same c.in_err-value.ensures.taken in
    let as_read = subst (λ q. RefusesIfMemory e (plan_read q P (c.args.levels - 1) c.args.element (is_inside c.loop.from) (left c.loop.from))) profile planned in
    let failed = subst (λ b. RefusesIfMemory e (plan_read p.profile P (c.args.levels - 1) c.args.element b (left c.loop.from))) inside as_read in
    rw (q.1, q.2) (ends (λ b. plan_parts p.profile P c.args.levels c.args.element (is_inside p) b) (map view c.loop.values.items) c.args.count c.loop.counter (left c.loop.from) _ c.loop.invariant.read e c.loop-test.true (subst (RefusesIfMemory e) (sym here) failed))

pub items_from-loop-preserved : goal.items_from-loop-preserved
items_from-loop-preserved t c =
    let P = c.args.plans.now in
    let p = c.args.from.now in
    let inside : is_inside c.loop.from ≡ is_inside p = ap is_inside c.loop.invariant.on in
    let v = c.in_ok-value.value in
    let here = plan_parts-below p.profile P c.args.levels c.args.element (is_inside p) (left c.loop.from) c.requires.some in
    let profile : c.loop.from.profile ≡ p.profile = ap (λ (r : Place). r.profile) c.loop.invariant.on in
    let planned = subst (λ (Q : Plans). plan_read c.loop.from.profile Q (c.args.levels - 1) c.args.element (is_inside c.loop.from) (left c.loop.from) ≡ Ok (view v, left c.value_from.new.from)) c.loop.invariant.same c.in_ok-value.ensures.taken in
    let as_read = subst (λ q. plan_read q P (c.args.levels - 1) c.args.element (is_inside c.loop.from) (left c.loop.from) ≡ Ok (view v, left c.value_from.new.from)) profile planned in
    let found = subst (λ b. plan_read p.profile P (c.args.levels - 1) c.args.element b (left c.loop.from) ≡ Ok (view v, left c.value_from.new.from)) inside as_read in
    let more : map view c.push.new.self.items ≡ map view c.loop.values.items ++ view v ∷ [] = rw c.in_ok-push.ensures.items (map_push _ c.loop.values.items v) in
    rw more (record {
      read = goes_on (λ b. plan_parts p.profile P c.args.levels c.args.element (is_inside p) b) (map view c.loop.values.items) c.args.count c.loop.counter (left c.loop.from) _ c.loop.invariant.read (view v) (left c.value_from.new.from) c.loop-test.true (here ∙ found);
      on = on_and_on p c.loop.from c.value_from.new.from c.loop.invariant.on c.in_ok-value.ensures.on;
      same = c.value_from.ensures.same ∙ c.loop.invariant.same;
    })

pub items_from-returns-clause-taken : goal.items_from-returns-clause-taken
items_from-returns-clause-taken t c =
    is_done (λ b. plan_parts c.args.from.now.profile c.args.plans.now c.args.levels c.args.element (is_inside c.args.from.now) b) (map view c.loop.values.items) c.args.count c.loop.counter (left c.loop.from) _ c.loop.invariant.read c.loop-test.false
    ∙ ap (λ vs. Ok (views vs, left c.loop.from)) (sym c.from_vec.ensures)

pub fields_from-returns-in_err-value-clause-taken : goal.fields_from-returns-in_err-value-clause-taken
fields_from-returns-in_err-value-clause-taken t c =
    let P = c.args.plans.now in
    let p = c.args.from.now in
    let gs = c.entries-field-items.result.now in
    let g = c.field-item.result in
    let here = c.loop-field.from in
    let q = err_from_is_err_and c.from_residual-in_err-value.result c.from_residual-in_err-value.ensures.1 in
    let e = c.in_err-value.field-0.0 in
    let profile : here.profile ≡ p.profile = ap (λ (r : Place). r.profile) c.loop-field.invariant.on in
    let inside : is_inside here ≡ true = ap is_inside c.loop-field.invariant.on ∙ c.requires.inside in
    let planned = subst (λ (Q : Plans). RefusesIfMemory e (plan_read here.profile Q (c.args.levels - 1) g.item (is_inside here) (left here))) c.loop-field.invariant.same c.in_err-value.ensures.taken in
    let by_profile = subst (λ q. RefusesIfMemory e (plan_read q P (c.args.levels - 1) g.item (is_inside here) (left here))) profile planned in
    let part = subst (λ b. RefusesIfMemory e (plan_read p.profile P (c.args.levels - 1) g.item b (left here))) inside by_profile in
    let as_field = field_there (λ g. initial_by_plan P g) (λ g b. plan_parts p.profile P c.args.levels g.item true b) g (left here) c.if-at_end.ensures.none_left.1
    ∙ plan_parts-below p.profile P c.args.levels g.item true (left here) c.requires.some in
    let failed = field_ends (λ g. initial_by_plan P g) (λ g b. plan_parts p.profile P c.args.levels g.item true b) (map view c.loop-field.values.items) gs c.loop-field.field-index (left here) _ c.loop-field.invariant.read
    g e c.loop-field-test.true c.field-item.is (subst (RefusesIfMemory e) (sym as_field) part) in
    rw (q.1, q.2) (subst (λ (fs : List PlanField). RefusesIfMemory e (fields_at (λ g. initial_by_plan P g) (λ g b. plan_parts p.profile P c.args.levels g.item true b) fs (left p))) c.entries-field-items.ensures failed)

pub fields_from-loop-field-preserved : goal.fields_from-loop-field-preserved
fields_from-loop-field-preserved t c =
    let P = c.args.plans.now in
    let p = c.args.from.now in
    let g = c.field-item.result in
    let v = c.in_ok-value.value in
    let here = c.loop-field.from in
    let next = c.value_from.new.from in
    let profile : here.profile ≡ p.profile = ap (λ (r : Place). r.profile) c.loop-field.invariant.on in
    let inside : is_inside here ≡ true = ap is_inside c.loop-field.invariant.on ∙ c.requires.inside in
    let planned = subst (λ (Q : Plans). plan_read here.profile Q (c.args.levels - 1) g.item (is_inside here) (left here) ≡ Ok (view v, left next)) c.loop-field.invariant.same c.in_ok-value.ensures.taken in
    let by_profile = subst (λ q. plan_read q P (c.args.levels - 1) g.item (is_inside here) (left here) ≡ Ok (view v, left next)) profile planned in
    let part = subst (λ b. plan_read p.profile P (c.args.levels - 1) g.item b (left here) ≡ Ok (view v, left next)) inside by_profile in
    let as_field = field_there (λ g. initial_by_plan P g) (λ g b. plan_parts p.profile P c.args.levels g.item true b) g (left here) c.if-at_end.ensures.none_left.1
    ∙ plan_parts-below p.profile P c.args.levels g.item true (left here) c.requires.some in
    let items = c.in_ok-push.ensures.items in
    let more : map view c.push.new.self.items ≡ map view c.loop-field.values.items ++ view v ∷ [] = rw items (map_push _ c.loop-field.values.items v) in
    let many : length c.push.new.self.items ≡ c.loop-field.field-index + 1 = ap length items ∙ length_push c.loop-field.values.items v ∙ ap (λ n. n + 1) c.loop-field.invariant.many in
    record {
      read = rw more (field_on (λ g. initial_by_plan P g) (λ g b. plan_parts p.profile P c.args.levels g.item true b) (map view c.loop-field.values.items) c.entries-field-items.result.now c.loop-field.field-index (left here) _
          c.loop-field.invariant.read g (view v) (left next) c.loop-field-test.true c.field-item.is (as_field ∙ part));
      many = many;
      on = on_and_on p here next c.loop-field.invariant.on c.in_ok-value.ensures.on;
      same = c.value_from.ensures.same ∙ c.loop-field.invariant.same;
    }

pub fields_from-first_fields-requires : goal.fields_from-first_fields-requires
fields_from-first_fields-requires t c =
    let P = c.args.plans.now in
    let made = subst (λ (Q : Plans). map view c.in_ok-row.row.value ≡ map (λ g. initial_by_plan Q g) (entries_of Q.fields c.args.span.first c.args.span.count)) c.loop-field.invariant.same c.in_ok-row.ensures.row in
    let many : length c.from_vec.result ≡ c.loop-field.field-index = ap length c.from_vec.ensures ∙ c.loop-field.invariant.many in
    first_fit (λ g. initial_by_plan P g) c.entries-field-items.result.now c.from_vec.result c.in_ok-row.row.value c.loop-field.field-index many
    (made ∙ ap (λ fs. map (λ g. initial_by_plan P g) fs) (sym c.entries-field-items.ensures)) (omega (arith, c.loop-field-test.true))

pub fields_from-returns-then-at_end-clause-taken : goal.fields_from-returns-then-at_end-clause-taken
fields_from-returns-then-at_end-clause-taken t c =
    let P = c.args.plans.now in
    let p = c.args.from.now in
    let gs = c.entries-field-items.result.now in
    let i = c.loop-field.field-index in
    let vs = c.from_vec.result in
    let many : length vs ≡ i = ap length c.from_vec.ensures ∙ c.loop-field.invariant.many in
    let row = c.in_ok-row.row in
    let made = subst (λ (Q : Plans). map view row.value ≡ map (λ g. initial_by_plan Q g) (entries_of Q.fields c.args.span.first c.args.span.count)) c.loop-field.invariant.same c.in_ok-row.ensures.row in
    let short = c.in_ok-record.ensures ∙ ap (λ ds. rec (items_of ds)) (first_seen (λ g. initial_by_plan P g) gs vs row.value i many
    (made ∙ ap (λ fs. map (λ g. initial_by_plan P g) fs) (sym c.entries-field-items.ensures)))
    ∙ ap (λ xs. rec (items_of (map view xs ++ map (λ g. initial_by_plan P g) (drop i gs)))) c.from_vec.ensures in
    let read = fields_left (λ g. initial_by_plan P g) (λ g b. plan_parts p.profile P c.args.levels g.item true b) (map view c.loop-field.values.items) gs i (left c.loop-field.from) _ c.loop-field.invariant.read (c.if-at_end.ensures.none_left.0 refl) in
    ap (λ (fs : List PlanField). as_record (fields_at (λ g. initial_by_plan P g) (λ g b. plan_parts p.profile P c.args.levels g.item true b) fs (left p))) (sym c.entries-field-items.ensures)
    ∙ ap as_record read ∙ ap (λ (d : Data). Ok d) (sym short)

pub fields_from-returns-clause-taken : goal.fields_from-returns-clause-taken
fields_from-returns-clause-taken t c =
    let P = c.args.plans.now in
    let p = c.args.from.now in
    let read = fields_done (λ g. initial_by_plan P g) (λ g b. plan_parts p.profile P c.args.levels g.item true b) (map view c.loop-field.values.items) c.entries-field-items.result.now c.loop-field.field-index (left c.loop-field.from) _
    c.loop-field.invariant.read c.loop-field-test.false in
    ap (λ (fs : List PlanField). as_record (fields_at (λ g. initial_by_plan P g) (λ g b. plan_parts p.profile P c.args.levels g.item true b) fs (left p))) (sym c.entries-field-items.ensures)
    ∙ ap as_record read ∙ ap (λ vs. Ok (rec (views vs))) (sym c.from_vec-2.ensures) ∙ ap (λ (d : Data). Ok d) (sym (whole_seen c.from_vec-2.result))

pub body_from-returns-in_err-enter-clause-taken : goal.body_from-returns-in_err-enter-clause-taken
body_from-returns-in_err-enter-clause-taken t c =
    let P = c.args.plans.now in
    let p = c.args.from.now in
    let fs = entries_of P.fields c.args.span.first c.args.span.count in
    let q = err_from_is_err_and c.from_residual.result c.from_residual.ensures.1 in
    rw (q.1, q.2) (no_record (λ g. initial_by_plan P g) (λ g b. plan_parts p.profile P c.args.levels g.item true b) fs (is_inside p) (left p) c.in_err-enter.field-0.0 (refused_if_memory c.in_err-enter.field-0.0 _ c.in_err-enter.ensures.refused))

pub body_from-returns-in_err-record-clause-taken : goal.body_from-returns-in_err-record-clause-taken
body_from-returns-in_err-record-clause-taken t c =
    let P = c.args.plans.now in
    let p = c.args.from.now in
    let fs = entries_of P.fields c.args.span.first c.args.span.count in
    let q = err_from_is_err_and c.from_residual-in_err-record.result c.from_residual-in_err-record.ensures.1 in
    let inner = c.enter.new.self in
    let on : MovesOn inner inner = stays inner in
    let profile : inner.profile ≡ p.profile = ap (λ (r : Place). r.profile) c.in_ok-enter.ensures.entered.2 in
    let e = c.in_err-record.field-0.0 in
    let failed = subst (λ q. RefusesIfMemory e (fields_at (λ g. initial_by_plan P g) (λ g b. plan_parts q P c.args.levels g.item true b) fs (left inner))) profile c.in_err-record.ensures.taken in
    rw (q.1, q.2) (record_fails (λ g. initial_by_plan P g) (λ g b. plan_parts p.profile P c.args.levels g.item true b) fs (is_inside p) (left p) (left inner) _ e (body_is p inner inner c.in_ok-enter.ensures.entered on) failed)

pub body_from-returns-clause-taken : goal.body_from-returns-clause-taken
body_from-returns-clause-taken t c =
    let P = c.args.plans.now in
    let p = c.args.from.now in
    let fs = entries_of P.fields c.args.span.first c.args.span.count in
    let inner = c.enter.new.self in
    let last = c.fields_from.new.from in
    let d = view c.in_ok-record.record in
    let after : left c.leave.new.self ≡ left (closed last) = ap left c.leave.ensures in
    let profile : inner.profile ≡ p.profile = ap (λ (r : Place). r.profile) c.in_ok-enter.ensures.entered.2 in
    let read = subst (λ q. as_record (fields_at (λ g. initial_by_plan P g) (λ g b. plan_parts q P c.args.levels g.item true b) fs (left inner)) ≡ Ok d) profile c.in_ok-record.ensures.taken in
    record_is (λ g. initial_by_plan P g) (λ g b. plan_parts p.profile P c.args.levels g.item true b) fs (is_inside p) (left p) (left inner) _ d (body_is p inner last c.in_ok-enter.ensures.entered c.in_ok-record.ensures.on) read
    ∙ ap (λ (b : List ℕ). Ok (d, b)) (sym after)

pub body_from-returns-clause-on : goal.body_from-returns-clause-on
body_from-returns-clause-on t c =
    subst (MovesOn c.args.from.now) (sym c.leave.ensures) (leaves c.args.from.now c.enter.new.self c.fields_from.new.from c.in_ok-enter.ensures.entered c.in_ok-record.ensures.on)
