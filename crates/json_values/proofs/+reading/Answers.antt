use Rattle.std.proofs.Common.{◌≡◌, ◌+◌, ◌≤◌, to_z, of_z, cond, decimal, drop, is_some, length, take, true, false, inl, inr, refl, List, Some, None, Ok, ◌++◌, ◌∷◌, [], map, sym, subst, ap, ◌∙◌, arith, rules}
use Rattle.std.specs.Prelude.{IfSome}
use Rattle.std.specs.Int.{w64}
use Rattle.std.specs.List.{count_by, range_with_len}
use Rattle.std.proofs.lemmas.List.{length-map, take_all}
use Rattle.std.proofs.lemmas.Grind.{common_steps}
use Rattle.std.proofs.lemmas.Option.{slice_get_read}
use Rattle.serde_json.specs.Data as json
use Rattle.serde_json.specs.Events.{members_len}
use Rattle.serde_json.specs.Find.{get_member}
use Rattle.serde_json.specs.View.{view as json_view, items_view, members_view}
use Rattle.serde_json.proofs.Views.{view-Array}
use Rattle.aidl_schema.specs.Seen.{seen}
use Rattle.aidl_schema.specs.Types.{is_one, parcelable}
use Rattle.aidl_values.specs.View.{items_of, view, views}
use Rattle.json_values.specs.FromJson.{elements_from, fields_from, sequence_from}
use Rattle.json_values.proofs.Parts.{from_json_of-by, from_by-sequence, sequence_from-some, items_more, items_done, fields_more, fields_done}
use Rattle.json_writing.proofs.lemmas.Whole.{few_fields}
use Rattle.json_values.proofs.Names.{name_of_field, fields_apart, few_in}
use Rattle.json_values.proofs.Places.{alternative_missing, alternative_placed, field_lies}
use Rattle.aidl_schema.specs.declared.schema.AidlType.{AidlType}
use Rattle.aidl_schema.specs.declared.schema.Decl.{Decl}
use Rattle.aidl_values.specs.Data.{Data, number, rec, depth_of}
use Rattle.aidl_values.specs.Sound.{initial_in}
use Rattle.aidl_values.specs.declared.value.Fields.TheVariants.{Whole}
use Rattle.aidl_values.proofs.lemmas.Views.{view_of_rec, fields_whole}
use Rattle.json_values.specs.Refusal.{Answer, within}
use Rattle.json_writing.specs.Named.{fields_in}
use Rattle.aidl_schema.specs.Holds.{AreApart}
use Rattle.json_values.proofs.+reading.Goals as goal
use Rattle.json_values.proofs.+reading.Goals.{records::read_behind-then-loop-i-test+else-not-are_done, records::read_behind-else-loop-i-test}
use Rattle.json_values.proofs.Behind.{all_read, begins, one_more}
use Rattle.json_values.proofs.Counted.{all_found, found_more, missing_behind}
use Rattle.json_values.proofs.Missing.{are_of, default_at, shared}
use Rattle.json_values.specs.steps.Defaults.{AreDefaults, HasDefaultAt, datas_of}
use Rattle.json_values.specs.declared.default_rows.Defaults.{Defaults}
use Rattle.json_values.specs.steps.Given.{GivesMember, as_record, filled, given_or, is_found, named_from}
use Rattle.json_values.specs.steps.Levels.{part_from, default_of, chosen_from}
use Rattle.json_values.specs.steps.Plain.{ArePlain, IsPlain}
use Rattle.aidl_values.specs.steps.Levels.{is_level_left}
use Rattle.json_values.specs.steps.Gives.{Fails, Gives}
use Rattle.json_values.specs.steps.Tables.{field_place}

pub reading::read_within-returns-in-Some-clause-gives : goal.reading::read_within-returns-in-Some-clause-gives
reading::read_within-returns-in-Some-clause-gives t c =
    let S = c.args.reader.now in
    let d = c.args.levels in
    let j = json_view c.args.json.now in
    let plain : IsPlain c.args.ty j (number c.in-Some.n) = subst (λ o. IfSome o (λ n. IsPlain c.args.ty j (number n))) c.in-Some.is c.plain_number.ensures in
    let same : to_z w64 (of_z w64 c.in-Some.n) ≡ c.in-Some.n = search rules in
    sym (from_json_of-by S d c.args.ty j) ∙ plain S (is_level_left d) (λ f. default_of S d f) (λ u k. part_from S d u k) ∙ ap (λ n. Ok (number n)) (sym same) ∙ ap Ok (sym c.number_value.ensures)

pub reading::read_within-returns-in-None-clause-gives : goal.reading::read_within-returns-in-None-clause-gives
reading::read_within-returns-in-None-clause-gives t c = subst (Gives view c.read.result) (from_json_of-by c.args.reader.now c.args.levels c.args.ty _) c.read.ensures.gives

pub sequences::read_items-loop-i-preserved : goal.sequences::read_items-loop-i-preserved
sequences::read_items-loop-i-preserved t c =
    let ds = map view c.loop-i.values.items in
    let more : map view c.push.new.self.items ≡ ds ++ view c.in_ok-read_item.field-0 ∷ [] = grind (arith, common_steps) in
    let here = subst (λ (S : List Decl). within (decimal c.loop-i.i) (part_from S c.args.levels c.args.ty (json_view c.index-items-i.result)) ≡ Ok (view c.in_ok-read_item.field-0)) c.loop-i.invariant.same c.in_ok-read_item.ensures.gives in
    record {
      read = rw more (sym (items_more (λ j. part_from c.args.reader.now c.args.levels c.args.ty j) c.args.items.now c.loop-i.i c.index-items-i.result ds (view c.in_ok-read_item.field-0) (omega arith) (search rules) here) ∙ c.loop-i.invariant.read);
      same = c.read_item.ensures.same ∙ c.loop-i.invariant.same;
    }

pub sequences::read_elements-returns-in-Some-clause-gives : goal.sequences::read_elements-returns-in-Some-clause-gives
sequences::read_elements-returns-in-Some-clause-gives t c =
    let plain : ArePlain c.args.ty (items_view c.args.items.now) (view c.in-Some.value) =
    subst (λ o. IfSome o (λ v. ArePlain c.args.ty (items_view c.args.items.now) (view v))) c.in-Some.is c.in_ok-value.ensures in
    plain c.args.reader.now c.args.levels c.requires.left

pub sequences::read_items-returns-clause-gives : goal.sequences::read_items-returns-clause-gives
sequences::read_items-returns-clause-gives t c =
    sym c.loop-i.invariant.read ∙ items_done (λ j. part_from c.args.reader.now c.args.levels c.args.ty j) c.args.items.now c.loop-i.i (map view c.loop-i.values.items) (omega arith)
    ∙ ap (λ vs. Ok (views vs)) (sym c.from_vec.ensures)

pub records::read_fields-loop-field-preserved : goal.records::read_fields-loop-field-preserved
records::read_fields-loop-field-preserved t c =
    let S = c.args.reader.now in
    let d = c.args.levels in
    let fs = c.args.fields.now in
    let ms = members_view c.args.members.now.entries in
    let i = c.loop-field.field-index in
    let f = c.field-item.result in
    let ds = map view c.loop-field.values.items in
    let v = view c.in-Some.value in
    let told = subst (λ (T : List Decl). GivesMember (λ g. default_of T d g) (λ u j. part_from T d u j) ms f (Ok c.in_ok-value.field-0)) c.loop-field.invariant.same c.in_ok-value.ensures.gives in
    let member = subst (λ o. GivesMember (λ g. default_of S d g) (λ u j. part_from S d u j) ms f (Ok o)) c.in-Some.is told in
    let more : map view c.push.new.self.items ≡ ds ++ v ∷ [] = grind (arith, common_steps) in
    record {
      read = rw more (sym (fields_more (λ f. default_of S d f) (λ u j. part_from S d u j) ms fs i f ds v (omega arith) (sym c.field-item.is) member.1) ∙ c.loop-field.invariant.read);
      many = grind (arith, common_steps);
      found = ap (λ n. n + 1) c.loop-field.invariant.found ∙ sym (found_more ms fs i f true (omega arith) (sym c.field-item.is) member.0);
      same = c.read_given.ensures.same ∙ c.loop-field.invariant.same;
    }

pub records::read_fields-returns-clause-gives : goal.records::read_fields-returns-clause-gives
records::read_fields-returns-clause-gives t c =
    let S = c.args.reader.now in
    let d = c.args.levels in
    let fs = c.args.fields.now in
    let ms = members_view c.args.members.now.entries in
    let vs = c.from_vec.result in
    let whole = view_of_rec (Whole vs) ∙ ap (λ ds. rec (items_of ds)) (fields_whole vs) in
    ap as_record (sym c.loop-field.invariant.read ∙ fields_done (λ f. default_of S d f) (λ u j. part_from S d u j) ms fs c.loop-field.field-index (map view c.loop-field.values.items) (omega arith)
    ∙ ap (λ vs. Ok (views vs)) (sym c.from_vec.ensures)) ∙ ap Ok (sym whole)

pub records::read_behind-loop-i-init : goal.records::read_behind-loop-i-init
records::read_behind-loop-i-init t c =
    let S = c.args.reader.now in
    let d = c.args.levels in
    let fs = c.args.fields.now in
    let ms = members_view c.args.members.now.entries in
    let defaults = c.in_ok-defaults.defaults.value in
    let ds = datas_of defaults in
    let are : AreDefaults S fs defaults = are_of S c.args.base fs defaults c.requires.declared c.in_ok-defaults.ensures.row in
    let many : length ds ≡ length fs = ap length are.0 ∙ length-map fs (initial_in S) in
    let vs = c.args.values.items in
    let is : c.len-i.result ≡ length vs = omega (arith, c.len-i.ensures) in
    let given = c.in_ok-given.given in
    let made : (given.places ≡ range_with_len 0 (length vs)) × (given.values.items ≡ vs) = c.in_ok-given.ensures in
    let start = begins vs given ds c.len-i.result (λ k. fields_from (λ f. default_of S d f) (λ u j. part_from S d u j) (drop k fs) (λ key. get_member key ms)) (fields_from (λ f. default_of S d f) (λ u j. part_from S d u j) fs (λ key. get_member key ms))
    made.0 made.1 is (omega (arith, many, c.requires.some)) c.requires.read in
    record {
      read = start.0;
      given = start.1;
      found = ap length made.1 ∙ c.requires.found ∙ ap (λ k. count_by (is_found ms) (take k fs)) (sym is);
      same = c.default_values.ensures.same;
    }

pub records::read_behind-read_field-requires : goal.records::read_behind-read_field-requires
records::read_behind-read_field-requires t c =
    let S = c.args.reader.now in
    let d = c.args.levels in
    let fs = c.args.fields.now in
    let ms = members_view c.args.members.now.entries in
    let defaults = c.in_ok-defaults.defaults.value in
    let ds = datas_of defaults in
    let are : AreDefaults S fs defaults = are_of S c.args.base fs defaults c.requires.declared c.in_ok-defaults.ensures.row in
    let f = c.index-fields-i.result in
    let at = slice_get_read fs (length fs) c.loop-i.i f refl (omega arith) c.index-fields-i.is in (
      search rules,
      (
        c.requires.left,
        (
          c.requires.few,
          subst (λ (T : List Decl). HasDefaultAt T f c.deref-in-loop-i.result.now c.loop-i.i) (sym c.loop-i.invariant.same)
              (subst (λ (x : Defaults). HasDefaultAt S f x c.loop-i.i) (sym c.deref-in-loop-i.ensures) (default_at S fs defaults c.loop-i.i f are at)),
        ),
      ),
    )

pub records::read_behind-loop-i-preserved : goal.records::read_behind-loop-i-preserved
records::read_behind-loop-i-preserved t c =
    let S = c.args.reader.now in
    let d = c.args.levels in
    let fs = c.args.fields.now in
    let ms = members_view c.args.members.now.entries in
    let defaults = c.in_ok-defaults.defaults.value in
    let ds = datas_of defaults in
    let are : AreDefaults S fs defaults = are_of S c.args.base fs defaults c.requires.declared c.in_ok-defaults.ensures.row in
    let many : length ds ≡ length fs = ap length are.0 ∙ length-map fs (initial_in S) in
    let i = c.loop-i.i in
    let f = c.index-fields-i.result in
    let at = slice_get_read fs (length fs) i f refl (omega arith) c.index-fields-i.is in
    let here = default_at S fs defaults i f are at in
    let value = c.in_ok-value.value in
    let told = subst (λ (T : List Decl). named_from (λ g. default_of T d g) (λ u j. part_from T d u j) ms f ≡ Ok (given_or value (initial_in T f))) c.loop-i.invariant.same c.in_ok-value.ensures.gives in
    record {
      read = one_more (λ f. default_of S d f) (λ u j. part_from S d u j) ms fs i f c.loop-i.given c.put.new.self ds (initial_in S f) (given_or value (initial_in S f)) (fields_from (λ f. default_of S d f) (λ u j. part_from S d u j) fs (λ key. get_member key ms))
          (omega arith) (sym c.index-fields-i.is) here.0 (omega (arith, many)) told (λ n. c.in_ok-put.ensures.filled (take i ds) (initial_in S f) n) c.loop-i.invariant.read;
      given = c.in_ok-put.ensures.given;
      found = c.in_ok-put.ensures.count ∙ ap (λ n. n + cond (is_some value) 1 0) c.loop-i.invariant.found ∙ sym (found_more ms fs i f (is_some value) (omega arith) (sym c.index-fields-i.is) (sym c.in_ok-value.ensures.found));
      same = c.read_field.ensures.same ∙ c.loop-i.invariant.same;
    }

pub records::read_behind-returns-clause-gives : goal.records::read_behind-returns-clause-gives
records::read_behind-returns-clause-gives t c =
    let S = c.args.reader.now in
    let d = c.args.levels in
    let fs = c.args.fields.now in
    let ms = members_view c.args.members.now.entries in
    let defaults = c.in_ok-defaults.defaults.value in
    let ds = datas_of defaults in
    let are : AreDefaults S fs defaults = are_of S c.args.base fs defaults c.requires.declared c.in_ok-defaults.ensures.row in
    let many : length ds ≡ length fs = ap length are.0 ∙ length-map fs (initial_in S) in
    let i = c.loop-i.i in
    let whole = fields_from (λ f. default_of S d f) (λ u j. part_from S d u j) fs (λ key. get_member key ms) in
    let seen_over : view c.in_ok-into_record.field-0 ≡ rec (items_of (filled c.loop-i.given (datas_of c.deref-2.result.now))) = c.in_ok-into_record.ensures in
    let all : as_record whole ≡ Ok (rec (items_of (filled c.loop-i.given ds))) = elim c.loop-i-test.branch [
      | records::read_behind-then-loop-i-test+else-not-are_done w ↦
          let done = w.are_done.ensures w.if-not-are_done.false in
          let found : members_len ms ≤ count_by (is_found ms) (take i fs) = omega (arith, done.0, c.loop-i.invariant.found) in
          shared S d (λ u j. part_from S d u j) ms fs i c.loop-i.given ds whole c.loop-i.invariant.given (omega arith) are.0
          (missing_behind fs c.requires.apart ms i found) (subst (λ (x : Defaults). depth_of (rec (items_of (datas_of x))) ≤ d) w.deref.ensures done.1) c.loop-i.invariant.read
      | records::read_behind-else-loop-i-test w ↦
          all_read (λ f. default_of S d f) (λ u j. part_from S d u j) ms fs i c.loop-i.given ds whole w.loop-i-test.false many c.loop-i.invariant.read
    ] in
    all ∙ ap Ok (sym (seen_over ∙ ap (λ (x : Defaults). rec (items_of (filled c.loop-i.given (datas_of x)))) c.deref-2.ensures))

pub records::read_behind-returns-clause-found : goal.records::read_behind-returns-clause-found
records::read_behind-returns-clause-found t c =
    let fs = c.args.fields.now in
    let ms = members_view c.args.members.now.entries in
    let i = c.loop-i.i in
    let all : count_by (is_found ms) (take i fs) ≡ count_by (is_found ms) fs = elim c.loop-i-test.branch [
      | records::read_behind-then-loop-i-test+else-not-are_done w ↦
          let done = w.are_done.ensures w.if-not-are_done.false in
          all_found fs c.requires.apart ms i (omega (arith, done.0, c.loop-i.invariant.found))
      | records::read_behind-else-loop-i-test w ↦ ap (count_by (is_found ms)) (take_all i fs w.loop-i-test.false)
    ] in
    c.len-found.ensures ∙ c.loop-i.invariant.found ∙ all

pub reading::read_one-read_record-requires : goal.reading::read_one-read_record-requires
reading::read_one-read_record-requires t c =
    let form = sym c.form-form.ensures ∙ ap seen c.in-Parcelable.is in
    let apart = subst (λ f. AreApart name_of_field (fields_in f)) form (fields_apart c.args.reader.now c.law_schema.ensures.valid c.args.base) in
    let few = few_in c.args.reader.now c.law_schema.ensures.sound c.args.base (parcelable c.in-Parcelable.fields.now) form in
    (search rules, (c.requires.few, (apart, (few, sym (ap fields_in form)))))

pub reading::read_one-read_union-requires : goal.reading::read_one-read_union-requires
reading::read_one-read_union-requires t c =
    let form = sym c.form-form.ensures ∙ ap seen c.in-Union.is in
    let few = few_fields c.args.reader.now c.law_schema.ensures.sound c.args.base c.in-Union.fields.now form in
    (search rules, (c.requires.few, (few, sym (ap fields_in form))))

pub reading::read-returns-in-Array-clause-gives : goal.reading::read-returns-in-Array-clause-gives
reading::read-returns-in-Array-clause-gives t c =
    let S = c.args.reader.now in
    let d = c.args.levels in
    let j = json_view c.args.json.now in
    subst (Gives view c.read_sequence.result)
    (ap (λ u. sequence_from (is_level_left d) (λ k. part_from S d u k) j) c.element-element.ensures
    ∙ from_by-sequence S (is_level_left d) (λ f. default_of S d f) (λ u k. part_from S d u k) c.args.ty j (sym c.is_absent.ensures ∙ c.if-is_absent.false) (elim c.in-Array.is as (λ _. is_one c.args.ty.shape ≡ false) [ inl e ↦ rw e refl | inr e ↦ rw e refl ]))
    c.read_sequence.ensures.gives

pub sequences::read_sequence-returns-clause-gives : goal.sequences::read_sequence-returns-clause-gives
sequences::read_sequence-returns-clause-gives t c =
    let d = c.args.levels in
    let read = λ (j : json.Data). part_from c.args.reader.now d c.args.ty j in
    let items = c.in-Array.items in
    subst (Gives view c.read_elements.result)
    (ap (λ js. elements_from read (items_view js)) c.as_slice.ensures.value
    ∙ sequence_from-some d read (items_view items.items) (omega arith)
    ∙ ap (λ j. sequence_from (is_level_left d) read j) (sym (ap json_view c.in-Array.is ∙ view-Array items)))
    c.read_elements.ensures.gives

pub unions::read_alternative-returns-in-Some-clause-gives : goal.unions::read_alternative-returns-in-Some-clause-gives
unions::read_alternative-returns-in-Some-clause-gives t c =
    let d = c.args.levels in
    let read : AidlType → json.Data → Answer Data = λ u k. part_from c.args.reader.now d u k in
    let j = json_view c.args.json.now in
    let key = c.args.key.now in
    let fs = c.args.fields.now in
    let i = c.in-Some.place in
    let f = c.index-fields-place.result in
    let placed : Some i ≡ field_place key fs = sym c.in-Some.is ∙ c.in_ok-place.ensures.place in
    let told = subst (λ (T : List Decl). Gives view c.read_chosen.result (chosen_from (λ u k. part_from T d u k) i f key j)) c.field_place.ensures.same c.read_chosen.ensures.gives in
    subst (Gives view c.read_chosen.result) (alternative_placed key read j fs i f placed (slice_get_read fs (length fs) i f refl (field_lies key fs i placed) c.index-fields-place.is)) told

pub unions::read_alternative-returns-in-None-clause-gives : goal.unions::read_alternative-returns-in-None-clause-gives
unions::read_alternative-returns-in-None-clause-gives t c =
    let read : AidlType → json.Data → Answer Data = λ u k. part_from c.args.reader.now c.args.levels u k in
    let none : None ≡ field_place c.args.key.now c.args.fields.now = sym c.in-None.is ∙ c.in_ok-place.ensures.place in
    subst (λ (a : Answer Data). Fails c.below_key.result a) (alternative_missing c.args.key.now read (json_view c.args.json.now) c.args.fields.now none) (search rules)
