-- What one schema spells, another reads as its view; where there is no view, it stops, whatever follows.
use Rattle.std.proofs.Common.{◌≡◌, ℕ, zero, suc, ◌+◌, ◌-◌, ◌%◌, ◌^◌, ◌≤◌, ◌<◌, ℤ, pos, Bool, true, false, cond, List, [], ◌++◌, ◌&&◌, length, take, Some, None, Option, option_map, slice_get, inl, inr, refl, sym, ap, ◌∙◌, subst, arith, length-append}
use Rattle.std.proofs.lemmas.Option.{slice_get_within}
use Rattle.aidl_base.specs.declared.profile.Profile.{Profile}
use Rattle.aidl_base.specs.Words.{word, pad, block}
use Rattle.aidl_base.proofs.lemmas.Lists.{take_front}
use Rattle.aidl_base.proofs.lemmas.Profiles.{padded}
use Rattle.aidl_base.proofs.lemmas.Tests.{and_false}
use Rattle.aidl_base.proofs.lemmas.Values.{truth_word}
use Rattle.aidl_schema.specs.Constants.{in_range}
use Rattle.aidl_schema.specs.declared.schema.Decl.{Decl}
use Rattle.aidl_schema.specs.declared.schema.Field.{Field}
use Rattle.aidl_schema.specs.declared.schema.AidlType.{AidlType}
use Rattle.aidl_schema.specs.Same.{same}
use Rattle.aidl_schema.specs.Types.{Form, form_of, is_one, is_raw, elem, type_of_field}
use Rattle.aidl_schema.specs.Types as form
use Rattle.aidl_values.specs.Data.{Data, null, truth, number, text, seq, rec, alt, Items, none, item, count, depth_of, greatest}
use Rattle.aidl_values.specs.HasType.{HasType, HaveType}
use Rattle.wire_model.specs.Spell.{spell, spell_items, spell_fields, raw_bytes, body, parcelable_fields, union_fields}
use Rattle.wire_model.specs.Status.{bad_value}
use Rattle.wire_model.specs.Reads.{Reads}
use Rattle.wire_model.specs.Stop.{Stop, SequenceStop, RecordStop, UnionStop, TagStop, Begins, HasSize, first_word, fields_bytes}
use Rattle.wire_model.specs.View.{◌>>=◌, agree, when, field_named, view_of, view_items, item_first}
use Rattle.wire_model.specs.steps.Meets.{FormsMeet, Meets}
use Rattle.wire_model.proofs.Forms.{raw_form}
use Rattle.wire_model.proofs.lemmas.spelled.Reads.{number_spelled, units_small, items_small}
use Rattle.wire_model.proofs.lemmas.spelled.Sizes.{spell_fields_whole}
use Rattle.wire_model.proofs.told.All.{reads_type}
use Rattle.wire_model.proofs.told.Words.{begins}
use Rattle.wire_model.proofs.viewed.Alike.{number_form, nullable_is, one_is, raw_is, null_is, elem_is}
use Rattle.wire_model.proofs.viewed.Parts.{ReadsOrStops, read_types, ElementsOutcome, FieldsOutcome, Lawful, elements, fields, seen_fields, Tagged, tagged}

-- a word of a number in front of bytes
starts : (n : ℕ) (rest : List ℕ) → n < 2 ^ 31 → Begins (pos n) (word (pos n) ++ rest)
starts n rest lt = begins (word (pos n) ++ rest) rest n lt refl

module _ (p : Profile) (B : List Decl) (d : ℕ) (u : AidlType) where
  -- a record from its fields
  record_of : (gs : List Field) (inner : List ℕ) (o : Option Items) → is_one u.shape ≡ true → form_of B u.base ≡ form.parcelable gs → length inner ≤ 1048576 → length inner % 4 ≡ 0
      → FieldsOutcome p B d gs inner o → ReadsOrStops p B (suc d) u (word (pos 1) ++ body inner) (option_map rec o)
  unfolding Stop
  record_of gs inner (Some ws) one is small whole h = ((one, gs, is, h.1), gs, is, word (pos 1), body inner, refl, truth_word p true, (inner, refl, whole, omega arith, h.0))
  record_of gs inner None one is small whole h = λ c inside.
      let z = 4 + length inner in
      let size = word (pos z) ++ (inner ++ c) in
      let cut : z - 4 ≡ length inner = omega arith in
      let bytes : fields_bytes z size ≡ inner = ap (λ n. take n (inner ++ c)) cut ∙ take_front inner c (length inner) refl in
      let has : HasSize z size = (starts z (inner ++ c) (omega arith), omega arith, omega arith) in
      let within : z ≤ length size = omega (arith, length-append (word (pos z)) (inner ++ c), length-append inner c) in
      let stop : RecordStop p true u.nullable gs (λ u front v. Reads p B d u front v) (λ u rest j s. Stop p B d u rest j s) (word (pos 1) ++ size) inside bad_value =
      RecordStop.at_fields (truth_word p true) refl z has within (subst (λ b. FieldsOutcome p B d gs b None) (sym bytes) h) in
      rw (one, is) stop

  -- a value of a tag that the receiver knows
  known : (gs : List Field) (k : ℕ) (g : Field) (inner : List ℕ) (o : Option Data) → is_one u.shape ≡ true → form_of B u.base ≡ form.union gs → slice_get gs k ≡ Some g → k < 2 ^ 31
      → ReadsOrStops p B d g.ty inner o → ReadsOrStops p B (suc d) u (word (pos 1) ++ (word (pos k) ++ inner)) (option_map (alt k) o)
  unfolding Stop
  known gs k g inner (Some w) one is at lt h = ((one, gs, is, g, at, reads_type p B d g.ty inner w h), gs, is, g, at, word (pos 1), inner, refl, truth_word p true, h)
  known gs k g inner None one is at lt h = λ c inside.
      let tag = word (pos k) ++ (inner ++ c) in
      let stop : UnionStop p true u.nullable gs (λ u rest j s. Stop p B d u rest j s) (word (pos 1) ++ tag) inside bad_value =
      UnionStop.at_field (truth_word p true) refl k (starts k (inner ++ c) lt) g at (h c inside) in
      rw (one, is) stop

  -- a tag that the receiver doesn't know
  unknown : (gs : List Field) (k : ℕ) (inner : List ℕ) → is_one u.shape ≡ true → form_of B u.base ≡ form.union gs → length gs ≤ k → k < 2 ^ 31
      → ReadsOrStops p B (suc d) u (word (pos 1) ++ (word (pos k) ++ inner)) None
  unfolding Stop
  unknown gs k inner one is past lt = λ c inside.
      let tag = word (pos k) ++ (inner ++ c) in
      let first = starts k (inner ++ c) lt in
      let none_there : (j : ℕ) → first_word tag ≡ pos j → length gs ≤ j = λ j e. let same_tag : ◌≡◌ {A = ℤ} (pos k) (pos j) = sym first.1 ∙ e in let is_k : k ≡ j = cc in omega arith in
      let stop : UnionStop p true u.nullable gs (λ u rest j s. Stop p B d u rest j s) (word (pos 1) ++ tag) inside bad_value =
      UnionStop.at_tag (truth_word p true) refl (TagStop.no_tag first.0 none_there) in
      rw (one, is) stop

  -- a sequence from its elements
  sequence_of : (n : ℕ) (inner : List ℕ) (o : Option Items) → is_one u.shape ≡ false → is_raw B u ≡ false → n < 2 ^ 31
      → ElementsOutcome p B d (elem B u) n inner o → ReadsOrStops p B (suc d) u (word (pos n) ++ inner) (option_map seq o)
  unfolding Stop
  sequence_of n inner (Some ws) many apart lt h =
      ((many, read_types p B d (elem B u) ws inner h.1), subst (λ m. m < 2 ^ 31) (sym h.0) lt, inner, ap (λ m. word (pos m) ++ inner) (sym h.0), rw apart h.1)
  sequence_of n inner None many apart lt h = λ c inside.
      let stop : SequenceStop p true false u.nullable (λ front v. Reads p B d (elem B u) front v) (λ rest s. Stop p B d (elem B u) rest inside s) (word (pos n) ++ (inner ++ c)) inside bad_value =
      SequenceStop.at_elements n (starts n (inner ++ c) lt) refl refl (h c inside) in
      rw (many, apart) stop

module _ (p : Profile) (A B : List Decl) (meets : Meets A B) where
  agreed : (d : ℕ) (t u : AidlType) (b : List ℕ) (o : Option Data) → same A t B u ≡ true → ReadsOrStops p B d u b o → ReadsOrStops p B d u b (when (agree A t B u) o)
  agreed d t u b o is h =
      let agrees : when (agree A t B u) o ≡ o = rw (meets t u is).kinds refl in
      subst (λ o. ReadsOrStops p B d u b o) (sym agrees) h

  -- what the receiver's base means, where the sender's means f
  met : (t u : AidlType) (f : Form) → same A t B u ≡ true → form_of A t.base ≡ f → FormsMeet A f B (form_of B u.base)
  met t u f is e = subst (λ f. FormsMeet A f B (form_of B u.base)) e (meets t u is).forms

  one_too : (t u : AidlType) → same A t B u ≡ true → is_one t.shape ≡ true → is_one u.shape ≡ true
  one_too t u is one = sym (one_is A B t u is) ∙ one

  -- the elements of raw bytes are seen as they are
  module _ (t u : AidlType) (is : same A t B u ≡ true) (byte : form_of A t.base ≡ form.byte) where
    byte_item : (v : Data) → HasType A (elem A t) v → (view_of A (elem A t) B (elem B u) v ≡ Some v) × HasType B (elem B u) v
    byte_item null h = let never : (t.nullable && false) ≡ true = rw byte at h in let wrong : false ≡ true = sym (and_false t.nullable) ∙ never in cc
    byte_item (truth x) h = let e : form.byte ≡ form.truth = sym byte ∙ h.1 in absurd cc
    byte_item (number n) h =
        let agrees : agree A (elem A t) B (elem B u) ≡ true = (meets (elem A t) (elem B u) (elem_is A B t u is (meets t u is).forms)).kinds in
        let there : form_of B u.base ≡ form.byte = met t u form.byte is byte in
        let range : in_range form.byte n ≡ true = subst (λ f. in_range f n ≡ true) byte h.1 in
        (rw agrees refl, (refl, subst (λ f. in_range f n ≡ true) (sym there) range))
    byte_item (text x) h = let e : form.byte ≡ form.text = sym byte ∙ h.1 in absurd cc
    byte_item (seq vs) h = absurd cc
    byte_item (rec vs) h = let e : form.byte ≡ form.parcelable h.1 = sym byte ∙ h.2 in absurd cc
    byte_item (alt k v) h = let e : form.byte ≡ form.union h.1 = sym byte ∙ h.2 in absurd cc

    byte_items : (vs : Items) → HaveType A (elem A t) vs → (view_items A (elem A t) B (elem B u) vs ≡ Some vs) × HaveType B (elem B u) vs
    byte_items none h = (refl, tt)
    byte_items (item v vs) h =
        let head = byte_item v h.0 in
        let tail = byte_items vs h.1 in
        (ap (λ o. item_first o (view_items A (elem A t) B (elem B u) vs)) head.0 ∙ ap (λ os. item_first (Some v) os) tail.0, (head.1, tail.1))

  sequence : (d : ℕ) (t u : AidlType) (vs : Items) (raw : Bool) → is_raw A t ≡ raw → same A t B u ≡ true → is_one t.shape ≡ false → HaveType A (elem A t) vs → count vs < 2 ^ 31
      → length (cond raw [] (spell_items A (elem A t) vs)) ≤ 1048576
      → (length (spell_items A (elem A t) vs) ≤ 1048576 → ElementsOutcome p B d (elem B u) (count vs) (spell_items A (elem A t) vs) (view_items A (elem A t) B (elem B u) vs))
      → ReadsOrStops p B (suc d) u (word (pos (count vs)) ++ cond raw (pad (raw_bytes vs)) (spell_items A (elem A t) vs)) (option_map seq (view_items A (elem A t) B (elem B u) vs))
  sequence d t u vs true raw is many h lt fits found =
      let seen = byte_items t u is (raw_form A t raw) vs h in
      let too : is_raw B u ≡ true = sym (raw_is A B t u is (meets t u is).forms) ∙ raw in
      let read : Reads p B (suc d) u (word (pos (count vs)) ++ pad (raw_bytes vs)) (seq vs) =
      ((sym (one_is A B t u is) ∙ many, seen.1), lt, pad (raw_bytes vs), refl, rw too (padded p (raw_bytes vs))) in
      subst (λ os. ReadsOrStops p B (suc d) u (word (pos (count vs)) ++ pad (raw_bytes vs)) (option_map seq os)) (sym seen.0) read
  sequence d t u vs false raw is many h lt fits found =
      sequence_of p B d u (count vs) (spell_items A (elem A t) vs) (view_items A (elem A t) B (elem B u) vs) (sym (one_is A B t u is) ∙ many)
      (sym (raw_is A B t u is (meets t u is).forms) ∙ raw) lt (found fits)

  -- what the receiver has at a tag of the sender's union
  tag_of : (d : ℕ) (t u : AidlType) (gs : List Field) (k : ℕ) (f : Field) (v : Data) → same A t B u ≡ true → is_one t.shape ≡ true → form_of B u.base ≡ form.union gs → k < 2 ^ 31 → Tagged p A B gs 0 k f
      → ((g : Field) → same A f.ty B g.ty ≡ true → ReadsOrStops p B d g.ty (spell A f.ty v) (view_of A f.ty B g.ty v))
      → ReadsOrStops p B (suc d) u (word (pos 1) ++ (word (pos k) ++ spell A f.ty v)) (field_named 0 f.name.0 gs >>= (λ q. option_map (alt q.0) (view_of A f.ty B q.1.ty v)))
  tag_of d t u gs k f v is one there lt (inl h) law =
      let g = h.0 in
      let at : 0 + k ≡ k = omega arith in
      let found : (field_named 0 f.name.0 gs >>= (λ q. option_map (alt q.0) (view_of A f.ty B q.1.ty v))) ≡ option_map (alt k) (view_of A f.ty B g.ty v) = rw (h.2, at) refl in
      subst (λ o. ReadsOrStops p B (suc d) u (word (pos 1) ++ (word (pos k) ++ spell A f.ty v)) o) (sym found)
      (known p B d u gs k g (spell A f.ty v) (view_of A f.ty B g.ty v) (one_too t u is one) there h.1 lt (law g h.3))
  tag_of d t u gs k f v is one there lt (inr h) law =
      let found : (field_named 0 f.name.0 gs >>= (λ q. option_map (alt q.0) (view_of A f.ty B q.1.ty v))) ≡ None = rw h.1 refl in
      subst (λ o. ReadsOrStops p B (suc d) u (word (pos 1) ++ (word (pos k) ++ spell A f.ty v)) o) (sym found)
      (unknown p B d u gs k (spell A f.ty v) (one_too t u is one) there h.0 lt)

  record_reads : (d : ℕ) (t u : AidlType) (vs : Items) → Lawful p A B d → same A t B u ≡ true → HasType A t (rec vs) → greatest vs ≤ d → length (spell A t (rec vs)) ≤ 1048576
      → ReadsOrStops p B (suc d) u (spell A t (rec vs)) (view_of A t B u (rec vs))
  record_reads d t u vs law is h le fits =
      let fs = h.1 in
      let meet = met t u (form.parcelable fs) is h.2 in
      let gs = meet.0 in
      let inner = spell_fields A fs vs in
      let spelled : spell A t (rec vs) ≡ word (pos 1) ++ body inner = ap (λ gs. word (pos 1) ++ body (spell_fields A gs vs)) (ap parcelable_fields h.2) in
      let seen : option_map rec (seen_fields A (parcelable_fields (form_of A t.base)) B (parcelable_fields (form_of B u.base)) vs) ≡ option_map rec (seen_fields A fs B gs vs) =
      ap (λ fs. option_map rec (seen_fields A fs B (parcelable_fields (form_of B u.base)) vs)) (ap parcelable_fields h.2)
      ∙ ap (λ gs. option_map rec (seen_fields A fs B gs vs)) (ap parcelable_fields meet.1) in
      let words = spell_fields_whole A fs vs in
      let sum = length-append (word (pos 1)) (body inner) in
      let sum' = length-append (word (pos (4 + length inner))) inner in
      let fits' : length inner ≤ 1048576 = omega (arith, ap length spelled) in
      let read = record_of p B d u gs inner (seen_fields A fs B gs vs) (one_too t u is h.0) meet.1 fits' (omega (arith, words.1))
      (fields p A B d fs gs vs law h.3 le fits' meet.2.common meet.2.defaults meet.2.distinct) in
      agreed (suc d) t u (spell A t (rec vs)) _ is
      (subst (λ b. ReadsOrStops p B (suc d) u b (option_map rec (seen_fields A (parcelable_fields (form_of A t.base)) B (parcelable_fields (form_of B u.base)) vs))) (sym spelled)
      (subst (λ o. ReadsOrStops p B (suc d) u (word (pos 1) ++ body inner) o) (sym seen) read))

  union_reads : (d : ℕ) (t u : AidlType) (k : ℕ) (v : Data) → same A t B u ≡ true → (h : HasType A t (alt k v)) → length (spell A t (alt k v)) ≤ 1048576
      → ((g : Field) → same A h.3.ty B g.ty ≡ true → length (spell A h.3.ty v) ≤ 1048576 → ReadsOrStops p B d g.ty (spell A h.3.ty v) (view_of A h.3.ty B g.ty v))
      → ReadsOrStops p B (suc d) u (spell A t (alt k v)) (view_of A t B u (alt k v))
  union_reads d t u k v is h fits law =
      let fs = h.1 in
      let f = h.3 in
      let meet = met t u (form.union fs) is h.2 in
      let gs = meet.0 in
      let spelled : spell A t (alt k v) ≡ word (pos 1) ++ (word (pos k) ++ spell A f.ty v) =
      ap (λ gs. word (pos 1) ++ (word (pos k) ++ spell A (type_of_field (slice_get (union_fields gs) k)) v)) h.2
      ∙ ap (λ o. word (pos 1) ++ (word (pos k) ++ spell A (type_of_field o) v)) h.4 in
      let seen : (slice_get (union_fields (form_of A t.base)) k >>= (λ f. (field_named 0 f.name.0 (union_fields (form_of B u.base))) >>= (λ q. option_map (alt q.0) (view_of A f.ty B q.1.ty v))))
      ≡ (field_named 0 f.name.0 gs >>= (λ q. option_map (alt q.0) (view_of A f.ty B q.1.ty v))) =
      ap (λ x. (slice_get (union_fields x) k >>= (λ f. (field_named 0 f.name.0 (union_fields (form_of B u.base))) >>= (λ q. option_map (alt q.0) (view_of A f.ty B q.1.ty v))))) h.2
      ∙ ap (λ o. (o >>= (λ f. field_named 0 f.name.0 (union_fields (form_of B u.base)) >>= (λ q. option_map (alt q.0) (view_of A f.ty B q.1.ty v))))) h.4
      ∙ ap (λ x. (field_named 0 f.name.0 (union_fields x) >>= (λ q. option_map (alt q.0) (view_of A f.ty B q.1.ty v)))) meet.1 in
      let sum = length-append (word (pos 1) ++ word (pos k)) (spell A f.ty v) in
      let fits' : length (spell A f.ty v) ≤ 1048576 = omega (arith, ap length spelled) in
      let few : length fs ≤ 4096 = meet.2.few in
      let lt : k < 2 ^ 31 = omega (arith, slice_get_within fs k f h.4) in
      let read = tag_of d t u gs k f v is h.0 meet.1 lt (tagged p A B fs gs k 0 f meet.2.common meet.2.distinct h.4) (λ g same. law g same fits') in
      agreed (suc d) t u (spell A t (alt k v)) _ is
      (subst (λ b. ReadsOrStops p B (suc d) u b (slice_get (union_fields (form_of A t.base)) k >>= (λ f. (field_named 0 f.name.0 (union_fields (form_of B u.base))) >>= (λ q. option_map (alt q.0) (view_of A f.ty B q.1.ty v))))) (sym spelled)
      (subst (λ o. ReadsOrStops p B (suc d) u (word (pos 1) ++ (word (pos k) ++ spell A f.ty v)) o) (sym seen) read))

  pub view_reads : (d : ℕ) (t u : AidlType) (v : Data) → same A t B u ≡ true → HasType A t v → depth_of v ≤ d → length (spell A t v) ≤ 1048576
      → ReadsOrStops p B d u (spell A t v) (view_of A t B u v)
  view_reads d t u null is h le fits = agreed d t u (spell A t null) (Some null) is (sym (nullable_is A B t u is) ∙ h, null_is A B t u is (meets t u is).forms)
  view_reads d t u (truth b) is h le fits = agreed d t u (spell A t (truth b)) (Some (truth b)) is ((one_too t u is h.0, met t u form.truth is h.1), truth_word p b)
  view_reads d t u (number n) is h le fits =
      let f = form_of A t.base in
      let there : form_of B u.base ≡ f = number_form A B f (form_of B u.base) n h.1 (meets t u is).forms in
      agreed d t u (spell A t (number n)) (Some (number n)) is
      ((one_too t u is h.0, subst (λ f. in_range f n ≡ true) (sym there) h.1), rw there (number_spelled p f n h.1))
  view_reads d t u (text x) is h le fits = agreed d t u (spell A t (text x)) (Some (text x)) is
      ((one_too t u is h.0, met t u form.text is h.1, h.2), units_small x fits, block x, refl, padded p _)
  view_reads zero t u (seq vs) is h le fits = absurd (omega arith)
  view_reads zero t u (rec vs) is h le fits = absurd (omega arith)
  view_reads zero t u (alt k v) is h le fits = absurd (omega arith)
  view_reads (suc d) t u (seq vs) is h le fits =
      let small = items_small A t vs fits (is_raw A t) refl in
      agreed (suc d) t u (spell A t (seq vs)) _ is
      (sequence d t u vs (is_raw A t) refl is h.0 h.1 (omega (arith, small.0)) small.1
      (λ fits. elements p A B d (elem A t) (elem B u) vs (λ t u w. view_reads d t u w) (elem_is A B t u is (meets t u is).forms) h.1 (omega arith) fits))
  view_reads (suc d) t u (rec vs) is h le fits = record_reads d t u vs (λ t u w. view_reads d t u w) is h (omega arith) fits
  view_reads (suc d) t u (alt k v) is h le fits = union_reads d t u k v is h fits (λ g same fits'. view_reads d h.3.ty g.ty v same h.5 (omega arith) fits')
