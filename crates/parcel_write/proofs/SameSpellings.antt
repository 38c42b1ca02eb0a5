-- The spelling by an id is that by the type for which it stands.
use Rattle.std.proofs.Common.{◌≡◌, ℕ, ◌<◌, ◌^◌, ℤ, pos, negsuc, Bool, true, false, List, [], ◌∷◌, ◌++◌, length, Some, slice_get, FitsSigned, w8, refl, sym, ap, ◌∙◌, subst, arith}
use Rattle.std.specs.Prelude.{MatchBool, if◌then◌else◌}
use Rattle.std.proofs.lemmas.Option.{slice_get_within}
use Rattle.aidl_base.specs.Words.{word, pad}
use Rattle.aidl_base.proofs.lemmas.Ranges.{byte_fits, byte_fits_word, char_fits, int_fits}
use Rattle.aidl_schema.specs.declared.schema.AidlType.{AidlType}
use Rattle.aidl_schema.specs.declared.schema.Decl.{Decl}
use Rattle.aidl_schema.specs.declared.schema.Field.{Field}
use Rattle.aidl_schema.specs.Constants.{in_range}
use Rattle.aidl_schema.specs.Types.{Form, form_of, is_one, is_array, is_byte, is_raw, elem, type_of_field}
use Rattle.aidl_schema.specs.Types as form
use Rattle.aidl_base.proofs.lemmas.Tests.{both}
use Rattle.aidl_values.specs.Data.{Data, null, truth, number, text, seq, rec, alt, Items, none, item, count}
use Rattle.aidl_values.specs.HasType.{HasType, HaveType, FieldsHaveType}
use Rattle.wire_model.specs.Spell.{spell, spell_items, spell_fields, spell_number, null_word, parcelable_fields, union_fields, raw_bytes, body}
use Rattle.marshal_plans.specs.declared.plans.PlanField.{PlanField}
use Rattle.marshal_plans.specs.declared.plans.PlanId.{PlanId}
use Rattle.marshal_plans.specs.declared.plans.PlanItem.{PlanItem}
use Rattle.marshal_plans.specs.declared.plans.PlanItem.TheVariants.{Raw, Seq}
use Rattle.marshal_plans.specs.declared.plans.Plans.{Plans}
use Rattle.marshal_plans.specs.Standing.{OneForOne, StandsFor, IsEntryOf, IsOneItem, IsManyItem, IsItemOf, StandFor}
use Rattle.marshal_plans.proofs.lemmas.Matching.{matched}
use Rattle.parcel_write.specs.steps.Bytes.{AreByteValues}
use Rattle.parcel_write.specs.steps.PlanSpell.{number_by, null_word_by, is_raw_item, element_of, record_entries, union_entries, id_of_entry, item_of, plan_spell, plan_spell_items, plan_spell_entries, SuitsNumber, Suits, EachSuits, EntriesSuit}

-- what an item says, as the type does
module _ (types : List AidlType) (entries : List PlanField) where
  abbrev AreEntries : List Field → List PlanField → Type 0
  AreEntries fs gs = OneForOne (λ f g. IsEntryOf types f g) fs gs

  one_number : (nullable : Bool) (f : Form) (i : PlanItem) (n : ℤ) → IsOneItem types entries nullable f i → number_by (Some i) n ≡ spell_number f n
  one_number nullable form.truth i n h = ap (λ j. number_by (Some j) n) h
  one_number nullable form.byte i n h = ap (λ j. number_by (Some j) n) h
  one_number nullable form.char i n h = ap (λ j. number_by (Some j) n) h
  one_number nullable form.int i n h = ap (λ j. number_by (Some j) n) h
  one_number nullable form.long i n h = ap (λ j. number_by (Some j) n) h
  one_number nullable form.text i n h = ap (λ j. number_by (Some j) n) h
  one_number nullable (form.parcelable fs) i n h = ap (λ j. number_by (Some j) n) h.1
  one_number nullable (form.union fs) i n h = ap (λ j. number_by (Some j) n) h.1
  one_number nullable form.nothing i n h = elim h [ ]

  one_suits : (nullable : Bool) (f : Form) (i : PlanItem) (n : ℤ) → IsOneItem types entries nullable f i → in_range f n ≡ true → SuitsNumber (Some i) n
  one_suits nullable form.truth i n h e = cc
  one_suits nullable form.byte i n h e = subst (λ j. SuitsNumber (Some j) n) (sym h) (byte_fits_word n e)
  one_suits nullable form.char i n h e = subst (λ j. SuitsNumber (Some j) n) (sym h) (char_fits n e)
  one_suits nullable form.int i n h e = subst (λ j. SuitsNumber (Some j) n) (sym h) (int_fits n e)
  one_suits nullable form.long i n h e = subst (λ j. SuitsNumber (Some j) n) (sym h) tt
  one_suits nullable form.text i n h e = cc
  one_suits nullable (form.parcelable fs) i n h e = cc
  one_suits nullable (form.union fs) i n h e = cc
  one_suits nullable form.nothing i n h e = cc

  one_null : (nullable : Bool) (f : Form) (i : PlanItem) → IsOneItem types entries nullable f i → null_word_by (Some i) ≡ null_word f
  one_null nullable form.truth i h = ap (λ j. null_word_by (Some j)) h
  one_null nullable form.byte i h = ap (λ j. null_word_by (Some j)) h
  one_null nullable form.char i h = ap (λ j. null_word_by (Some j)) h
  one_null nullable form.int i h = ap (λ j. null_word_by (Some j)) h
  one_null nullable form.long i h = ap (λ j. null_word_by (Some j)) h
  one_null nullable form.text i h = ap (λ j. null_word_by (Some j)) h
  one_null nullable (form.parcelable fs) i h = ap (λ j. null_word_by (Some j)) h.1
  one_null nullable (form.union fs) i h = ap (λ j. null_word_by (Some j)) h.1
  one_null nullable form.nothing i h = elim h [ ]

  one_record : (nullable : Bool) (f : Form) (i : PlanItem) → IsOneItem types entries nullable f i → AreEntries (parcelable_fields f) (record_entries entries (Some i))
  one_record nullable form.truth i h = subst (λ j. AreEntries [] (record_entries entries (Some j))) (sym h) tt
  one_record nullable form.byte i h = subst (λ j. AreEntries [] (record_entries entries (Some j))) (sym h) tt
  one_record nullable form.char i h = subst (λ j. AreEntries [] (record_entries entries (Some j))) (sym h) tt
  one_record nullable form.int i h = subst (λ j. AreEntries [] (record_entries entries (Some j))) (sym h) tt
  one_record nullable form.long i h = subst (λ j. AreEntries [] (record_entries entries (Some j))) (sym h) tt
  one_record nullable form.text i h = subst (λ j. AreEntries [] (record_entries entries (Some j))) (sym h) tt
  one_record nullable (form.parcelable fs) i h = subst (λ j. AreEntries fs (record_entries entries (Some j))) (sym h.1) h.2
  one_record nullable (form.union fs) i h = subst (λ j. AreEntries [] (record_entries entries (Some j))) (sym h.1) tt
  one_record nullable form.nothing i h = elim h [ ]

  one_union : (nullable : Bool) (f : Form) (i : PlanItem) → IsOneItem types entries nullable f i → AreEntries (union_fields f) (union_entries entries (Some i))
  one_union nullable form.truth i h = subst (λ j. AreEntries [] (union_entries entries (Some j))) (sym h) tt
  one_union nullable form.byte i h = subst (λ j. AreEntries [] (union_entries entries (Some j))) (sym h) tt
  one_union nullable form.char i h = subst (λ j. AreEntries [] (union_entries entries (Some j))) (sym h) tt
  one_union nullable form.int i h = subst (λ j. AreEntries [] (union_entries entries (Some j))) (sym h) tt
  one_union nullable form.long i h = subst (λ j. AreEntries [] (union_entries entries (Some j))) (sym h) tt
  one_union nullable form.text i h = subst (λ j. AreEntries [] (union_entries entries (Some j))) (sym h) tt
  one_union nullable (form.parcelable fs) i h = subst (λ j. AreEntries [] (union_entries entries (Some j))) (sym h.1) tt
  one_union nullable (form.union fs) i h = subst (λ j. AreEntries fs (union_entries entries (Some j))) (sym h.1) h.2
  one_union nullable form.nothing i h = elim h [ ]

  -- the entry of a field that is there
  entry_at : (fs : List Field) (gs : List PlanField) (k : ℕ) (f : Field) → AreEntries fs gs → slice_get fs k ≡ Some f → StandsFor types (id_of_entry (slice_get gs k)) f.ty
  entry_at fs gs k f h at =
      let m = matched (λ f g. IsEntryOf types f g) fs gs k f h at in
      subst (λ o. StandsFor types (id_of_entry o) f.ty) (sym m.1) m.2.0

byte_range : (f : Form) (n : ℤ) → is_byte f ≡ true → in_range f n ≡ true → FitsSigned w8 n
byte_range form.byte n e h = byte_fits n h
byte_range form.truth n e h = cc
byte_range form.char n e h = cc
byte_range form.int n e h = cc
byte_range form.long n e h = cc
byte_range form.text n e h = cc
byte_range (form.parcelable fs) n e h = cc
byte_range (form.union fs) n e h = cc
byte_range form.nothing n e h = cc

module _ (S : List Decl) (t : AidlType) where
  -- the elements of raw bytes are bytes
  are_bytes : (vs : Items) → is_raw S t ≡ true → HaveType S (elem S t) vs → AreByteValues vs
  are_bytes none raw h = tt
  are_bytes (item (number n) vs) raw h = (byte_range (form_of S t.base) n (both (is_array t.shape) (is_byte (form_of S t.base)) raw).1 h.0.1, are_bytes vs raw h.1)
  are_bytes (item null vs) raw h = (tt, are_bytes vs raw h.1)
  are_bytes (item (truth b) vs) raw h = (tt, are_bytes vs raw h.1)
  are_bytes (item (text x) vs) raw h = (tt, are_bytes vs raw h.1)
  are_bytes (item (seq xs) vs) raw h = (tt, are_bytes vs raw h.1)
  are_bytes (item (rec xs) vs) raw h = (tt, are_bytes vs raw h.1)
  are_bytes (item (alt k x) vs) raw h = (tt, are_bytes vs raw h.1)

module _ (S : List Decl) (extra types : List AidlType) (P : Plans) (stand : StandFor S extra types P) where
  -- the item of an id
  found : (id : PlanId) (t : AidlType) → StandsFor types id t → (i : PlanItem) × (item_of P id ≡ Some i) × IsItemOf S types P.fields t i
  found id t at = matched (λ u j. IsItemOf S types P.fields u j) types P.items id.0 t stand.items at

  one_found : (id : PlanId) (t : AidlType) → StandsFor types id t → is_one t.shape ≡ true → (i : PlanItem) × (item_of P id ≡ Some i) × IsOneItem types P.fields t.nullable (form_of S t.base) i
  one_found id t at one = let h = found id t at in (h.0, h.1, rw one at h.2)

  many_found : (id : PlanId) (t : AidlType) → StandsFor types id t → is_one t.shape ≡ false → (i : PlanItem) × (item_of P id ≡ Some i) × IsManyItem S types t i
  many_found id t at one = let h = found id t at in (h.0, h.1, rw one at h.2)

  -- a sequence is raw where its item is
  raw_is : (id : PlanId) (t : AidlType) → StandsFor types id t → is_one t.shape ≡ false → (is_raw_item (item_of P id) ≡ is_raw S t) × (is_raw S t ≡ false → StandsFor types (element_of (item_of P id)) (elem S t))
  raw_is id t at one = let h = many_found id t at one in by_raw (is_raw S t) h.0 h.1 h.2
    where
      by_raw : (raw : Bool) (i : PlanItem) → item_of P id ≡ Some i → MatchBool raw (i ≡ Raw t.nullable) ((e : PlanId) × (i ≡ Seq t.nullable e) × StandsFor types e (elem S t))
          → (is_raw_item (item_of P id) ≡ raw) × (raw ≡ false → StandsFor types (element_of (item_of P id)) (elem S t))
      by_raw true i e h = (ap is_raw_item e ∙ ap (λ j. is_raw_item (Some j)) h, λ f. cc)
      by_raw false i e h = (
        ap is_raw_item e ∙ ap (λ j. is_raw_item (Some j)) h.1,
        λ f. subst (λ u. StandsFor types u (elem S t)) (sym (ap element_of e ∙ ap (λ j. element_of (Some j)) h.1)) h.2,
      )

  null_same : (id : PlanId) (t : AidlType) → StandsFor types id t → word (null_word_by (item_of P id)) ≡ word (if is_one t.shape then null_word (form_of S t.base) else negsuc 0)
  null_same id t at = let h = found id t at in ap word (ap null_word_by h.1 ∙ by_shape (is_one t.shape) (is_raw S t) h.0 h.2)
    where
      by_shape : (one raw : Bool) (i : PlanItem) → MatchBool one (IsOneItem types P.fields t.nullable (form_of S t.base) i) (MatchBool raw (i ≡ Raw t.nullable) ((e : PlanId) × (i ≡ Seq t.nullable e) × StandsFor types e (elem S t)))
          → null_word_by (Some i) ≡ (if one then null_word (form_of S t.base) else negsuc 0)
      by_shape true raw i k = one_null types P.fields t.nullable (form_of S t.base) i k
      by_shape false true i k = ap (λ j. null_word_by (Some j)) k
      by_shape false false i k = ap (λ j. null_word_by (Some j)) k.1

  number_same : (id : PlanId) (t : AidlType) (n : ℤ) → StandsFor types id t → is_one t.shape ≡ true → number_by (item_of P id) n ≡ spell_number (form_of S t.base) n
  number_same id t n at one = let h = one_found id t at one in ap (λ o. number_by o n) h.1 ∙ one_number types P.fields t.nullable (form_of S t.base) h.0 n h.2

  record_same : (id : PlanId) (t : AidlType) → StandsFor types id t → is_one t.shape ≡ true → OneForOne (λ f g. IsEntryOf types f g) (parcelable_fields (form_of S t.base)) (record_entries P.fields (item_of P id))
  record_same id t at one =
      let h = one_found id t at one in
      subst (λ o. OneForOne (λ f g. IsEntryOf types f g) (parcelable_fields (form_of S t.base)) (record_entries P.fields o)) (sym h.1) (one_record types P.fields t.nullable (form_of S t.base) h.0 h.2)

  union_same : (id : PlanId) (t : AidlType) → StandsFor types id t → is_one t.shape ≡ true → OneForOne (λ f g. IsEntryOf types f g) (union_fields (form_of S t.base)) (union_entries P.fields (item_of P id))
  union_same id t at one =
      let h = one_found id t at one in
      subst (λ o. OneForOne (λ f g. IsEntryOf types f g) (union_fields (form_of S t.base)) (union_entries P.fields o)) (sym h.1) (one_union types P.fields t.nullable (form_of S t.base) h.0 h.2)

  -- the field that a tag names, and its entry
  alternative_same : (id : PlanId) (t : AidlType) (fs : List Field) (k : ℕ) (f : Field) → StandsFor types id t → is_one t.shape ≡ true → form_of S t.base ≡ form.union fs → slice_get fs k ≡ Some f
      → StandsFor types (id_of_entry (slice_get (union_entries P.fields (item_of P id)) k)) f.ty
  alternative_same id t fs k f at one is there =
      entry_at types P.fields fs (union_entries P.fields (item_of P id)) k f
      (subst (λ gs. OneForOne (λ f g. IsEntryOf types f g) gs (union_entries P.fields (item_of P id))) (ap union_fields is) (union_same id t at one)) there

  mutual
    pub same_spelling : (id : PlanId) (t : AidlType) (v : Data) → StandsFor types id t → HasType S t v → plan_spell P id v ≡ spell S t v
    same_spelling id t null at h = null_same id t at
    same_spelling id t (truth b) at h = refl
    same_spelling id t (number n) at h = number_same id t n at h.0
    same_spelling id t (text x) at h = refl
    same_spelling id t (seq vs) at h =
        let raw = raw_is id t at h.0 in
        ap (λ b. word (pos (count vs)) ++ (if b then pad (raw_bytes vs) else plan_spell_items P (element_of (item_of P id)) vs)) raw.0
        ∙ ap (λ x. word (pos (count vs)) ++ x) (by_raw (is_raw S t) (λ e. same_items (element_of (item_of P id)) (elem S t) vs (raw.1 e) h.1))
      where
        by_raw : (b : Bool) → (b ≡ false → plan_spell_items P (element_of (item_of P id)) vs ≡ spell_items S (elem S t) vs)
            → (if b then pad (raw_bytes vs) else plan_spell_items P (element_of (item_of P id)) vs) ≡ (if b then pad (raw_bytes vs) else spell_items S (elem S t) vs)
        by_raw true e = refl
        by_raw false e = e refl
    same_spelling id t (rec vs) at h =
        let fields : FieldsHaveType S (parcelable_fields (form_of S t.base)) vs = subst (λ fs. FieldsHaveType S fs vs) (sym (ap parcelable_fields h.2)) h.3 in
        ap (λ x. word (pos 1) ++ body x) (same_entries (parcelable_fields (form_of S t.base)) (record_entries P.fields (item_of P id)) vs (record_same id t at h.0) fields)
    same_spelling id t (alt k v) at h =
        let part = alternative_same id t h.1 k h.3 at h.0 h.2 h.4 in
        let type : type_of_field (slice_get (union_fields (form_of S t.base)) k) ≡ h.3.ty = ap (λ f. type_of_field (slice_get (union_fields f) k)) h.2 ∙ ap type_of_field h.4 in
        ap (λ x. word (pos 1) ++ word (pos k) ++ x) (same_spelling (id_of_entry (slice_get (union_entries P.fields (item_of P id)) k)) h.3.ty v part h.5 ∙ ap (λ u. spell S u v) (sym type))

    same_items : (id : PlanId) (t : AidlType) (vs : Items) → StandsFor types id t → HaveType S t vs → plan_spell_items P id vs ≡ spell_items S t vs
    same_items id t none at h = refl
    same_items id t (item v vs) at h = ap (λ x. x ++ plan_spell_items P id vs) (same_spelling id t v at h.0) ∙ ap (λ x. spell S t v ++ x) (same_items id t vs at h.1)

    same_entries : (fs : List Field) (gs : List PlanField) (vs : Items) → OneForOne (λ f g. IsEntryOf types f g) fs gs → FieldsHaveType S fs vs → plan_spell_entries P gs vs ≡ spell_fields S fs vs
    same_entries [] [] none at h = refl
    same_entries [] [] (item v vs) at h = elim h [ ]
    same_entries [] (g ∷ gs) vs at h = elim at [ ]
    same_entries (f ∷ fs) [] vs at h = elim at [ ]
    same_entries (f ∷ fs) (g ∷ gs) none at h = elim h [ ]
    same_entries (f ∷ fs) (g ∷ gs) (item v vs) at h =
        ap (λ x. x ++ plan_spell_entries P gs vs) (same_spelling g.item f.ty v at.0.0 h.0) ∙ ap (λ x. spell S f.ty v ++ x) (same_entries fs gs vs at.1 h.1)

  -- tags are small, since declarations have few fields
  module _ (tags : (t : AidlType) (fs : List Field) → form_of S t.base ≡ form.union fs → length fs < 2 ^ 31) where
    mutual
      pub suits : (id : PlanId) (t : AidlType) (v : Data) → StandsFor types id t → HasType S t v → Suits P id v
      suits id t null at h = tt
      suits id t (truth b) at h = tt
      suits id t (number n) at h =
          let i = one_found id t at h.0 in
          subst (λ o. SuitsNumber o n) (sym i.1) (one_suits types P.fields t.nullable (form_of S t.base) i.0 n i.2 h.1)
      suits id t (text x) at h = tt
      suits id t (seq vs) at h =
          let raw = raw_is id t at h.0 in
          subst (λ b. MatchBool b (AreByteValues vs) (EachSuits P (element_of (item_of P id)) vs)) (sym raw.0)
          (by_raw (is_raw S t) refl (λ e. items_suit (element_of (item_of P id)) (elem S t) vs (raw.1 e) h.1))
        where
          by_raw : (b : Bool) → is_raw S t ≡ b → (b ≡ false → EachSuits P (element_of (item_of P id)) vs) → MatchBool b (AreByteValues vs) (EachSuits P (element_of (item_of P id)) vs)
          by_raw true e f = are_bytes S t vs e h.1
          by_raw false e f = f refl
      suits id t (rec vs) at h =
          let fields : FieldsHaveType S (parcelable_fields (form_of S t.base)) vs = subst (λ fs. FieldsHaveType S fs vs) (sym (ap parcelable_fields h.2)) h.3 in
          entries_suit (parcelable_fields (form_of S t.base)) (record_entries P.fields (item_of P id)) vs (record_same id t at h.0) fields
      suits id t (alt k v) at h =
          let part = alternative_same id t h.1 k h.3 at h.0 h.2 h.4 in
          let few = tags t h.1 h.2 in
          let within = slice_get_within h.1 k h.3 h.4 in
          (omega (arith, few, within), suits (id_of_entry (slice_get (union_entries P.fields (item_of P id)) k)) h.3.ty v part h.5)

      items_suit : (id : PlanId) (t : AidlType) (vs : Items) → StandsFor types id t → HaveType S t vs → EachSuits P id vs
      items_suit id t none at h = tt
      items_suit id t (item v vs) at h = (suits id t v at h.0, items_suit id t vs at h.1)

      entries_suit : (fs : List Field) (gs : List PlanField) (vs : Items) → OneForOne (λ f g. IsEntryOf types f g) fs gs → FieldsHaveType S fs vs → EntriesSuit P gs vs
      entries_suit [] [] none at h = tt
      entries_suit [] [] (item v vs) at h = elim h [ ]
      entries_suit [] (g ∷ gs) vs at h = elim at [ ]
      entries_suit (f ∷ fs) [] vs at h = elim at [ ]
      entries_suit (f ∷ fs) (g ∷ gs) none at h = elim h [ ]
      entries_suit (f ∷ fs) (g ∷ gs) (item v vs) at h = (suits g.item f.ty v at.0.0 h.0, entries_suit fs gs vs at.1 h.1)
