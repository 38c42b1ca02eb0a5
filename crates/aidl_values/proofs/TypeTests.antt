-- The test of a type decides whether the value has it.
use Rattle.std.proofs.Common.{◌≡◌, ℕ, suc, ◌+◌, ◌<◌, Bool, true, false, List, [], ◌∷◌, length, drop, get_or, Option, Some, None, slice_get, refl, sym, ap, ◌∙◌}
use Rattle.std.specs.Prelude.{◌&&◌}
use Rattle.std.proofs.lemmas.List.{drop_more}
use Rattle.aidl_schema.specs.declared.schema.Decl.{Decl}
use Rattle.aidl_schema.specs.declared.schema.Field.{Field}
use Rattle.aidl_schema.specs.declared.schema.AidlType.{AidlType}
use Rattle.aidl_schema.specs.Types.{Form, form_of, is_one, elem}
use Rattle.aidl_schema.specs.Types as form
use Rattle.aidl_base.proofs.lemmas.Tests.{and_false, both, flipped}
use Rattle.aidl_values.specs.Data.{Data, null, truth, number, text, seq, rec, alt, Items, none, item}
use Rattle.aidl_values.specs.HasType.{HasType, HaveType, FieldsHaveType}
use Rattle.aidl_values.specs.steps.TypeTest.{is_truth_form, is_text_form, of_parcelable, of_union, of_field, has_type_of, all_have_type, fields_have_type}
use Rattle.aidl_values.specs.View.{items_of}
use Rattle.aidl_values.proofs.lemmas.Nexts.{next_of_rest}

pub other_count : (S : List Decl) (fs : List Field) (vs : List Data) → (length fs ≡ length vs → ⊥) → false ≡ fields_have_type S fs (items_of vs)
other_count S [] [] apart = absurd (apart refl)
other_count S [] (v ∷ vs) apart = refl
other_count S (f ∷ fs) [] apart = refl
other_count S (f ∷ fs) (v ∷ vs) apart = sym (rw (sym (other_count S fs vs (λ e. apart (ap suc e)))) (and_false _))

-- what is left of a record is of its fields' types where its first and the others are
pub field_first : (S : List Decl) (fs : List Field) (vs : List Data) (i : ℕ) (f : Field) (v : Data) → i < length fs → f ≡ get_or fs i f → slice_get vs i ≡ Some v
    → fields_have_type S (drop i fs) (items_of (drop i vs)) ≡ (has_type_of S f.ty v && fields_have_type S (drop (i + 1) fs) (items_of (drop (i + 1) vs)))
field_first S fs vs i f v within is there =
    ap (λ gs. fields_have_type S gs (items_of (drop i vs))) (drop_more fs i f within ∙ ap (λ g. g ∷ drop (i + 1) fs) (sym is))
    ∙ ap (λ ws. fields_have_type S (f ∷ drop (i + 1) fs) (items_of ws)) (next_of_rest vs i v there)

-- what is left of a sequence is of the type where its first and the others are
pub element_first : (S : List Decl) (t : AidlType) (ds : List Data) (i : ℕ) (d : Data) → slice_get ds i ≡ Some d
    → all_have_type S t (items_of (drop i ds)) ≡ (has_type_of S t d && all_have_type S t (items_of (drop (i + 1) ds)))
element_first S t ds i d there = ap (λ es. all_have_type S t (items_of es)) (next_of_rest ds i d there)

truth_is : (f : Form) → is_truth_form f ≡ true → f ≡ form.truth
truth_is form.truth e = refl
truth_is form.byte e = cc
truth_is form.char e = cc
truth_is form.int e = cc
truth_is form.long e = cc
truth_is form.text e = cc
truth_is (form.parcelable fs) e = cc
truth_is (form.union fs) e = cc
truth_is form.nothing e = cc

text_is : (f : Form) → is_text_form f ≡ true → f ≡ form.text
text_is form.text e = refl
text_is form.byte e = cc
text_is form.char e = cc
text_is form.int e = cc
text_is form.long e = cc
text_is form.truth e = cc
text_is (form.parcelable fs) e = cc
text_is (form.union fs) e = cc
text_is form.nothing e = cc

-- the fields of a parcelable, and of a union, and a field that is there
parcelable_is : (f : Form) (test : List Field → Bool) → of_parcelable f test ≡ true → (fs : List Field) × (f ≡ form.parcelable fs) × (test fs ≡ true)
parcelable_is (form.parcelable fs) test e = (fs, refl, e)
parcelable_is form.truth test e = cc
parcelable_is form.byte test e = cc
parcelable_is form.char test e = cc
parcelable_is form.int test e = cc
parcelable_is form.long test e = cc
parcelable_is form.text test e = cc
parcelable_is (form.union fs) test e = cc
parcelable_is form.nothing test e = cc

union_is : (f : Form) (test : List Field → Bool) → of_union f test ≡ true → (fs : List Field) × (f ≡ form.union fs) × (test fs ≡ true)
union_is (form.union fs) test e = (fs, refl, e)
union_is form.truth test e = cc
union_is form.byte test e = cc
union_is form.char test e = cc
union_is form.int test e = cc
union_is form.long test e = cc
union_is form.text test e = cc
union_is (form.parcelable fs) test e = cc
union_is form.nothing test e = cc

field_is : (o : Option Field) (test : AidlType → Bool) → of_field o test ≡ true → (f : Field) × (o ≡ Some f) × (test f.ty ≡ true)
field_is None test e = cc
field_is (Some f) test e = (f, refl, e)

mutual
  pub tested : (S : List Decl) (t : AidlType) (v : Data) → has_type_of S t v ≡ true → HasType S t v
  tested S t null e = e
  tested S t (truth b) e = let p = both _ _ e in (p.0, truth_is _ p.1)
  tested S t (number n) e = both _ _ e
  tested S t (text x) e = let p = both _ _ e in let q = both _ _ p.0 in (q.0, text_is _ q.1, p.1)
  tested S t (seq vs) e = let p = both _ _ e in (flipped _ p.0, tested_all S (elem S t) vs p.1)
  tested S t (rec vs) e = let p = both _ _ e in let q = parcelable_is (form_of S t.base) (λ fs. fields_have_type S fs vs) p.1 in (p.0, q.0, q.1, tested_fields S q.0 vs q.2)
  tested S t (alt k v) e =
      let p = both _ _ e in
      let q = union_is (form_of S t.base) (λ fs. of_field (slice_get fs k) (λ u. has_type_of S u v)) p.1 in
      let r = field_is (slice_get q.0 k) (λ u. has_type_of S u v) q.2 in
      (p.0, q.0, q.1, r.0, r.1, tested S r.0.ty v r.2)

  tested_all : (S : List Decl) (t : AidlType) (vs : Items) → all_have_type S t vs ≡ true → HaveType S t vs
  tested_all S t none e = tt
  tested_all S t (item v vs) e = let p = both _ _ e in (tested S t v p.0, tested_all S t vs p.1)

  tested_fields : (S : List Decl) (fs : List Field) (vs : Items) → fields_have_type S fs vs ≡ true → FieldsHaveType S fs vs
  tested_fields S [] none e = tt
  tested_fields S [] (item v vs) e = cc
  tested_fields S (f ∷ fs) none e = cc
  tested_fields S (f ∷ fs) (item v vs) e = let p = both _ _ e in (tested S f.ty v p.0, tested_fields S fs vs p.1)

mutual
  pub passes : (S : List Decl) (t : AidlType) (v : Data) → HasType S t v → has_type_of S t v ≡ true
  passes S t null h = h
  passes S t (truth b) h = rw (h.0, h.1)
  passes S t (number n) h = rw (h.0) h.1
  passes S t (text x) h = rw (h.0, h.1) h.2
  passes S t (seq vs) h = rw (h.0) (passes_all S (elem S t) vs h.1)
  passes S t (rec vs) h = rw (h.0, h.2) (passes_fields S h.1 vs h.3)
  passes S t (alt k v) h = rw (h.0, h.2, h.4) (passes S h.3.ty v h.5)

  passes_all : (S : List Decl) (t : AidlType) (vs : Items) → HaveType S t vs → all_have_type S t vs ≡ true
  passes_all S t none h = refl
  passes_all S t (item v vs) h = rw (passes S t v h.0) (passes_all S t vs h.1)

  passes_fields : (S : List Decl) (fs : List Field) (vs : Items) → FieldsHaveType S fs vs → fields_have_type S fs vs ≡ true
  passes_fields S [] none h = refl
  passes_fields S [] (item v vs) h = elim h [ ]
  passes_fields S (f ∷ fs) none h = elim h [ ]
  passes_fields S (f ∷ fs) (item v vs) h = rw (passes S f.ty v h.0) (passes_fields S fs vs h.1)
