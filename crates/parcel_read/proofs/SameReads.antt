-- Reading by an id is reading by the type for which it stands.
use Rattle.std.proofs.Common.{◌≡◌, ℕ, zero, suc, ℤ, Bool, true, false, List, [], ◌∷◌, length, take, drop, Option, Some, None, slice_get, Result, Ok, Err, refl, ap, ◌∙◌}
use Rattle.std.specs.Prelude.{MatchBool, if◌then◌else◌}
use Rattle.aidl_base.specs.declared.profile.Profile.{Profile}
use Rattle.aidl_base.specs.Readings.{Read, ◌>>=◌, count_at}
use Rattle.aidl_schema.specs.declared.schema.AidlType.{AidlType}
use Rattle.aidl_schema.specs.declared.schema.Decl.{Decl}
use Rattle.aidl_schema.specs.declared.schema.Field.{Field}
use Rattle.aidl_schema.specs.Types.{Form, form_of, is_one, is_raw, elem}
use Rattle.aidl_schema.specs.Types as form
use Rattle.aidl_values.specs.Data.{Data, seq, rec, alt, item}
use Rattle.aidl_values.specs.Sound.{initial_in}
use Rattle.wire_model.specs.Status.{bad_value}
use Rattle.wire_model.specs.ReadOf.{each_at, elements_at, array_at, marker_at, marked_at, body_at, field_at, fields_at, body_value_at, record_at, tag_at, ok_field, tagged_at, union_at, one_at, read_of}
use Rattle.marshal_plans.specs.declared.plans.PlanField.{PlanField}
use Rattle.marshal_plans.specs.declared.plans.PlanId.{PlanId}
use Rattle.marshal_plans.specs.declared.plans.PlanItem.{PlanItem}
use Rattle.marshal_plans.specs.declared.plans.PlanItem.TheVariants.{Raw, Seq}
use Rattle.marshal_plans.specs.declared.plans.Plans.{Plans}
use Rattle.marshal_plans.specs.Standing.{OneForOne, StandsFor, IsEntryOf, IsOneItem, IsManyItem, IsItemOf, StandFor}
use Rattle.marshal_plans.proofs.lemmas.Matching.{matched}
use Rattle.parcel_read.specs.steps.PlanDefault.{initial_by_plan}
use Rattle.parcel_read.specs.steps.PlanRead.{item_at, item_or_none_at, plan_read}
use Rattle.parcel_read.proofs.Defaults.{initial_is}

-- steps that go on alike
then_same : {A B R : Type 0} (r : Result A R) (f g : A → Result B R) → ((x : A) → f x ≡ g x) → (r >>= f) ≡ (r >>= g)
then_same (Ok x) f g h = h x
then_same (Err e) f g h = refl

marked_same : (left there : Bool) (f g : List ℕ → Read Data) (b : List ℕ) → f b ≡ g b → marked_at left f there b ≡ marked_at left g there b
marked_same true true f g b h = h
marked_same false true f g b h = refl
marked_same left false f g b h = refl

each_same : (f g : List ℕ → Read Data) → ((b : List ℕ) → f b ≡ g b) → (n : ℕ) (b : List ℕ) → each_at f n b ≡ each_at g n b
each_same f g h zero b = refl
each_same f g h (suc n) b =
    ap (λ r. r >>= λ first. each_at f n first.1 >>= λ others. Ok (item first.0 others.0, others.1)) (h b)
    ∙ then_same (g b) (λ first. each_at f n first.1 >>= λ others. Ok (item first.0 others.0, others.1)) (λ first. each_at g n first.1 >>= λ others. Ok (item first.0 others.0, others.1))
    (λ first. ap (λ r. r >>= λ others. Ok (item first.0 others.0, others.1)) (each_same f g h n first.1))

module _ (p : Profile) (left nullable inside : Bool) (f g : List ℕ → Read Data) where
  elements_same : ((b : List ℕ) → f b ≡ g b) → (n : Option ℕ) (b : List ℕ) → elements_at p left false f inside n b ≡ elements_at p left false g inside n b
  unfolding elements_at
  elements_same h None b = refl
  elements_same h (Some n) b = ap (λ r. if left then (r >>= λ vs. Ok (seq vs.0, vs.1)) else Err bad_value) (each_same f g h n b)

  raw_same : (n : Option ℕ) (b : List ℕ) → elements_at p left true f inside n b ≡ elements_at p left true g inside n b
  unfolding elements_at
  raw_same None b = refl
  raw_same (Some n) b = refl

  array_same : ((b : List ℕ) → f b ≡ g b) → (b : List ℕ) → array_at p left false nullable f inside b ≡ array_at p left false nullable g inside b
  unfolding array_at
  array_same h b = then_same (count_at nullable inside b) (λ n. elements_at p left false f inside n.0 n.1) (λ n. elements_at p left false g inside n.0 n.1) (λ n. elements_same h n.0 n.1)

  raw_array_same : (b : List ℕ) → array_at p left true nullable f inside b ≡ array_at p left true nullable g inside b
  unfolding array_at
  raw_array_same b = then_same (count_at nullable inside b) (λ n. elements_at p left true f inside n.0 n.1) (λ n. elements_at p left true g inside n.0 n.1) (λ n. raw_same n.0 n.1)

-- fields and their entries
module _ (types : List AidlType) (initial : PlanField → Data) (default : Field → Data) (defaults : (f : Field) (g : PlanField) → IsEntryOf types f g → initial g ≡ default f)
    (of_id : PlanId → List ℕ → Read Data) (of_type : AidlType → List ℕ → Read Data) (parts : (id : PlanId) (t : AidlType) → StandsFor types id t → (b : List ℕ) → of_id id b ≡ of_type t b) where
  abbrev by_entry : PlanField → List ℕ → Read Data
  by_entry g c = of_id g.item c

  abbrev by_field : Field → List ℕ → Read Data
  by_field f c = of_type f.ty c

  abbrev AreEntries : List Field → List PlanField → Type 0
  AreEntries fs gs = OneForOne (λ f g. IsEntryOf types f g) fs gs

  entry_same : (f : Field) (g : PlanField) → IsEntryOf types f g → (b : List ℕ) → field_at initial by_entry g b ≡ field_at default by_field f b
  entry_same f g h [] = ap (λ (v : Data). Ok (v, [])) (defaults f g h)
  entry_same f g h (x ∷ b) = parts g.item f.ty h.0 (x ∷ b)

  entries_same : (fs : List Field) (gs : List PlanField) → AreEntries fs gs → (b : List ℕ) → fields_at initial by_entry gs b ≡ fields_at default by_field fs b
  entries_same [] [] h b = refl
  entries_same [] (g ∷ gs) h b = elim h [ ]
  entries_same (f ∷ fs) [] h b = elim h [ ]
  entries_same (f ∷ fs) (g ∷ gs) h b =
      ap (λ r. r >>= λ first. fields_at initial by_entry gs first.1 >>= λ others. Ok (item first.0 others)) (entry_same f g h.0 b)
      ∙ then_same (field_at default by_field f b) (λ first. fields_at initial by_entry gs first.1 >>= λ others. Ok (item first.0 others)) (λ first. fields_at default by_field fs first.1 >>= λ others. Ok (item first.0 others))
      (λ first. ap (λ r. r >>= λ others. Ok (item first.0 others)) (entries_same fs gs h.1 first.1))

  body_same : (fs : List Field) (gs : List PlanField) → AreEntries fs gs → (inside : Bool) (b : List ℕ) → body_value_at initial by_entry gs inside b ≡ body_value_at default by_field fs inside b
  unfolding body_value_at
  body_same fs gs h inside b =
      then_same (body_at inside b) (λ inner. fields_at initial by_entry gs inner.0 >>= λ vs. Ok (rec vs, inner.1)) (λ inner. fields_at default by_field fs inner.0 >>= λ vs. Ok (rec vs, inner.1))
      (λ inner. ap (λ r. r >>= λ vs. Ok (rec vs, inner.1)) (entries_same fs gs h inner.0))

  record_same : (p : Profile) (left nullable : Bool) (fs : List Field) (gs : List PlanField) → AreEntries fs gs → (inside : Bool) (b : List ℕ)
      → record_at p left nullable initial by_entry gs inside b ≡ record_at p left nullable default by_field fs inside b
  unfolding record_at
  record_same p left nullable fs gs h inside b =
      then_same (marker_at p nullable inside b) (λ m. marked_at left (λ c. body_value_at initial by_entry gs inside c) m.0 m.1) (λ m. marked_at left (λ c. body_value_at default by_field fs inside c) m.0 m.1)
      (λ m. marked_same left m.0 (λ c. body_value_at initial by_entry gs inside c) (λ c. body_value_at default by_field fs inside c) m.1 (body_same fs gs h inside m.1))

  -- what a tag names
  abbrev then_entry : ℕ → List ℕ → Result PlanField ℤ → Read Data
  then_entry k c o = o >>= λ g. of_id g.item c >>= λ v. Ok (alt k v.0, v.1)

  abbrev then_field : ℕ → List ℕ → Result Field ℤ → Read Data
  then_field k c o = o >>= λ f. of_type f.ty c >>= λ v. Ok (alt k v.0, v.1)

  named_same : (fs : List Field) (gs : List PlanField) → AreEntries fs gs → (j k : ℕ) (c : List ℕ) → then_entry k c (ok_field (slice_get gs j)) ≡ then_field k c (ok_field (slice_get fs j))
  named_same [] [] h j k c = refl
  named_same [] (g ∷ gs) h j k c = elim h [ ]
  named_same (f ∷ fs) [] h j k c = elim h [ ]
  named_same (f ∷ fs) (g ∷ gs) h zero k c = ap (λ r. r >>= λ v. Ok (alt k v.0, v.1)) (parts g.item f.ty h.0.0 c)
  named_same (f ∷ fs) (g ∷ gs) h (suc j) k c = named_same fs gs h.1 j k c

  tagged_same : (fs : List Field) (gs : List PlanField) → AreEntries fs gs → (inside : Bool) (b : List ℕ) → tagged_at by_entry gs inside b ≡ tagged_at by_field fs inside b
  unfolding tagged_at
  tagged_same fs gs h inside b =
      then_same (tag_at inside b) (λ k. then_entry k.0 k.1 (ok_field (slice_get gs k.0))) (λ k. then_field k.0 k.1 (ok_field (slice_get fs k.0))) (λ k. named_same fs gs h k.0 k.0 k.1)

  union_same : (p : Profile) (left nullable : Bool) (fs : List Field) (gs : List PlanField) → AreEntries fs gs → (inside : Bool) (b : List ℕ)
      → union_at p left nullable by_entry gs inside b ≡ union_at p left nullable by_field fs inside b
  unfolding union_at
  union_same p left nullable fs gs h inside b =
      then_same (marker_at p nullable inside b) (λ m. marked_at left (λ c. tagged_at by_entry gs inside c) m.0 m.1) (λ m. marked_at left (λ c. tagged_at by_field fs inside c) m.0 m.1)
      (λ m. marked_same left m.0 (λ c. tagged_at by_entry gs inside c) (λ c. tagged_at by_field fs inside c) m.1 (tagged_same fs gs h inside m.1))

-- one level
module _ (p : Profile) (left : Bool) (types : List AidlType) (entries : List PlanField) (initial : PlanField → Data) (default : Field → Data)
    (defaults : (f : Field) (g : PlanField) → IsEntryOf types f g → initial g ≡ default f)
    (of_id : PlanId → Bool → List ℕ → Read Data) (of_type : AidlType → Bool → List ℕ → Read Data)
    (parts : (id : PlanId) (t : AidlType) → StandsFor types id t → (j : Bool) (b : List ℕ) → of_id id j b ≡ of_type t j b) (inside : Bool) (b : List ℕ) where
  abbrev by_item : PlanItem → Read Data
  by_item i = item_at p left initial of_id entries i inside b

  one_same : (nullable : Bool) (f : Form) (i : PlanItem) → IsOneItem types entries nullable f i → by_item i ≡ one_at p left default of_type nullable f inside b
  one_same nullable form.truth i h = ap by_item h
  one_same nullable form.byte i h = ap by_item h
  one_same nullable form.char i h = ap by_item h
  one_same nullable form.int i h = ap by_item h
  one_same nullable form.long i h = ap by_item h
  one_same nullable form.text i h = ap by_item h
  one_same nullable (form.parcelable fs) i h =
      ap by_item h.1
      ∙ record_same types initial default defaults (λ u c. of_id u true c) (λ u c. of_type u true c) (λ u v k c. parts u v k true c) p left nullable fs (take (length fs) (drop h.0 entries)) h.2 inside b
  one_same nullable (form.union fs) i h =
      ap by_item h.1
      ∙ union_same types initial default defaults (λ u c. of_id u inside c) (λ u c. of_type u inside c) (λ u v k c. parts u v k inside c) p left nullable fs (take (length fs) (drop h.0 entries)) h.2 inside b
  one_same nullable form.nothing i h = elim h [ ]

  many_same : (nullable raw : Bool) (u : AidlType) (i : PlanItem) → MatchBool raw (i ≡ Raw nullable) ((e : PlanId) × (i ≡ Seq nullable e) × StandsFor types e u)
      → by_item i ≡ array_at p left raw nullable (λ c. of_type u inside c) inside b
  many_same nullable true u i h = ap by_item h ∙ raw_array_same p left nullable inside (λ c. Err bad_value) (λ c. of_type u inside c) b
  many_same nullable false u i h = ap by_item h.1 ∙ array_same p left nullable inside (λ c. of_id h.0 inside c) (λ c. of_type u inside c) (λ c. parts h.0 u h.2 inside c) b

  item_same : (S : List Decl) (t : AidlType) (i : PlanItem) → IsItemOf S types entries t i
      → by_item i ≡ (if is_one t.shape then one_at p left default of_type t.nullable (form_of S t.base) inside b else array_at p left (is_raw S t) t.nullable (λ c. of_type (elem S t) inside c) inside b)
  item_same S t i h = by_shape (is_one t.shape) h
    where
      by_shape : (one : Bool) → MatchBool one (IsOneItem types entries t.nullable (form_of S t.base) i) (IsManyItem S types t i)
          → by_item i ≡ (if one then one_at p left default of_type t.nullable (form_of S t.base) inside b else array_at p left (is_raw S t) t.nullable (λ c. of_type (elem S t) inside c) inside b)
      by_shape true k = one_same t.nullable (form_of S t.base) i k
      by_shape false k = many_same t.nullable (is_raw S t) (elem S t) i k

module _ (S : List Decl) (extra types : List AidlType) (P : Plans) (stand : StandFor S extra types P) (p : Profile) where
  pub reads_same : (d : ℕ) (id : PlanId) (t : AidlType) → StandsFor types id t → (inside : Bool) (b : List ℕ) → plan_read p P d id inside b ≡ read_of p S d t inside b
  unfolding plan_read read_of
  reads_same zero id t at inside b =
      let i = matched (λ u j. IsItemOf S types P.fields u j) types P.items id.0 t stand.items at in
      ap (λ o. item_or_none_at p false (λ g. initial_by_plan P g) (λ u j c. Err bad_value) P.fields o inside b) i.1
      ∙ item_same p false types P.fields (λ g. initial_by_plan P g) (λ f. initial_in S f) (λ f g h. initial_is S extra types P stand f g h)
      (λ u j c. Err bad_value) (λ u j c. Err bad_value) (λ u v h j c. refl) inside b S t i.0 i.2
  reads_same (suc d) id t at inside b =
      let i = matched (λ u j. IsItemOf S types P.fields u j) types P.items id.0 t stand.items at in
      ap (λ o. item_or_none_at p true (λ g. initial_by_plan P g) (λ u j c. plan_read p P d u j c) P.fields o inside b) i.1
      ∙ item_same p true types P.fields (λ g. initial_by_plan P g) (λ f. initial_in S f) (λ f g h. initial_is S extra types P stand f g h)
      (λ u j c. plan_read p P d u j c) (λ u j c. read_of p S d u j c) (λ u v h j c. reads_same d u v h j c) inside b S t i.0 i.2
