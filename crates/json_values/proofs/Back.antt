-- What a value is written as reads as the value.
use Rattle.std.proofs.Common.{◌≡◌, ℕ, zero, suc, ◌≤◌, ℤ, pos, negsuc, Bool, true, false, List, [], ◌∷◌, Option, Some, None, slice_get, Ok, refl, sym, ap, ◌∙◌, subst, arith, true≢false, zero-add}
use Rattle.std.proofs.Math.Nat.{le-max_left, le-max_right}
use Rattle.std.proofs.lemmas.Str.{chars-encodes}
use Rattle.serde_json.specs.Data as json
use Rattle.serde_json.specs.Find.{as_integer, of_integer, get_member}
use Rattle.serde_json.proofs.Views.{get_member-put, get_member-put_other}
use Rattle.aidl_schema.specs.declared.schema.Decl.{Decl}
use Rattle.aidl_schema.specs.declared.schema.Enumerator.{Enumerator}
use Rattle.aidl_schema.specs.declared.schema.Field.{Field}
use Rattle.aidl_schema.specs.declared.schema.AidlType.{AidlType}
use Rattle.aidl_schema.specs.Constants.{in_range}
use Rattle.aidl_schema.specs.Holds.{AllHold, AreApart}
use Rattle.aidl_schema.specs.Types.{Form, form_of, is_one, elem}
use Rattle.aidl_schema.specs.Types as form
use Rattle.aidl_base.proofs.lemmas.Tests.{and_false}
use Rattle.aidl_values.specs.Data.{Data, null, truth, number, text, seq, rec, alt, Items, none, item, depth_of, greatest}
use Rattle.aidl_values.specs.HasType.{HasType, HaveType, FieldsHaveType}
use Rattle.json_values.specs.FromJson.{from_json_of, from_by, is_null, one_from, items_from, fields_from, unknown_in, default_from, alternative_from}
use Rattle.json_writing.specs.Json.{json_of, json_items, json_members, json_number, json_alternative}
use Rattle.json_writing.specs.Named.{bytes_of, enumerators_of, fields_in}
use Rattle.json_values.specs.Refusal.{Answer}
use Rattle.json_values.proofs.Names.{among_back, among_there, name_of_field, names_differ, later_fields, alternative_back, among_fields, known_put, fields_apart}
use Rattle.json_values.proofs.Parts.{from_json_of-by}
use Rattle.json_values.specs.Scalars.{number_from, whole_from}
use Rattle.json_values.proofs.lemmas.Names.{enumerators_apart}

as_integer-of_integer : (n : ℤ) → as_integer (of_integer n) ≡ Some n
as_integer-of_integer (pos n) = refl
as_integer-of_integer (negsuc n) = refl

whole_back : (f : Form) (n : ℤ) → in_range f n ≡ true → whole_from f (as_integer (of_integer n)) ≡ Ok (number n)
whole_back f n e = rw (as_integer-of_integer n, e) refl

module _ (left : Bool) (default : Field → Answer Data) (read : AidlType → json.Data → Answer Data) where
  one_number : (es : Option (List Enumerator)) (f : Form) (n : ℤ) (j : json.Data) → in_range f n ≡ true → one_from left default read es f j ≡ number_from es f j
  one_number es form.byte n j e = refl
  one_number es form.char n j e = refl
  one_number es form.int n j e = refl
  one_number es form.long n j e = refl
  one_number es form.truth n j e = absurd (true≢false (sym e))
  one_number es form.text n j e = absurd (true≢false (sym e))
  one_number es (form.parcelable fs) n j e = absurd (true≢false (sym e))
  one_number es (form.union fs) n j e = absurd (true≢false (sym e))
  one_number es form.nothing n j e = absurd (true≢false (sym e))

  -- one value that is no sequence and not null
  one_back : (S : List Decl) (t : AidlType) (j : json.Data) (v : Data) → is_null j ≡ false → is_one t.shape ≡ true
      → one_from left default read (enumerators_of S t.base) (form_of S t.base) j ≡ Ok v → from_by S left default read t j ≡ Ok v
  one_back S t j v there one is = rw (there, and_false t.nullable, one) is

module _ (S : List Decl) (hold : AllHold S) where
  number_back : (t : AidlType) (n : ℤ) (o : Option (List Enumerator)) → enumerators_of S t.base ≡ o → in_range (form_of S t.base) n ≡ true
      → (is_null (json_number o n) ≡ false) × (number_from o (form_of S t.base) (json_number o n) ≡ Ok (number n))
  number_back t n None is ranged = (refl, whole_back (form_of S t.base) n ranged)
  number_back t n (Some es) is ranged =
      (among_there n es, among_back (form_of S t.base) n es (enumerators_apart S hold t.base es is) ranged (whole_back (form_of S t.base) n ranged))

  -- each key of an object that was written names a field
  known : (all fs : List Field) (vs : Items) → ((k : ℕ) (f : Field) → slice_get fs k ≡ Some f → (n : ℕ) × (slice_get all n ≡ Some f)) → unknown_in all (json_members S fs vs) ≡ None
  known all [] vs there = refl
  known all (f ∷ fs) none there = refl
  known all (f ∷ fs) (item v vs) there =
      let at = there zero f refl in
      known_put all (bytes_of f.name) (json_of S f.ty v) (json_members S fs vs) (among_fields all at.0 f at.1) (known all fs vs (λ k g e. there (suc k) g e))

  record_back : (d : ℕ) (t : AidlType) (fs : List Field) (vs : Items) (ms : json.Members) → is_one t.shape ≡ true → form_of S t.base ≡ form.parcelable fs → unknown_in fs ms ≡ None
      → fields_from (λ f. default_from d S f) (λ u j. from_json_of S d u j) fs (λ key. get_member key ms) ≡ Ok vs → from_json_of S (suc d) t (json.object ms) ≡ Ok (rec vs)
  record_back d t fs vs ms one is none_unknown fields =
      sym (from_json_of-by S (suc d) t (json.object ms))
      ∙ one_back true (λ f. default_from d S f) (λ u j. from_json_of S d u j) S t (json.object ms) (rec vs) refl one (rw (is, none_unknown, fields) refl)

  union_back : (d : ℕ) (t : AidlType) (fs : List Field) (k : ℕ) (f : Field) (v : Data) (j : json.Data) → is_one t.shape ≡ true → form_of S t.base ≡ form.union fs
      → alternative_from (λ u i. from_json_of S d u i) 0 fs (bytes_of f.name) j ≡ Ok (alt k v) → from_json_of S (suc d) t (json.object (json.member (bytes_of f.name) j json.no_members)) ≡ Ok (alt k v)
  union_back d t fs k f v j one is found =
      let written = json.object (json.member (bytes_of f.name) j json.no_members) in
      sym (from_json_of-by S (suc d) t written)
      ∙ one_back true (λ g. default_from d S g) (λ u i. from_json_of S d u i) S t written (alt k v) refl one (rw is found)

  mutual
    pub back : (d : ℕ) (t : AidlType) (v : Data) → HasType S t v → depth_of v ≤ d → from_json_of S d t (json_of S t v) ≡ Ok v
    back d t null h deep = sym (from_json_of-by S d t json.null) ∙ rw h refl
    back d t (truth x) h deep = sym (from_json_of-by S d t (json.boolean x)) ∙ one_back _ _ _ S t (json.boolean x) (truth x) refl h.0 (rw (h.1) refl)
    back d t (number n) h deep =
        let whole = number_back t n (enumerators_of S t.base) refl h.1 in
        sym (from_json_of-by S d t (json_number (enumerators_of S t.base) n))
        ∙ one_back _ _ _ S t (json_number (enumerators_of S t.base) n) (number n) whole.0 h.0
        (one_number _ _ _ (enumerators_of S t.base) (form_of S t.base) n (json_number (enumerators_of S t.base) n) h.1 ∙ whole.1)
    back d t (text x) h deep =
        sym (from_json_of-by S d t (json_of S t (text x))) ∙ one_back _ _ _ S t (json_of S t (text x)) (text x) refl h.0 (rw (h.1) (ap (λ y. Ok (text y)) (chars-encodes x h.2)))
    back zero t (seq vs) h deep = absurd (omega arith)
    back zero t (rec vs) h deep = absurd (omega arith)
    back zero t (alt k v) h deep = absurd (omega arith)
    back (suc d) t (seq vs) h deep =
        let there = and_false t.nullable in
        sym (from_json_of-by S (suc d) t (json_of S t (seq vs))) ∙ rw (there, h.0) (rw (back_items d (elem S t) vs 0 h.1 (omega arith)) refl)
    back (suc d) t (rec vs) h deep =
        let fs = h.1 in
        let same : fields_in (form_of S t.base) ≡ fs = ap fields_in h.2 in
        let apart = subst (λ gs. AreApart name_of_field gs) same (fields_apart S hold t.base) in
        let ms = json_members S fs vs in
        ap (λ gs. from_json_of S (suc d) t (json.object (json_members S gs vs))) same
        ∙ record_back d t fs vs ms h.0 h.2 (known fs fs vs (λ k f e. (k, e))) (back_fields d fs vs (λ key. get_member key ms) h.3 (omega arith) apart (λ k f e. refl))
    back (suc d) t (alt k v) h deep =
        let fs = h.1 in
        let f = h.3 in
        let same : fields_in (form_of S t.base) ≡ fs = ap fields_in h.2 in
        let apart = subst (λ gs. AreApart name_of_field gs) same (fields_apart S hold t.base) in
        ap (λ gs. from_json_of S (suc d) t (json_alternative (slice_get gs k) (λ u. json_of S u v))) same
        ∙ ap (λ o. from_json_of S (suc d) t (json_alternative o (λ u. json_of S u v))) h.4
        ∙ union_back d t fs k f v (json_of S f.ty v) h.0 h.2
        (alternative_back (λ u i. from_json_of S d u i) (json_of S f.ty v) v 0 k fs f h.4 apart (back d f.ty v h.5 (omega arith)) ∙ ap (λ m. Ok (alt m v)) (zero-add k))

    back_items : (d : ℕ) (t : AidlType) (vs : Items) (k : ℕ) → HaveType S t vs → greatest vs ≤ d → items_from (λ j. from_json_of S d t j) k (json_items S t vs) ≡ Ok vs
    back_items d t none k h deep = refl
    back_items d t (item v vs) k h deep =
        let here = le-max_left (depth_of v) (greatest vs) in
        let later = le-max_right (depth_of v) (greatest vs) in
        rw (back d t v h.0 (omega arith), back_items d t vs (suc k) h.1 (omega arith)) refl

    -- where each name finds what its field was written as
    back_fields : (d : ℕ) (fs : List Field) (vs : Items) (found : List ℕ → Option json.Data) → FieldsHaveType S fs vs → greatest vs ≤ d → AreApart name_of_field fs
        → ((k : ℕ) (f : Field) → slice_get fs k ≡ Some f → found (bytes_of f.name) ≡ get_member (bytes_of f.name) (json_members S fs vs))
        → fields_from (λ f. default_from d S f) (λ u j. from_json_of S d u j) fs found ≡ Ok vs
    back_fields d [] none found h deep apart finds = refl
    back_fields d [] (item v vs) found h deep apart finds = elim h [ ]
    back_fields d (f ∷ fs) none found h deep apart finds = elim h [ ]
    back_fields d (f ∷ fs) (item v vs) found h deep apart finds =
        let here = le-max_left (depth_of v) (greatest vs) in
        let later = le-max_right (depth_of v) (greatest vs) in
        let j = json_of S f.ty v in
        let ms = json_members S fs vs in
        let first : found (bytes_of f.name) ≡ Some j = finds zero f refl ∙ get_member-put (bytes_of f.name) j ms in
        let others = back_fields d fs vs found h.1 (omega arith) (later_fields f fs apart)
        (λ k g e. finds (suc k) g e ∙ get_member-put_other (bytes_of g.name) (bytes_of f.name) j ms (names_differ f fs apart k g e)) in
        rw (first, back d f.ty v h.0 (omega arith), others) refl
