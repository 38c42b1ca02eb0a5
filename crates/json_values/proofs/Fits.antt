-- What a JSON value stands for has the type, and at most as many levels as there are.
use Rattle.std.proofs.Common.{◌≡◌, ℕ, zero, suc, ◌+◌, ◌≤◌, ℤ, Bool, true, false, ◌&&◌, nat_le, List, [], ◌∷◌, Option, Some, None, slice_get, Ok, Err, Result, IfOk, decimal, Ordering, Less, Equal, Greater, nat_cmp, refl, sym, subst, arith, true≢false}
use Rattle.std.specs.Prelude.{⊤, if◌then◌else◌}
use Rattle.std.specs.Cmp.Lexicographic.{slice_cmp}
use Rattle.std.specs.List.{list_all}
use Rattle.std.specs.Ordering.{match_ordering}
use Rattle.std.proofs.lemmas.Bool.Decides.{nat_tests}
use Rattle.serde_json.specs.Data as json
use Rattle.serde_json.specs.Find.{as_integer, get_member}
use Rattle.aidl_schema.specs.declared.schema.Decl.{Decl}
use Rattle.aidl_schema.specs.declared.schema.Enumerator.{Enumerator}
use Rattle.aidl_schema.specs.declared.schema.Field.{Field}
use Rattle.aidl_schema.specs.declared.schema.Kind.{Kind}
use Rattle.aidl_schema.specs.declared.schema.Kind.TheVariants.{Interface, Parcelable, Union, Enum}
use Rattle.aidl_schema.specs.declared.schema.Backing.TheVariants as backing
use Rattle.aidl_schema.specs.declared.schema.Base.{Base}
use Rattle.aidl_schema.specs.declared.schema.Base.TheVariants as base
use Rattle.aidl_schema.specs.declared.schema.AidlType.{AidlType}
use Rattle.aidl_schema.specs.Constants.{in_range}
use Rattle.aidl_schema.specs.Same.{same_text}
use Rattle.aidl_schema.specs.Types.{Form, form_of, form_of_decl, form_of_kind, is_one, elem}
use Rattle.aidl_schema.specs.Types as form
use Rattle.aidl_schema.specs.Holds.{AllHold}
use Rattle.aidl_schema.specs.Valid.{is_enum_whole}
use Rattle.aidl_base.proofs.lemmas.Tests.{both}
use Rattle.aidl_values.specs.Data.{Data, null, number, seq, rec, alt, Items, item, depth_of, greatest}
use Rattle.aidl_values.specs.Fits.{Fits}
use Rattle.aidl_values.specs.HasType.{HasType, HaveType, FieldsHaveType}
use Rattle.aidl_values.specs.Sound.{HasDefault, HaveDefaults, IsSound, initial_in}
use Rattle.aidl_values.specs.View.{view}
use Rattle.aidl_values.specs.declared.value.Value.{Value}
use Rattle.json_values.specs.FromJson as from
use Rattle.json_values.specs.FromJson.{from_json_of}
use Rattle.json_values.specs.Scalars as scalar
use Rattle.json_values.specs.declared.fault.Fault.{Fault}
use Rattle.json_values.specs.declared.fault.Reason.{Reason}
use Rattle.json_writing.specs.Named.{bytes_of, enumerators_of, enumerators_of_decl, enumerators_of_kind, fields_in}
use Rattle.json_values.specs.Refusal.{Answer, ◌>>=◌, refuse, too_deep, out_of_range, within, escaped}
use Rattle.json_values.proofs.Texts.{HasTexts, HaveTexts, MembersHaveTexts}
use Rattle.json_writing.proofs.lemmas.Whole.{of_base}
use Rattle.json_values.specs.steps.Gives.{Gives}

abbrev pub FitsAs : List Decl → AidlType → ℕ → Answer Data → Type 0
FitsAs S t d (Ok v) = HasType S t v × (depth_of v ≤ d)
FitsAs S t d (Err r) = Unit {0}

abbrev AllFit : List Decl → AidlType → ℕ → Answer Items → Type 0
AllFit S t d (Ok vs) = HaveType S t vs × (greatest vs ≤ d)
AllFit S t d (Err r) = Unit {0}

abbrev FieldsFit : List Decl → List Field → ℕ → Answer Items → Type 0
FieldsFit S fs d (Ok vs) = FieldsHaveType S fs vs × (greatest vs ≤ d)
FieldsFit S fs d (Err r) = Unit {0}

-- each enumerator is in the range
abbrev AreWithin : Form → Option (List Enumerator) → Type 0
AreWithin f None = Unit {0}
AreWithin f (Some es) = list_all (λ e. in_range f e.value) es ≡ true

abbrev pub OptionHasTexts : Option json.Data → Type 0
OptionHasTexts None = Unit {0}
OptionHasTexts (Some j) = HasTexts j

found_either : (o : Ordering) (a b : Option json.Data) → OptionHasTexts a → OptionHasTexts b → OptionHasTexts (match_ordering o a b a)
found_either Less a b x y = x
found_either Equal a b x y = y
found_either Greater a b x y = x

pub found_texts : (key : List ℕ) (ms : json.Members) → MembersHaveTexts ms → OptionHasTexts (get_member key ms)
found_texts key json.no_members texts = tt
found_texts key (json.member l j ms) texts = found_either (slice_cmp nat_cmp key l) (get_member key ms) (Some j) (found_texts key ms texts.1) texts.0

module _ (S : List Decl) (t : AidlType) (d : ℕ) where
  module _ (one : is_one t.shape ≡ true) where
    whole_case : (f : Form) (n : ℤ) (b : Bool) → form_of S t.base ≡ f → in_range f n ≡ b → FitsAs S t d (if b then Ok (number n) else refuse out_of_range)
    whole_case f n true is e = ((one, subst (λ g. in_range g n ≡ true) (sym is) e), omega arith)
    whole_case f n false is e = tt

    whole_fits : (f : Form) (o : Option ℤ) → form_of S t.base ≡ f → FitsAs S t d (scalar.whole_from f o)
    whole_fits f None is = tt
    whole_fits f (Some n) is = whole_case f n (in_range f n) is refl

    enumerator_case : (f : Form) (e : Enumerator) (rest : Answer Data) (b : Bool) → form_of S t.base ≡ f → in_range f e.value ≡ true → FitsAs S t d rest
        → FitsAs S t d (if b then Ok (number e.value) else rest)
    enumerator_case f e rest true is here later = ((one, subst (λ g. in_range g e.value ≡ true) (sym is) here), omega arith)
    enumerator_case f e rest false is here later = later

    enumerator_fits : (f : Form) (es : List Enumerator) (s : List ℕ) → form_of S t.base ≡ f → list_all (λ e. in_range f e.value) es ≡ true → FitsAs S t d (scalar.enumerator_from es s)
    enumerator_fits f [] s is all = tt
    enumerator_fits f (e ∷ es) s is all =
        let two = both (in_range f e.value) (list_all (λ x. in_range f x.value) es) all in
        enumerator_case f e (scalar.enumerator_from es s) (same_text (bytes_of e.name) s) is two.0 (enumerator_fits f es s is two.1)

    name_fits : (f : Form) (es : Option (List Enumerator)) (s : List ℕ) → form_of S t.base ≡ f → AreWithin f es → FitsAs S t d (scalar.name_from es s)
    name_fits f None s is all = tt
    name_fits f (Some es) s is all = enumerator_fits f es s is all

    number_fits : (f : Form) (es : Option (List Enumerator)) (j : json.Data) → form_of S t.base ≡ f → AreWithin f es → FitsAs S t d (scalar.number_from es f j)
    number_fits f es json.null is all = tt
    number_fits f es (json.boolean b) is all = tt
    number_fits f es (json.number n) is all = whole_fits f (as_integer n) is
    number_fits f es (json.string s) is all = name_fits f es s is all
    number_fits f es (json.array js) is all = tt
    number_fits f es (json.object ms) is all = tt

    truth_fits : (j : json.Data) → form_of S t.base ≡ form.truth → FitsAs S t d (scalar.truth_from j)
    truth_fits json.null is = tt
    truth_fits (json.boolean b) is = ((one, is), omega arith)
    truth_fits (json.number n) is = tt
    truth_fits (json.string s) is = tt
    truth_fits (json.array js) is = tt
    truth_fits (json.object ms) is = tt

    text_fits : (j : json.Data) → HasTexts j → form_of S t.base ≡ form.text → FitsAs S t d (scalar.text_from j)
    text_fits json.null texts is = tt
    text_fits (json.boolean b) texts is = tt
    text_fits (json.number n) texts is = tt
    text_fits (json.string s) texts is = ((one, is, texts), omega arith)
    text_fits (json.array js) texts is = tt
    text_fits (json.object ms) texts is = tt

  -- parts have at most e levels
  module _ (left : Bool) (default : Field → Answer Data) (read : AidlType → json.Data → Answer Data) (e : ℕ) (deep : left ≡ true → suc e ≤ d)
      (reads : (u : AidlType) (j : json.Data) → HasTexts j → FitsAs S u e (read u j)) (defaults : (f : Field) → HasType S f.ty (initial_in S f) → FitsAs S f.ty e (default f)) where
    next_item : (u : AidlType) (p : List ℕ) (a : Answer Data) (b : Answer Items) → FitsAs S u e a → AllFit S u e b → AllFit S u e (within p a >>= (λ v. b >>= (λ vs. Ok (item v vs))))
    next_item u p (Ok v) (Ok vs) x y = ((x.0, y.0), omega (arith, x.1, y.1))
    next_item u p (Ok v) (Err r) x y = tt
    next_item u p (Err r) b x y = tt

    items_fit : (u : AidlType) (k : ℕ) (js : json.Items) → HaveTexts js → AllFit S u e (from.items_from (read u) k js)
    items_fit u k json.no_items texts = (tt, omega arith)
    items_fit u k (json.item j js) texts = next_item u (decimal k) (read u j) (from.items_from (read u) (suc k) js) (reads u j texts.0) (items_fit u (suc k) js texts.1)

    elements_fit : (a : Answer Items) → is_one t.shape ≡ false → left ≡ true → AllFit S (elem S t) e a → FitsAs S t d (a >>= (λ vs. Ok (seq vs)))
    elements_fit (Ok vs) many is x = let le = deep is in ((many, x.0), omega (arith, x.1))
    elements_fit (Err r) many is x = tt

    sequence_case : (l : Bool) (js : json.Items) → is_one t.shape ≡ false → left ≡ l → HaveTexts js → FitsAs S t d (if l then from.elements_from (read (elem S t)) js else refuse too_deep)
    sequence_case true js many is texts = elements_fit (from.items_from (read (elem S t)) 0 js) many is (items_fit (elem S t) 0 js texts)
    sequence_case false js many is texts = tt

    sequence_fits : (j : json.Data) → is_one t.shape ≡ false → HasTexts j → FitsAs S t d (from.sequence_from left (read (elem S t)) j)
    sequence_fits json.null many texts = tt
    sequence_fits (json.boolean b) many texts = tt
    sequence_fits (json.number n) many texts = tt
    sequence_fits (json.string s) many texts = tt
    sequence_fits (json.array js) many texts = sequence_case left js many refl texts
    sequence_fits (json.object ms) many texts = tt

    field_fits : (f : Field) (o : Option json.Data) → HasDefault S f → OptionHasTexts o → FitsAs S f.ty e (from.field_from default read f o)
    field_fits f None has texts = defaults f has.1
    field_fits f (Some j) has texts = reads f.ty j texts

    next_field : (f : Field) (fs : List Field) (p : List ℕ) (a : Answer Data) (b : Answer Items) → FitsAs S f.ty e a → FieldsFit S fs e b
        → FieldsFit S (f ∷ fs) e (within p a >>= (λ v. b >>= (λ vs. Ok (item v vs))))
    next_field f fs p (Ok v) (Ok vs) x y = ((x.0, y.0), omega (arith, x.1, y.1))
    next_field f fs p (Ok v) (Err r) x y = tt
    next_field f fs p (Err r) b x y = tt

    fields_fit : (fs : List Field) (ms : json.Members) → HaveDefaults S fs → MembersHaveTexts ms → FieldsFit S fs e (from.fields_from default read fs (λ key. get_member key ms))
    fields_fit [] ms have texts = (tt, omega arith)
    fields_fit (f ∷ fs) ms have texts =
        let name = bytes_of f.name in
        next_field f fs (escaped name) (from.field_from default read f (get_member name ms)) (from.fields_from default read fs (λ key. get_member key ms))
        (field_fits f (get_member name ms) have.0 (found_texts name ms texts)) (fields_fit fs ms have.1 texts)

    module _ (one : is_one t.shape ≡ true) where
      object_fits : (fs : List Field) (a : Answer ⊤) (b : Answer Items) → form_of S t.base ≡ form.parcelable fs → left ≡ true → FieldsFit S fs e b → FitsAs S t d (a >>= (λ known. b >>= (λ vs. Ok (rec vs))))
      object_fits fs (Ok k) (Ok vs) is some x = let le = deep some in ((one, fs, is, x.0), omega (arith, x.1))
      object_fits fs (Ok k) (Err r) is some x = tt
      object_fits fs (Err r) b is some x = tt

      record_case : (l : Bool) (fs : List Field) (ms : json.Members) → form_of S t.base ≡ form.parcelable fs → left ≡ l → HaveDefaults S fs → MembersHaveTexts ms
          → FitsAs S t d (if l then from.object_from default read fs ms else refuse too_deep)
      record_case true fs ms is some have texts = object_fits fs (from.known_from (from.unknown_in fs ms)) (from.fields_from default read fs (λ key. get_member key ms)) is some (fields_fit fs ms have texts)
      record_case false fs ms is some have texts = tt

      record_fits : (fs : List Field) (j : json.Data) → form_of S t.base ≡ form.parcelable fs → HaveDefaults S fs → HasTexts j → FitsAs S t d (from.record_from left default read fs j)
      record_fits fs json.null is have texts = tt
      record_fits fs (json.boolean b) is have texts = tt
      record_fits fs (json.number n) is have texts = tt
      record_fits fs (json.string s) is have texts = tt
      record_fits fs (json.array js) is have texts = tt
      record_fits fs (json.object ms) is have texts = record_case left fs ms is refl have texts

      module _ (all : List Field) (is : form_of S t.base ≡ form.union all) (some : left ≡ true) where
        chosen : (k : ℕ) (f : Field) (p : List ℕ) (a : Answer Data) → slice_get all k ≡ Some f → FitsAs S f.ty e a → FitsAs S t d (within p (a >>= (λ v. Ok (alt k v))))
        chosen k f p (Ok v) at x = let le = deep some in ((one, all, is, f, at, x.0), omega (arith, x.1))
        chosen k f p (Err r) at x = tt

        either : (b : Bool) (x y : Answer Data) → FitsAs S t d x → FitsAs S t d y → FitsAs S t d (if b then x else y)
        either true x y p q = p
        either false x y p q = q

        alternative_fits : (k : ℕ) (fs : List Field) (key : List ℕ) (j : json.Data) → ((i : ℕ) (f : Field) → slice_get fs i ≡ Some f → slice_get all (k + i) ≡ Some f) → HasTexts j
            → FitsAs S t d (from.alternative_from read k fs key j)
        alternative_fits k [] key j at texts = tt
        alternative_fits k (f ∷ fs) key j at texts =
            let here : slice_get all k ≡ Some f = let n : k + 0 ≡ k = omega arith in subst (λ m. slice_get all m ≡ Some f) n (at 0 f refl) in
            let later : (i : ℕ) (g : Field) → slice_get fs i ≡ Some g → slice_get all (suc k + i) ≡ Some g =
            λ i g found. let n : k + suc i ≡ suc k + i = omega arith in subst (λ m. slice_get all m ≡ Some g) n (at (suc i) g found) in
            either (from.has_name key f) (within (escaped key) (read f.ty j >>= (λ v. Ok (alt k v)))) (from.alternative_from read (suc k) fs key j)
            (chosen k f (escaped key) (read f.ty j) here (reads f.ty j texts)) (alternative_fits (suc k) fs key j later texts)

      union_case : (l : Bool) (fs : List Field) (key : List ℕ) (j : json.Data) → form_of S t.base ≡ form.union fs → left ≡ l → HasTexts j
          → FitsAs S t d (if l then from.alternative_from read 0 fs key j else refuse too_deep)
      union_case true fs key j is some texts =
          alternative_fits fs is some 0 fs key j (λ i f found. let n : i ≡ 0 + i = omega arith in subst (λ m. slice_get fs m ≡ Some f) n found) texts
      union_case false fs key j is some texts = tt

      members_fit : (fs : List Field) (ms : json.Members) → form_of S t.base ≡ form.union fs → MembersHaveTexts ms → FitsAs S t d (from.union_of left read fs (from.only_member ms))
      members_fit fs json.no_members is texts = tt
      members_fit fs (json.member key j json.no_members) is texts = union_case left fs key j is refl texts.0
      members_fit fs (json.member key j (json.member l i ms)) is texts = tt

      union_fits : (fs : List Field) (j : json.Data) → form_of S t.base ≡ form.union fs → HasTexts j → FitsAs S t d (from.union_from left read fs j)
      union_fits fs json.null is texts = tt
      union_fits fs (json.boolean b) is texts = tt
      union_fits fs (json.number n) is texts = tt
      union_fits fs (json.string s) is texts = tt
      union_fits fs (json.array js) is texts = tt
      union_fits fs (json.object ms) is texts = members_fit fs ms is texts

      one_fits : (f : Form) (es : Option (List Enumerator)) (j : json.Data) → form_of S t.base ≡ f → AreWithin f es → HaveDefaults S (fields_in f) → HasTexts j
          → FitsAs S t d (from.one_from left default read es f j)
      one_fits form.truth es j is all have texts = truth_fits one j is
      one_fits form.text es j is all have texts = text_fits one j texts is
      one_fits form.byte es j is all have texts = number_fits one form.byte es j is all
      one_fits form.char es j is all have texts = number_fits one form.char es j is all
      one_fits form.int es j is all have texts = number_fits one form.int es j is all
      one_fits form.long es j is all have texts = number_fits one form.long es j is all
      one_fits (form.parcelable fs) es j is all have texts = record_fits fs j is have texts
      one_fits (form.union fs) es j is all have texts = union_fits fs j is texts
      one_fits form.nothing es j is all have texts = tt

    shape_case : (b : Bool) (j : json.Data) → is_one t.shape ≡ b → AreWithin (form_of S t.base) (enumerators_of S t.base) → HaveDefaults S (fields_in (form_of S t.base)) → HasTexts j
        → FitsAs S t d (if b then from.one_from left default read (enumerators_of S t.base) (form_of S t.base) j else from.sequence_from left (read (elem S t)) j)
    shape_case true j one all have texts = one_fits one (form_of S t.base) (enumerators_of S t.base) j refl all have texts
    shape_case false j many all have texts = sequence_fits j many texts

    null_case : (b : Bool) (j : json.Data) (rest : Answer Data) → (t.nullable && from.is_null j) ≡ b → FitsAs S t d rest → FitsAs S t d (if b then Ok null else rest)
    null_case true j rest is x = ((both t.nullable (from.is_null j) is).0, omega arith)
    null_case false j rest is x = x

    pub by_fits : (j : json.Data) → AreWithin (form_of S t.base) (enumerators_of S t.base) → HaveDefaults S (fields_in (form_of S t.base)) → HasTexts j → FitsAs S t d (from.from_by S left default read t j)
    by_fits j all have texts =
        null_case (t.nullable && from.is_null j) j (if is_one t.shape then from.one_from left default read (enumerators_of S t.base) (form_of S t.base) j else from.sequence_from left (read (elem S t)) j) refl
        (shape_case (is_one t.shape) j refl all have texts)

within_kind : (k : Kind) → is_enum_whole k ≡ true → AreWithin (form_of_kind k) (enumerators_of_kind k)
within_kind (Interface ms) e = tt
within_kind (Parcelable fs) e = tt
within_kind (Union fs) e = tt
within_kind (Enum backing.Byte []) e = refl
within_kind (Enum backing.Int []) e = refl
within_kind (Enum backing.Long []) e = refl
within_kind (Enum backing.Byte (x ∷ es)) e = e
within_kind (Enum backing.Int (x ∷ es)) e = e
within_kind (Enum backing.Long (x ∷ es)) e = e

module _ (S : List Decl) (hold : AllHold S) (sound : IsSound S) where
  within_decl : (n : ℕ) (o : Option Decl) → slice_get S n ≡ o → AreWithin (form_of_decl o) (enumerators_of_decl o)
  within_decl n None at = tt
  within_decl n (Some d) at = within_kind d.kind (hold n d at).enum

  within_base : (b : Base) → AreWithin (form_of S b) (enumerators_of S b)
  within_base base.Boolean = tt
  within_base base.Byte = tt
  within_base base.Char = tt
  within_base base.Int = tt
  within_base base.Long = tt
  within_base base.Text = tt
  within_base (base.Named n) = within_decl n (slice_get S n) refl

  have_base : (b : Base) → HaveDefaults S (fields_in (form_of S b))
  have_base b = of_base S (λ fs. HaveDefaults S fs) tt sound.defaults b

  default_case : (d : ℕ) (f : Field) (b : Bool) → nat_le (depth_of (initial_in S f)) d ≡ b → HasType S f.ty (initial_in S f) → FitsAs S f.ty d (if b then Ok (initial_in S f) else refuse too_deep)
  default_case d f true e has = let le : depth_of (initial_in S f) ≤ d = grind (arith, nat_tests) in (has, le)
  default_case d f false e has = tt

  -- The value that a JSON value stands for has the type, and at most d levels.
  pub from_json_fits : (d : ℕ) (t : AidlType) (j : json.Data) → HasTexts j → FitsAs S t d (from_json_of S d t j)
  unfolding from_json_of
  from_json_fits zero t j texts =
      by_fits S t zero false (λ f. refuse too_deep) (λ u k. refuse too_deep) zero (λ e. absurd (true≢false (sym e))) (λ u k x. tt) (λ f x. tt) j (within_base t.base) (have_base t.base) texts
  from_json_fits (suc d) t j texts =
      by_fits S t (suc d) true (λ f. from.default_from d S f) (λ u k. from_json_of S d u k) d (λ e. omega arith) (λ u k x. from_json_fits d u k x)
      (λ f x. default_case d f (nat_le (depth_of (initial_in S f)) d) refl x) j (within_base t.base) (have_base t.base) texts

-- of what was given
pub given_fits : (S : List Decl) → AllHold S → IsSound S → (t : AidlType) (j : json.Data) → HasTexts j → (result : Result Value (Fault Reason)) → Gives view result (from_json_of S 64 t j)
    → IfOk result (λ v. Fits S t (view v))
given_fits S hold sound t j texts (Ok v) gives = let fits = subst (FitsAs S t 64) gives (from_json_fits S hold sound 64 t j texts) in record { typed = fits.0; deep = fits.1 }
given_fits S hold sound t j texts (Err e) gives = tt
