-- The field of a name: where it stands, and what is seen of it.
use Rattle.std.proofs.Common.{◌≡◌, ℕ, zero, suc, ◌+◌, ◌<◌, ◌≤◌, Bool, true, false, cond, List, [], ◌∷◌, length, Option, Some, None, IfSome, slice_get, refl, sym, ap, ◌∙◌, arith}
use Rattle.std.specs.List.{position_from}
use Rattle.std.specs.Str.{encode_utf8_all}
use Rattle.std.proofs.lemmas.Iterator.Adapters.{position_from-zero}
use Rattle.aidl_base.proofs.lemmas.Lists.{position_within}
use Rattle.aidl_schema.specs.declared.schema.Base.{Base}
use Rattle.aidl_schema.specs.declared.schema.Base.TheVariants as base
use Rattle.aidl_schema.specs.declared.schema.Backing.TheVariants as backing
use Rattle.aidl_schema.specs.declared.schema.Decl.{Decl}
use Rattle.aidl_schema.specs.declared.schema.Field.{Field}
use Rattle.aidl_schema.specs.declared.schema.Kind.{Kind}
use Rattle.aidl_schema.specs.declared.schema.Kind.TheVariants.{Interface, Parcelable, Union, Enum}
use Rattle.aidl_schema.specs.Containment.{fields_of}
use Rattle.aidl_schema.specs.Find.{fields_of_decl}
use Rattle.aidl_schema.specs.Same.{same_text}
use Rattle.aidl_schema.specs.Types.{form_of, form_of_decl, form_of_kind}
use Rattle.aidl_values.specs.Data.{Data}
use Rattle.aidl_values.specs.View.{items_of}
use Rattle.wire_model.specs.Spell.{parcelable_fields, union_fields}
use Rattle.wire_model.specs.View as meant
use Rattle.wire_model.proofs.lemmas.NamedTexts.{by_bytes, same_position, turned}
use Rattle.value_views.specs.Named.{field_named}
use Rattle.value_views.specs.steps.Places.{fields_of_base, place_named}

-- what a name in UTF-8 finds is what the name finds
pub by_text : (fs : List Field) (x q : List ℕ) (o : Option ℕ) → q ≡ encode_utf8_all x → o ≡ field_named fs q → o ≡ place_named x fs
by_text fs x q o is e =
    e ∙ ap (field_named fs) is
    ∙ same_position (λ f. same_text (encode_utf8_all f.name.0) (encode_utf8_all x)) (λ f. same_text x f.name.0) (λ f. by_bytes x f.name.0) fs

-- what is found stands within the fields
pub within : (x : List ℕ) (fs : List Field) (o : Option ℕ) → o ≡ place_named x fs → IfSome o (λ i. i < length fs)
within x fs None e = tt
within x fs (Some i) e = position_within (λ f. same_text x f.name.0) fs i (sym e)

-- Among the fields of a parcelable, and of a union

parcelable_at : (S : List Decl) (b : Base) (f : Field) (fs : List Field) → parcelable_fields (form_of S b) ≡ f ∷ fs → fields_of_base S b ≡ parcelable_fields (form_of S b)
parcelable_at S base.Boolean f fs e = cc
parcelable_at S base.Byte f fs e = cc
parcelable_at S base.Char f fs e = cc
parcelable_at S base.Int f fs e = cc
parcelable_at S base.Long f fs e = cc
parcelable_at S base.Text f fs e = cc
parcelable_at S (base.Named n) f fs e = by_decl (slice_get S n) e
  where
    by_kind : (k : Kind) → parcelable_fields (form_of_kind k) ≡ f ∷ fs → fields_of k ≡ parcelable_fields (form_of_kind k)
    by_kind (Interface ms) e = cc
    by_kind (Parcelable gs) e = refl
    by_kind (Union gs) e = cc
    by_kind (Enum backing.Byte es) e = cc
    by_kind (Enum backing.Int es) e = cc
    by_kind (Enum backing.Long es) e = cc

    by_decl : (o : Option Decl) → parcelable_fields (form_of_decl o) ≡ f ∷ fs → fields_of_decl o ≡ parcelable_fields (form_of_decl o)
    by_decl None e = cc
    by_decl (Some d) e = by_kind d.kind e

union_at : (S : List Decl) (b : Base) (f : Field) (fs : List Field) → union_fields (form_of S b) ≡ f ∷ fs → fields_of_base S b ≡ union_fields (form_of S b)
union_at S base.Boolean f fs e = cc
union_at S base.Byte f fs e = cc
union_at S base.Char f fs e = cc
union_at S base.Int f fs e = cc
union_at S base.Long f fs e = cc
union_at S base.Text f fs e = cc
union_at S (base.Named n) f fs e = by_decl (slice_get S n) e
  where
    by_kind : (k : Kind) → union_fields (form_of_kind k) ≡ f ∷ fs → fields_of k ≡ union_fields (form_of_kind k)
    by_kind (Interface ms) e = cc
    by_kind (Parcelable gs) e = cc
    by_kind (Union gs) e = refl
    by_kind (Enum backing.Byte es) e = cc
    by_kind (Enum backing.Int es) e = cc
    by_kind (Enum backing.Long es) e = cc

    by_decl : (o : Option Decl) → union_fields (form_of_decl o) ≡ f ∷ fs → fields_of_decl o ≡ union_fields (form_of_decl o)
    by_decl None e = cc
    by_decl (Some d) e = by_kind d.kind e

-- fields, of which there are none or those of a base
module _ (x : List ℕ) (all some : List Field) (same : (f : Field) (fs : List Field) → some ≡ f ∷ fs → all ≡ some) where
  none_found : (fs : List Field) → fs ≡ some → length fs ≡ 0 → None ≡ place_named x some
  none_found [] is e = ap (place_named x) is
  none_found (f ∷ fs) is e = absurd (omega arith)

  some_found : (fs : List Field) (o : Option ℕ) → fs ≡ some → (length fs ≡ 0 → ⊥) → o ≡ place_named x all → o ≡ place_named x some
  some_found [] o is more e = absurd (more refl)
  some_found (f ∷ fs) o is more e = e ∙ ap (place_named x) (same f fs (sym is))

pub no_parcelable : (S : List Decl) (b : Base) (x : List ℕ) (fs : List Field) → fs ≡ parcelable_fields (form_of S b) → length fs ≡ 0 → None ≡ place_named x (parcelable_fields (form_of S b))
no_parcelable S b x fs is e = none_found x (fields_of_base S b) (parcelable_fields (form_of S b)) (parcelable_at S b) fs is e

pub in_parcelable : (S : List Decl) (b : Base) (x : List ℕ) (fs : List Field) (o : Option ℕ) → fs ≡ parcelable_fields (form_of S b) → (length fs ≡ 0 → ⊥) → o ≡ place_named x (fields_of_base S b)
    → o ≡ place_named x (parcelable_fields (form_of S b))
in_parcelable S b x fs o is more e = some_found x (fields_of_base S b) (parcelable_fields (form_of S b)) (parcelable_at S b) fs o is more e

pub no_union : (S : List Decl) (b : Base) (x : List ℕ) (fs : List Field) → fs ≡ union_fields (form_of S b) → length fs ≡ 0 → None ≡ place_named x (union_fields (form_of S b))
no_union S b x fs is e = none_found x (fields_of_base S b) (union_fields (form_of S b)) (union_at S b) fs is e

pub in_union : (S : List Decl) (b : Base) (x : List ℕ) (fs : List Field) (o : Option ℕ) → fs ≡ union_fields (form_of S b) → (length fs ≡ 0 → ⊥) → o ≡ place_named x (fields_of_base S b)
    → o ≡ place_named x (union_fields (form_of S b))
in_union S b x fs o is more e = some_found x (fields_of_base S b) (union_fields (form_of S b)) (union_at S b) fs o is more e

-- a position is counted from k on
least : (is_it : Field → Bool) (k j : ℕ) (fs : List Field) → position_from is_it k fs ≡ Some j → k ≤ j
least is_it k j [] e = cc
least is_it k j (f ∷ fs) e = by (is_it f) refl (least is_it (k + 1) j fs)
  where
    by : (b : Bool) → is_it f ≡ b → (position_from is_it (k + 1) fs ≡ Some j → k + 1 ≤ j) → k ≤ j
    by true h next = let here : k ≡ j = cc in omega arith
    by false h next = omega (arith, next (sym (ap (λ b. cond b (Some k) (position_from is_it (k + 1) fs)) h) ∙ e))

-- What is seen of the field of a name

module _ (A : List Decl) (B : List Decl) (g : Field) where
  abbrev has_name : Field → Bool
  has_name f = same_text g.name.0 f.name.0

  no_items : (fs : List Field) → meant.view_named A fs B g (items_of []) ≡ None
  no_items [] = refl
  no_items (f ∷ fs) = refl

  passed : (f : Field) (fs : List Field) (d : Data) (ds : List Data) → has_name f ≡ false → meant.view_named A (f ∷ fs) B g (items_of (d ∷ ds)) ≡ meant.view_named A fs B g (items_of ds)
  passed f fs d ds other = let differ : same_text f.name.0 g.name.0 ≡ false = turned g.name.0 f.name.0 ∙ other in rw differ refl

  met : (f : Field) (fs : List Field) (d : Data) (ds : List Data) → has_name f ≡ true → meant.view_named A (f ∷ fs) B g (items_of (d ∷ ds)) ≡ Some (meant.view_of A f.ty B g.ty d)
  met f fs d ds same = let is : same_text f.name.0 g.name.0 ≡ true = turned g.name.0 f.name.0 ∙ same in rw is refl

  nowhere_from : (k : ℕ) (fs : List Field) (ds : List Data) → position_from has_name k fs ≡ None → meant.view_named A fs B g (items_of ds) ≡ None
  nowhere_from k fs [] e = no_items fs
  nowhere_from k [] (d ∷ ds) e = refl
  nowhere_from k (f ∷ fs) (d ∷ ds) e = by (has_name f) refl (nowhere_from (k + 1) fs ds)
    where
      by : (b : Bool) → has_name f ≡ b → (position_from has_name (k + 1) fs ≡ None → meant.view_named A fs B g (items_of ds) ≡ None) → meant.view_named A (f ∷ fs) B g (items_of (d ∷ ds)) ≡ None
      by true h next = cc
      by false h next = passed f fs d ds h ∙ next (sym (ap (λ b. cond b (Some k) (position_from has_name (k + 1) fs)) h) ∙ e)

  beyond_from : (k i j : ℕ) (fs : List Field) (ds : List Data) → position_from has_name k fs ≡ Some j → j ≡ k + i → length ds ≤ i → meant.view_named A fs B g (items_of ds) ≡ None
  beyond_from k i j fs [] e at few = no_items fs
  beyond_from k i j [] (d ∷ ds) e at few = refl
  beyond_from k zero j (f ∷ fs) (d ∷ ds) e at few = absurd (omega arith)
  beyond_from k (suc i) j (f ∷ fs) (d ∷ ds) e at few = by (has_name f) refl (beyond_from (k + 1) i j fs ds)
    where
      by : (b : Bool) → has_name f ≡ b → (position_from has_name (k + 1) fs ≡ Some j → j ≡ k + 1 + i → length ds ≤ i → meant.view_named A fs B g (items_of ds) ≡ None) → meant.view_named A (f ∷ fs) B g (items_of (d ∷ ds)) ≡ None
      by true h next = let here : k ≡ j = cc in absurd (omega arith)
      by false h next = passed f fs d ds h ∙ next (sym (ap (λ b. cond b (Some k) (position_from has_name (k + 1) fs)) h) ∙ e) (omega arith) (omega arith)

  there_from : (k i j : ℕ) (fs : List Field) (ds : List Data) (f : Field) (d : Data) → position_from has_name k fs ≡ Some j → j ≡ k + i → slice_get fs i ≡ Some f → slice_get ds i ≡ Some d
      → meant.view_named A fs B g (items_of ds) ≡ Some (meant.view_of A f.ty B g.ty d)
  there_from k i j [] ds f d e at is has = cc
  there_from k i j (f' ∷ fs) [] f d e at is has = cc
  there_from k zero j (f' ∷ fs) (d' ∷ ds) f d e at is has = by (has_name f') refl
    where
      one : f' ≡ f
      one = cc

      two : d' ≡ d
      two = cc

      by : (b : Bool) → has_name f' ≡ b → meant.view_named A (f' ∷ fs) B g (items_of (d' ∷ ds)) ≡ Some (meant.view_of A f.ty B g.ty d)
      by true h = met f' fs d' ds h ∙ ap (λ (f : Field). let o : Option (Option Data) = Some (meant.view_of A f.ty B g.ty d') in o) one ∙ ap (λ d. let o : Option (Option Data) = Some (meant.view_of A f.ty B g.ty d) in o) two
      by false h = let later = least has_name (k + 1) j fs (sym (ap (λ b. cond b (Some k) (position_from has_name (k + 1) fs)) h) ∙ e) in absurd (omega (arith, later, at))
  there_from k (suc i) j (f' ∷ fs) (d' ∷ ds) f d e at is has = by (has_name f') refl (there_from (k + 1) i j fs ds f d)
    where
      by : (b : Bool) → has_name f' ≡ b → (position_from has_name (k + 1) fs ≡ Some j → j ≡ k + 1 + i → slice_get fs i ≡ Some f → slice_get ds i ≡ Some d → meant.view_named A fs B g (items_of ds) ≡ Some (meant.view_of A f.ty B g.ty d))
          → meant.view_named A (f' ∷ fs) B g (items_of (d' ∷ ds)) ≡ Some (meant.view_of A f.ty B g.ty d)
      by true h next = let here : k ≡ j = cc in absurd (omega arith)
      by false h next = passed f' fs d' ds h ∙ next (sym (ap (λ b. cond b (Some k) (position_from has_name (k + 1) fs)) h) ∙ e) (omega arith) is has

  pub seen_nowhere : (fs : List Field) (ds : List Data) → place_named g.name.0 fs ≡ None → meant.view_named A fs B g (items_of ds) ≡ None
  seen_nowhere fs ds e = nowhere_from 0 fs ds (sym (position_from-zero has_name fs) ∙ e)

  pub seen_beyond : (fs : List Field) (ds : List Data) (i : ℕ) → place_named g.name.0 fs ≡ Some i → length ds ≤ i → meant.view_named A fs B g (items_of ds) ≡ None
  seen_beyond fs ds i e few = beyond_from 0 i i fs ds (sym (position_from-zero has_name fs) ∙ e) (omega arith) few

  pub seen_there : (fs : List Field) (ds : List Data) (i : ℕ) (f : Field) (d : Data) → place_named g.name.0 fs ≡ Some i → slice_get fs i ≡ Some f → slice_get ds i ≡ Some d
      → meant.view_named A fs B g (items_of ds) ≡ Some (meant.view_of A f.ty B g.ty d)
  seen_there fs ds i f d e is has = there_from 0 i i fs ds f d (sym (position_from-zero has_name fs) ∙ e) (omega arith) is has

-- The alternative of a name

module _ (x : List ℕ) where
  abbrev is_named : Field → Bool
  is_named f = same_text x f.name.0

  unnamed_from : (k : ℕ) (fs : List Field) → position_from is_named k fs ≡ None → meant.field_named k x fs ≡ None
  unnamed_from k [] e = refl
  unnamed_from k (f ∷ fs) e = by (is_named f) refl (unnamed_from (k + 1) fs)
    where
      by : (b : Bool) → is_named f ≡ b → (position_from is_named (k + 1) fs ≡ None → meant.field_named (k + 1) x fs ≡ None) → meant.field_named k x (f ∷ fs) ≡ None
      by true h next = cc
      by false h next = let one : suc k ≡ k + 1 = omega arith in
          let on : meant.field_named k x (f ∷ fs) ≡ meant.field_named (suc k) x fs = rw h refl in
          on ∙ ap (λ n. meant.field_named n x fs) one ∙ next (sym (ap (λ b. cond b (Some k) (position_from is_named (k + 1) fs)) h) ∙ e)

  named_from : (k i j : ℕ) (fs : List Field) (f : Field) → position_from is_named k fs ≡ Some j → j ≡ k + i → slice_get fs i ≡ Some f → meant.field_named k x fs ≡ Some (j, f)
  named_from k i j [] f e at is = cc
  named_from k zero j (f' ∷ fs) f e at is = by (is_named f') refl
    where
      one : f' ≡ f
      one = cc

      by : (b : Bool) → is_named f' ≡ b → meant.field_named k x (f' ∷ fs) ≡ Some (j, f)
      by true h = let here : k ≡ j = cc in let on : meant.field_named k x (f' ∷ fs) ≡ Some (k, f') = rw h refl in
          on ∙ ap (λ n. let o : Option (ℕ × Field) = Some (n, f') in o) here ∙ ap (λ g. let o : Option (ℕ × Field) = Some (j, g) in o) one
      by false h = let later = least is_named (k + 1) j fs (sym (ap (λ b. cond b (Some k) (position_from is_named (k + 1) fs)) h) ∙ e) in absurd (omega (arith, later, at))
  named_from k (suc i) j (f' ∷ fs) f e at is = by (is_named f') refl (named_from (k + 1) i j fs f)
    where
      by : (b : Bool) → is_named f' ≡ b → (position_from is_named (k + 1) fs ≡ Some j → j ≡ k + 1 + i → slice_get fs i ≡ Some f → meant.field_named (k + 1) x fs ≡ Some (j, f)) → meant.field_named k x (f' ∷ fs) ≡ Some (j, f)
      by true h next = let here : k ≡ j = cc in absurd (omega arith)
      by false h next = let one : suc k ≡ k + 1 = omega arith in
          let on : meant.field_named k x (f' ∷ fs) ≡ meant.field_named (suc k) x fs = rw h refl in
          on ∙ ap (λ n. meant.field_named n x fs) one ∙ next (sym (ap (λ b. cond b (Some k) (position_from is_named (k + 1) fs)) h) ∙ e) (omega arith) is

  pub unnamed : (fs : List Field) → place_named x fs ≡ None → meant.field_named 0 x fs ≡ None
  unnamed fs e = unnamed_from 0 fs (sym (position_from-zero is_named fs) ∙ e)

  pub named_there : (fs : List Field) (i : ℕ) (f : Field) → place_named x fs ≡ Some i → slice_get fs i ≡ Some f → meant.field_named 0 x fs ≡ Some (i, f)
  named_there fs i f e is = named_from 0 i i fs f (sym (position_from-zero is_named fs) ∙ e) (omega arith) is
