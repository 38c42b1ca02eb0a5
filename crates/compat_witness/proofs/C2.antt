-- An enum in one schema is a parcelable or union in the other: 0 shows it.
use Rattle.std.proofs.Common.{◌≡◌, ℕ, ◌≤◌, pos, Bool, true, false, not, ◌&&◌, ◌==◌, cond, List, [], ◌∷◌, length, Option, Some, None, slice_get, Err, ◌⊎◌, inl, inr, refl, sym, ap, ◌∙◌, subst}
use Rattle.aidl_base.proofs.lemmas.Tests.{both}
use Rattle.aidl_base.specs.declared.profile.Profile.TheVariants.{Strict}
use Rattle.aidl_base.specs.Readings.{word_as}
use Rattle.aidl_schema.proofs.lemmas.Sames.{same_text_is}
use Rattle.aidl_schema.specs.declared.schema.AidlType.{AidlType}
use Rattle.aidl_schema.specs.declared.schema.Backing.{Backing}
use Rattle.aidl_schema.specs.declared.schema.Backing.TheVariants as backing
use Rattle.aidl_schema.specs.declared.schema.Decl.{Decl}
use Rattle.aidl_schema.specs.declared.schema.Enumerator.{Enumerator}
use Rattle.aidl_schema.specs.declared.schema.Field.{Field}
use Rattle.aidl_schema.specs.declared.schema.Kind.{Kind}
use Rattle.aidl_schema.specs.declared.schema.Kind.TheVariants.{Interface, Parcelable, Union, Enum}
use Rattle.aidl_schema.specs.Broken.{Place, kind_code}
use Rattle.aidl_schema.specs.Constants.{in_range}
use Rattle.aidl_schema.specs.Holds.{AreApart, AllHold}
use Rattle.aidl_schema.specs.Names.{name_of}
use Rattle.aidl_schema.specs.Same.{same_text, is_named, decl_of}
use Rattle.aidl_schema.specs.Types.{Form, form_of, form_of_decl, form_of_kind, is_one}
use Rattle.aidl_schema.specs.Types as form
use Rattle.aidl_schema.specs.Unbroken.{Has}
use Rattle.aidl_values.specs.Data.{Data, number, none, item}
use Rattle.wire_model.specs.MethodOf.{method_of}
use Rattle.wire_model.specs.Outcome.{declared_as}
use Rattle.wire_model.specs.ReadOf.{Read, marker_at, record_at, union_at, read_of}
use Rattle.wire_model.specs.Requests.{ArgsFit, request}
use Rattle.wire_model.specs.Spell.{spell, spell_number}
use Rattle.wire_model.specs.Status.{bad_value, unexpected_null}
use Rattle.wire_model.specs.View.{agree, same_kind, view_of}
use Rattle.wire_model.proofs.lemmas.Lookups.{same_place, position_passes}
use Rattle.compat_witness.specs.Candidates.{Candidate, AreSmall, Shows}
use Rattle.compat_witness.specs.Candidates as candidate
use Rattle.compat_witness.specs.Reaching.{methods_reaching, asks}
use Rattle.compat_witness.specs.Rows.{is_empty, decl_at, kind_of_decl, kind_at, is_record_kind, ask_C2, row_C2}
use Rattle.compat_witness.specs.Sides.{read_request, projected_request}
use Rattle.compat_witness.proofs.C16.{number_fits}
use Rattle.compat_witness.proofs.Low.{four, eight, is_bad, no_view}
use Rattle.compat_witness.proofs.Numbers.{read_form, read_one}
use Rattle.compat_witness.proofs.Reached.{Reached, reached, BaseOf, base_of, back_has, head_of, asked}
use Rattle.compat_witness.proofs.Single.{seen_whole, differs_by}
use Rattle.compat_witness.proofs.Spots.{and_then_is}

-- 0 is no marker of what is there
module _ (S : List Decl) (d : ℕ) (fs : List Field) where
  abbrev zero_read : AidlType → Form → List ℕ → Read Data
  zero_read u f b = read_form S d u false f b

  record_four : (u : AidlType) (n : Bool) → u.nullable ≡ n → not n ≡ true → zero_read u (form.parcelable fs) four ≡ Err unexpected_null
  unfolding record_at marker_at word_as
  record_four u true e h = cc
  record_four u false e h = rw e refl

  record_eight : (u : AidlType) (n : Bool) → u.nullable ≡ n → not n ≡ true → zero_read u (form.parcelable fs) eight ≡ Err unexpected_null
  unfolding record_at marker_at word_as
  record_eight u true e h = cc
  record_eight u false e h = rw e refl

  union_four : (u : AidlType) (n : Bool) → u.nullable ≡ n → not n ≡ true → zero_read u (form.union fs) four ≡ Err unexpected_null
  unfolding union_at marker_at word_as
  union_four u true e h = cc
  union_four u false e h = rw e refl

  union_eight : (u : AidlType) (n : Bool) → u.nullable ≡ n → not n ≡ true → zero_read u (form.union fs) eight ≡ Err unexpected_null
  unfolding union_at marker_at word_as
  union_eight u true e h = cc
  union_eight u false e h = rw e refl

-- what a declaration is, by the number of its kind
abbrev IsRecord : Kind → Type 0
IsRecord K = ((fs : List Field) × (K ≡ Parcelable fs)) ⊎ ((fs : List Field) × (K ≡ Union fs))

abbrev IsEnum : Kind → Type 0
IsEnum K = (b : Backing) × (es : List Enumerator) × (K ≡ Enum b es)

record_is : (K : Kind) → is_record_kind (kind_code K) ≡ true → IsRecord K
record_is (Interface ms) h = cc
record_is (Parcelable fs) h = inl (fs, refl)
record_is (Union fs) h = inr (fs, refl)
record_is (Enum b es) h = cc

enum_is : (K : Kind) → (kind_code K == 3) ≡ true → IsEnum K
enum_is (Interface ms) h = cc
enum_is (Parcelable fs) h = cc
enum_is (Union fs) h = cc
enum_is (Enum b es) h = (b, es, refl)

-- d of A is the enum, and e of B the parcelable or union.
module _ (A B : List Decl) (holds : AllHold B) (apart : AreApart name_of B) (k l : ℕ) (d e : Decl) (mine : slice_get A k ≡ Some d) (his : slice_get B l ≡ Some e) (names : name_of d ≡ name_of e)
    (is_enum : IsEnum d.kind) (is_record : IsRecord e.kind) (i m : ℕ) (has : Has (methods_reaching A k B) (i, m)) where
  abbrev r : Reached A k B i m
  r = reached A k B i m has

  b : BaseOf A k B r.a.ty r.b.ty
  b = base_of A k B r.a.ty r.b.ty r.number r.one r.same_type

  mine_is : b.mine ≡ d
  mine_is = let one : ◌≡◌ {A = Option Decl} (Some b.mine) (Some d) = sym b.here ∙ mine in cc

  his_is : b.his ≡ e
  his_is = same_place name_of B apart b.his e (b.number, b.there) (l, his) (sym b.names ∙ ap name_of mine_is ∙ names)

  form_a : form_of A r.a.ty.base ≡ form_of_kind (Enum is_enum.0 is_enum.1)
  form_a = ap (form_of A) b.base_a ∙ ap form_of_decl b.here ∙ ap (λ (z : Decl). form_of_kind z.kind) mine_is ∙ ap form_of_kind is_enum.2

  form_b : form_of B r.b.ty.base ≡ form_of_kind e.kind
  form_b = ap (form_of B) b.base_b ∙ ap form_of_decl b.there ∙ ap (λ (z : Decl). form_of_kind z.kind) his_is

  one_b : (is_one r.b.ty.shape ≡ true) × (not r.b.ty.nullable ≡ true)
  one_b = both (is_one r.b.ty.shape) (not r.b.ty.nullable) b.one_b

  -- zero of each backing
  zero_bytes : (x : Backing) (es : List Enumerator) → (spell_number (form_of_kind (Enum x es)) (pos 0) ≡ four) ⊎ (spell_number (form_of_kind (Enum x es)) (pos 0) ≡ eight)
  zero_bytes backing.Byte es = inl refl
  zero_bytes backing.Int es = inl refl
  zero_bytes backing.Long es = inr refl

  zero_range : (x : Backing) (es : List Enumerator) → in_range (form_of_kind (Enum x es)) (pos 0) ≡ true
  zero_range backing.Byte es = refl
  zero_range backing.Int es = refl
  zero_range backing.Long es = refl

  null_read : (c : List ℕ) → (c ≡ four) ⊎ (c ≡ eight) → IsRecord e.kind → read_of Strict B 64 r.b.ty false c ≡ Err unexpected_null
  null_read c (inl z) (inl f) = ap (read_of Strict B 64 r.b.ty false) z ∙ read_one B 63 r.b.ty false (form.parcelable f.0) four one_b.0 (form_b ∙ ap form_of_kind f.1) ∙ record_four B 63 f.0 r.b.ty r.b.ty.nullable refl one_b.1
  null_read c (inr z) (inl f) = ap (read_of Strict B 64 r.b.ty false) z ∙ read_one B 63 r.b.ty false (form.parcelable f.0) eight one_b.0 (form_b ∙ ap form_of_kind f.1) ∙ record_eight B 63 f.0 r.b.ty r.b.ty.nullable refl one_b.1
  null_read c (inl z) (inr f) = ap (read_of Strict B 64 r.b.ty false) z ∙ read_one B 63 r.b.ty false (form.union f.0) four one_b.0 (form_b ∙ ap form_of_kind f.1) ∙ union_four B 63 f.0 r.b.ty r.b.ty.nullable refl one_b.1
  null_read c (inr z) (inr f) = ap (read_of Strict B 64 r.b.ty false) z ∙ read_one B 63 r.b.ty false (form.union f.0) eight one_b.0 (form_b ∙ ap form_of_kind f.1) ∙ union_eight B 63 f.0 r.b.ty r.b.ty.nullable refl one_b.1

  -- they are of two kinds
  kinds : IsRecord e.kind → same_kind (Some d) (Some e) ≡ false
  kinds (inl f) = ap (λ K. kind_code K == kind_code e.kind) is_enum.2 ∙ ap (λ K. 3 == kind_code K) f.1
  kinds (inr f) = ap (λ K. kind_code K == kind_code e.kind) is_enum.2 ∙ ap (λ K. 3 == kind_code K) f.1

  unseen : view_of A r.a.ty B r.b.ty (number (pos 0)) ≡ None
  unseen =
      let kind : same_kind (decl_of A r.a.ty.base) (decl_of B r.b.ty.base) ≡ false =
      ap (λ c. same_kind (decl_of A c) (decl_of B r.b.ty.base)) b.base_a ∙ ap (λ c. same_kind (slice_get A k) (decl_of B c)) b.base_b
      ∙ ap (λ o. same_kind o (slice_get B b.number)) mine ∙ ap (λ o. same_kind (Some d) o) (b.there ∙ ap (λ z. let o : Option Decl = Some z in o) his_is) ∙ kinds is_record in
      let named : is_named r.a.ty.base ≡ true = ap is_named b.base_a in
      let agrees : agree A r.a.ty B r.b.ty ≡ false = rw (r.same_type, named, kind) refl in
      no_view A r.a.ty B r.b.ty (number (pos 0)) agrees

  pub zero_fits : ArgsFit (method_of A i m) (item (number (pos 0)) none)
  zero_fits = number_fits A B holds k i m r (pos 0) (subst (λ f. in_range f (pos 0) ≡ true) (sym form_a) (zero_range is_enum.0 is_enum.1))

  pub zero_differs : length (request (method_of A i m) (item (number (pos 0)) none)) ≤ 1048576
      → read_request (method_of A i m) B (request (method_of A i m) (item (number (pos 0)) none)) ≡ projected_request (method_of A i m) B (item (number (pos 0)) none) → ⊥
  zero_differs small = differs_by A B holds i m r.decl r.method r.here r.at r.other r.like r.id r.a r.b r.only_a r.only_b r.in_a r.in_b (number (pos 0)) small (λ q.
      let c = spell A r.a.ty (number (pos 0)) in
      let spelled : c ≡ spell_number (form_of_kind (Enum is_enum.0 is_enum.1)) (pos 0) = ap (λ f. spell_number f (pos 0)) form_a in
      let null = ap (read_of Strict B 64 r.b.ty false) spelled ∙ null_read (spell_number (form_of_kind (Enum is_enum.0 is_enum.1)) (pos 0)) (zero_bytes is_enum.0 is_enum.1) is_record in
      let wrong : ◌≡◌ {A = Read Data} (Err unexpected_null) (Err bad_value) = sym null ∙ q ∙ ap seen_whole unseen in
      let clash : false ≡ true = ap is_bad wrong in absurd cc)

module _ (old new : List Decl) (holds_old : AllHold old) (holds_new : AllHold new) (apart_old : AreApart name_of old) (apart_new : AreApart name_of new) (p : Place) (cs : List Candidate)
    (small : AreSmall old new cs) where
  module _ (k l : ℕ) (d e : Decl) (mine : slice_get old k ≡ Some d) (his : slice_get new l ≡ Some e) (names : name_of d ≡ name_of e) (i m : ℕ) (has : Has (methods_reaching old k new) (i, m)) where
    forth : IsEnum d.kind → IsRecord e.kind → asks false (methods_reaching old k new) (number (pos 0) ∷ []) ≡ cs → Shows old new cs
    forth is_enum is_record is =
        let c = candidate.request false i m (item (number (pos 0)) none) in
        let there : Has cs c = subst (λ ds. Has ds c) is (asked false (methods_reaching old k new) (number (pos 0) ∷ []) i m (number (pos 0)) has (0, refl)) in
        let fits = zero_fits old new holds_new apart_new k l d e mine his names is_enum is_record i m has in
        let few = small c there fits in
        (c, there, record { fits = fits; small = few }, zero_differs old new holds_new apart_new k l d e mine his names is_enum is_record i m has few)

    back : IsEnum e.kind → IsRecord d.kind → asks true (methods_reaching new l old) (number (pos 0) ∷ []) ≡ cs → Shows old new cs
    back is_enum is_record is =
        let r = reached old k new i m has in
        let j = r.other.interface in
        let o = r.other.position in
        let has' = back_has old new k l holds_old apart_old apart_new d e mine his names i m r in
        let c = candidate.request true j o (item (number (pos 0)) none) in
        let there : Has cs c = subst (λ ds. Has ds c) is (asked true (methods_reaching new l old) (number (pos 0) ∷ []) j o (number (pos 0)) has' (0, refl)) in
        let fits = zero_fits new old holds_old apart_old l k e d his mine (sym names) is_enum is_record j o has' in
        let few = small c there fits in
        (c, there, record { fits = fits; small = few }, zero_differs new old holds_old apart_old l k e d his mine (sym names) is_enum is_record j o has' few)

  -- One candidate of an entry of C2 that counts differs.
  pub c2 : row_C2 old new p ≡ Some cs → Shows old new cs
  c2 row =
      let z = and_then_is (λ k. decl_at new p (λ l. ask_C2 old k new l)) (declared_as old p) cs row in
      let w = and_then_is (λ l. ask_C2 old z.0 new l) (declared_as new p) cs z.2 in
      let d = position_passes (λ (q : Decl). same_text p (name_of q)) old z.0 z.1 in
      let e = position_passes (λ (q : Decl). same_text p (name_of q)) new w.0 w.1 in
      let names : name_of d.0 ≡ name_of e.0 = sym (same_text_is p (name_of d.0) d.2) ∙ same_text_is p (name_of e.0) e.2 in
      by z.0 w.0 d.0 e.0 d.1 e.1 names (not (is_empty (methods_reaching old z.0 new))) refl ((kind_at old z.0 == 3) && is_record_kind (kind_at new w.0)) refl ((kind_at new w.0 == 3) && is_record_kind (kind_at old z.0)) refl w.2
    where
      by : (k l : ℕ) (d e : Decl) → slice_get old k ≡ Some d → slice_get new l ≡ Some e → name_of d ≡ name_of e → (x : Bool) → not (is_empty (methods_reaching old k new)) ≡ x
          → (y : Bool) → ((kind_at old k == 3) && is_record_kind (kind_at new l)) ≡ y → (z : Bool) → ((kind_at new l == 3) && is_record_kind (kind_at old k)) ≡ z
          → cond x (cond y (Some (asks false (methods_reaching old k new) (number (pos 0) ∷ []))) (cond z (Some (asks true (methods_reaching new l old) (number (pos 0) ∷ []))) None)) None ≡ Some cs → Shows old new cs
      by k l d e mine his names false p y q z h f = cc
      by k l d e mine his names true p true q z h f =
          let is : asks false (methods_reaching old k new) (number (pos 0) ∷ []) ≡ cs = cc in
          let first = head_of (methods_reaching old k new) is_empty refl p in
          let two = both (kind_at old k == 3) (is_record_kind (kind_at new l)) q in
          forth k l d e mine his names first.0.0 first.0.1 first.1 (enum_is d.kind (subst (λ o. (kind_of_decl o == 3) ≡ true) mine two.0)) (record_is e.kind (subst (λ o. is_record_kind (kind_of_decl o) ≡ true) his two.1)) is
      by k l d e mine his names true p false q true h f =
          let is : asks true (methods_reaching new l old) (number (pos 0) ∷ []) ≡ cs = cc in
          let first = head_of (methods_reaching old k new) is_empty refl p in
          let two = both (kind_at new l == 3) (is_record_kind (kind_at old k)) h in
          back k l d e mine his names first.0.0 first.0.1 first.1 (enum_is e.kind (subst (λ o. (kind_of_decl o == 3) ≡ true) his two.0)) (record_is d.kind (subst (λ o. is_record_kind (kind_of_decl o) ≡ true) mine two.1)) is
      by k l d e mine his names true p false q false h f = cc
