-- Where no evolution rule is broken from one of two schemas to the other, each can read what the other sends.
use Rattle.std.proofs.Common.{◌≡◌, ℕ, zero, suc, ◌≤◌, Bool, true, false, cond, ◌==◌, ◌&&◌, List, [], ◌∷◌, length, Option, Some, None, slice_get, refl, sym, ap, ◌∙◌, subst, arith}
use Rattle.std.proofs.lemmas.Bool.Decides.{nat_tests}
use Rattle.aidl_base.specs.Names.{dotted}
use Rattle.aidl_base.proofs.lemmas.Tests.{both}
use Rattle.aidl_schema.proofs.lemmas.Sames.{same_text_refl, same_text_is, same_idents_is, same_idents_sym}
use Rattle.aidl_schema.specs.declared.schema.Decl.{Decl}
use Rattle.aidl_schema.specs.declared.schema.Field.{Field}
use Rattle.aidl_schema.specs.declared.schema.Kind.{Kind}
use Rattle.aidl_schema.specs.declared.schema.Kind.TheVariants.{Interface, Parcelable, Union, Enum}
use Rattle.aidl_schema.specs.declared.schema.Backing.TheVariants as backing
use Rattle.aidl_schema.specs.declared.schema.Base.{Base}
use Rattle.aidl_schema.specs.declared.schema.Base.TheVariants as base
use Rattle.aidl_schema.specs.declared.schema.AidlType.{AidlType}
use Rattle.aidl_schema.specs.Broken.{kind_code, backing_code, same_name, parcelable_fields, union_fields}
use Rattle.aidl_schema.specs.Holds.{AreApart, AllHold}
use Rattle.aidl_schema.specs.Names.{name_of}
use Rattle.aidl_schema.specs.Same.{same, same_base, same_decl, same_idents, same_text, same_bool, shape_code, base_code, decl_of, is_named}
use Rattle.aidl_schema.specs.Types.{Form, form_of, form_of_decl, form_of_kind}
use Rattle.aidl_schema.specs.Types as form
use Rattle.aidl_schema.specs.Unbroken.{AreBoth, AtEach, Unbroken}
use Rattle.aidl_values.specs.Sound.{IsDeclared, HaveDefaults, IsSound, fields_of}
use Rattle.wire_model.proofs.lemmas.Lookups.{both_of}
use Rattle.wire_model.specs.View.{same_kind}
use Rattle.wire_model.specs.steps.Meets.{IsAbsent, AreDistinct, FieldsAgree, FormsMeet, Meets}

eq_is : (m n : ℕ) → (m == n) ≡ true → m ≡ n
eq_is m n e = grind (arith, nat_tests)

eq_sym : (m n : ℕ) → (m == n) ≡ (n == m)
eq_sym m n = grind (arith, nat_tests)

-- fields whose names stand apart
absent : (f : Field) (gs : List Field) → ((k : ℕ) (g : Field) → slice_get gs k ≡ Some g → f.name.0 ≡ g.name.0 → ⊥) → IsAbsent f.name.0 gs
absent f [] none = tt
absent f (g ∷ gs) none = (by_test (same_text f.name.0 g.name.0) refl, absent f gs (λ k x at e. none (suc k) x at e))
  where
    by_test : (b : Bool) → same_text f.name.0 g.name.0 ≡ b → same_text f.name.0 g.name.0 ≡ false
    by_test true e = absurd (none 0 g refl (same_text_is f.name.0 g.name.0 e))
    by_test false e = e

pub distinct : (fs : List Field) → AreApart (λ (f : Field). f.name.0) fs → AreDistinct fs
distinct [] apart = tt
distinct (f ∷ fs) apart = (
  absent f fs (λ k g at e. let no : 0 ≡ suc k = apart 0 (suc k) f g refl at e in absurd (omega arith)),
  distinct fs (λ j k x y p q e. let one : suc j ≡ suc k = apart (suc j) (suc k) x y p q e in omega arith),
)

-- fields at the positions below both counts, as the older schema's sender and as its receiver
agree_to : (A B : List Decl) (fs gs : List Field) → AtEach fs gs (λ f g. same_text f.name.0 g.name.0 ≡ true) → AtEach fs gs (λ f g. same A f.ty B g.ty ≡ true) → FieldsAgree A fs B gs
agree_to A B [] gs names types = tt
agree_to A B (f ∷ fs) [] names types = tt
agree_to A B (f ∷ fs) (g ∷ gs) names types = (
  same_text_is f.name.0 g.name.0 (names 0 f g refl refl),
  types 0 f g refl refl,
  agree_to A B fs gs (λ k x y p q. names (suc k) x y p q) (λ k x y p q. types (suc k) x y p q),
)

agree_from : (A B : List Decl) → ((t u : AidlType) → same A t B u ≡ true → same B u A t ≡ true) → (fs gs : List Field) → FieldsAgree A fs B gs → FieldsAgree B gs A fs
agree_from A B back [] [] h = tt
agree_from A B back [] (g ∷ gs) h = tt
agree_from A B back (f ∷ fs) [] h = tt
agree_from A B back (f ∷ fs) (g ∷ gs) h = (sym h.0, back f.ty g.ty h.1, agree_from A B back fs gs h.2)

-- what two kinds mean as types
kinds_meet : (A B : List Decl) (k l : Kind) → (kind_code k == kind_code l) ≡ true → (backing_code k == backing_code l) ≡ true
    → FieldsAgree A (parcelable_fields k) B (parcelable_fields l) → FieldsAgree A (union_fields k) B (union_fields l)
    → AreDistinct (fields_of k) → length (fields_of k) ≤ 4096 → AreDistinct (fields_of l) → HaveDefaults B (fields_of l) → FormsMeet A (form_of_kind k) B (form_of_kind l)
kinds_meet A B (Interface ms) (Interface ns) e b records unions mine few his defaults = refl
kinds_meet A B (Interface ms) (Parcelable gs) e b records unions mine few his defaults = cc
kinds_meet A B (Interface ms) (Union gs) e b records unions mine few his defaults = cc
kinds_meet A B (Interface ms) (Enum c ys) e b records unions mine few his defaults = cc
kinds_meet A B (Parcelable fs) (Interface ns) e b records unions mine few his defaults = cc
kinds_meet A B (Parcelable fs) (Parcelable gs) e b records unions mine few his defaults = (gs, refl, record { common = records; defaults = defaults; distinct = his })
kinds_meet A B (Parcelable fs) (Union gs) e b records unions mine few his defaults = cc
kinds_meet A B (Parcelable fs) (Enum c ys) e b records unions mine few his defaults = cc
kinds_meet A B (Union fs) (Interface ns) e b records unions mine few his defaults = cc
kinds_meet A B (Union fs) (Parcelable gs) e b records unions mine few his defaults = cc
kinds_meet A B (Union fs) (Union gs) e b records unions mine few his defaults = (gs, refl, record { common = unions; distinct = mine; few = few })
kinds_meet A B (Union fs) (Enum c ys) e b records unions mine few his defaults = cc
kinds_meet A B (Enum c xs) (Interface ns) e b records unions mine few his defaults = cc
kinds_meet A B (Enum c xs) (Parcelable gs) e b records unions mine few his defaults = cc
kinds_meet A B (Enum c xs) (Union gs) e b records unions mine few his defaults = cc
kinds_meet A B (Enum backing.Byte xs) (Enum backing.Byte ys) e b records unions mine few his defaults = refl
kinds_meet A B (Enum backing.Byte xs) (Enum backing.Int ys) e b records unions mine few his defaults = cc
kinds_meet A B (Enum backing.Byte xs) (Enum backing.Long ys) e b records unions mine few his defaults = cc
kinds_meet A B (Enum backing.Int xs) (Enum backing.Byte ys) e b records unions mine few his defaults = cc
kinds_meet A B (Enum backing.Int xs) (Enum backing.Int ys) e b records unions mine few his defaults = refl
kinds_meet A B (Enum backing.Int xs) (Enum backing.Long ys) e b records unions mine few his defaults = cc
kinds_meet A B (Enum backing.Long xs) (Enum backing.Byte ys) e b records unions mine few his defaults = cc
kinds_meet A B (Enum backing.Long xs) (Enum backing.Int ys) e b records unions mine few his defaults = cc
kinds_meet A B (Enum backing.Long xs) (Enum backing.Long ys) e b records unions mine few his defaults = refl

-- A built-in base means the same in both schemas, and a name what its declaration means.
abbrev built_in : ℕ → Form
built_in zero = form.truth
built_in (suc zero) = form.byte
built_in (suc (suc zero)) = form.char
built_in (suc (suc (suc zero))) = form.int
built_in (suc (suc (suc (suc zero)))) = form.long
built_in (suc (suc (suc (suc (suc zero))))) = form.text
built_in _ = form.nothing

by_code : (S : List Decl) (b : Base) → form_of S b ≡ cond (is_named b) (form_of_decl (decl_of S b)) (built_in (base_code b))
by_code S base.Boolean = refl
by_code S base.Byte = refl
by_code S base.Char = refl
by_code S base.Int = refl
by_code S base.Long = refl
by_code S base.Text = refl
by_code S (base.Named n) = refl

declared : (S : List Decl) (b : Base) (d : Decl) → decl_of S b ≡ Some d → IsDeclared S d
declared S base.Boolean d e = absurd cc
declared S base.Byte d e = absurd cc
declared S base.Char d e = absurd cc
declared S base.Int d e = absurd cc
declared S base.Long d e = absurd cc
declared S base.Text d e = absurd cc
declared S (base.Named n) d e = (n, e)

built_in_meets : (A B : List Decl) (b : Base) → FormsMeet A (built_in (base_code b)) B (built_in (base_code b))
built_in_meets A B base.Boolean = refl
built_in_meets A B base.Byte = refl
built_in_meets A B base.Char = refl
built_in_meets A B base.Int = refl
built_in_meets A B base.Long = refl
built_in_meets A B base.Text = refl
built_in_meets A B (base.Named n) = refl

-- declarations of one name: the same kind, and meanings that meet
abbrev DeclsMeet : List Decl → Decl → List Decl → Decl → Type 0
DeclsMeet A d B e = ((kind_code d.kind == kind_code e.kind) ≡ true) × FormsMeet A (form_of_kind d.kind) B (form_of_kind e.kind)

module _ (A B : List Decl) (meet : (d e : Decl) → IsDeclared A d → IsDeclared B e → same_idents d.name.0 e.name.0 ≡ true → DeclsMeet A d B e) where
  decls : (o r : Option Decl) → ((d : Decl) → o ≡ Some d → IsDeclared A d) → ((e : Decl) → r ≡ Some e → IsDeclared B e) → same_decl o r ≡ true
      → (same_kind o r ≡ true) × FormsMeet A (form_of_decl o) B (form_of_decl r)
  decls None r mine his h = absurd cc
  decls (Some d) None mine his h = absurd cc
  decls (Some d) (Some e) mine his h = meet d e (mine d refl) (his e refl) h

  -- by whether the base is declared
  abbrev BasesMeet : Bool → Base → Bool → Base → Type 0
  BasesMeet n b m c = (cond n (same_kind (decl_of A b) (decl_of B c)) true ≡ true)
      × FormsMeet A (cond n (form_of_decl (decl_of A b)) (built_in (base_code b))) B (cond m (form_of_decl (decl_of B c)) (built_in (base_code c)))

  by_named : (b c : Base) (n : Bool) → base_code b ≡ base_code c → cond n (same_decl (decl_of A b) (decl_of B c)) true ≡ true → BasesMeet n b n c
  by_named b c true code h = decls (decl_of A b) (decl_of B c) (λ d e. declared A b d e) (λ d e. declared B c d e) h
  by_named b c false code h = (refl, subst (λ k. FormsMeet A (built_in (base_code b)) B (built_in k)) code (built_in_meets A B b))

  types_meet : Meets A B
  types_meet t u is =
      let b = t.base in
      let c = u.base in
      let bases : same_base A b B c ≡ true = (both (same_base A b B c) ((shape_code t.shape == shape_code u.shape) && same_bool t.nullable u.nullable) is).0 in
      let two = both (base_code b == base_code c) (cond (is_named b) (same_decl (decl_of A b) (decl_of B c)) true) bases in
      let code : base_code b ≡ base_code c = eq_is (base_code b) (base_code c) two.0 in
      let same_named : is_named b ≡ is_named c = ap (λ n. n == 6) code in
      let met = by_named b c (is_named b) code two.1 in
      let forms = subst (λ n. FormsMeet A (cond (is_named b) (form_of_decl (decl_of A b)) (built_in (base_code b))) B (cond n (form_of_decl (decl_of B c)) (built_in (base_code c)))) same_named met.1 in
      record {
        kinds = rw (is, met.0) refl;
        forms = subst (λ f. FormsMeet A f B (form_of B c)) (sym (by_code A b))
            (subst (λ g. FormsMeet A (cond (is_named b) (form_of_decl (decl_of A b)) (built_in (base_code b))) B g) (sym (by_code B c)) forms);
      }

module _ (old new : List Decl) (apart : AreApart name_of new) (U : Unbroken old new) where
  are_both : (d e : Decl) → IsDeclared old d → IsDeclared new e → same_idents d.name.0 e.name.0 ≡ true → AreBoth same_name old new d e
  are_both d e here there is = both_of same_name name_of (λ x y h. same_text_is (name_of x) (name_of y) h) old new apart d e here there
      (subst (λ n. same_text (dotted d.name.0) (dotted n) ≡ true) (same_idents_is d.name.0 e.name.0 is) (same_text_refl (dotted d.name.0)))

  module _ (old_holds : AllHold old) (new_holds : AllHold new) (old_sound : IsSound old) (new_sound : IsSound new) where
    -- The older schema sends.
    pub newer_reads : Meets old new
    newer_reads = types_meet old new (λ d e here there is.
        let both = are_both d e here there is in
        let F = U.members d e both in (
          U.kinds d e both,
          kinds_meet old new d.kind e.kind (U.kinds d e both) F.backings
              (agree_to old new (parcelable_fields d.kind) (parcelable_fields e.kind) F.names F.types)
              (agree_to old new (union_fields d.kind) (union_fields e.kind) F.alternative_names F.alternative_types)
              (distinct (fields_of d.kind) (old_holds here.0 d here.1).fields) (old_sound.few d here)
              (distinct (fields_of e.kind) (new_holds there.0 e there.1).fields) (new_sound.defaults e there),
        ))

    -- The newer schema sends.
    pub older_reads : ((t u : AidlType) → same old t new u ≡ true → same new u old t ≡ true) → Meets new old
    older_reads back = types_meet new old (λ e d there here is.
        let both = are_both d e here there (same_idents_sym d.name.0 e.name.0 ∙ is) in
        let F = U.members d e both in
        let kind : (kind_code e.kind == kind_code d.kind) ≡ true = eq_sym (kind_code e.kind) (kind_code d.kind) ∙ U.kinds d e both in
        let backing : (backing_code e.kind == backing_code d.kind) ≡ true = eq_sym (backing_code e.kind) (backing_code d.kind) ∙ F.backings in (
          kind,
          kinds_meet new old e.kind d.kind kind backing
              (agree_from old new back (parcelable_fields d.kind) (parcelable_fields e.kind) (agree_to old new (parcelable_fields d.kind) (parcelable_fields e.kind) F.names F.types))
              (agree_from old new back (union_fields d.kind) (union_fields e.kind) (agree_to old new (union_fields d.kind) (union_fields e.kind) F.alternative_names F.alternative_types))
              (distinct (fields_of e.kind) (new_holds there.0 e there.1).fields) (new_sound.few e there)
              (distinct (fields_of d.kind) (old_holds here.0 d here.1).fields) (old_sound.defaults d here),
        ))
