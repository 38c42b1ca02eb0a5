-- What it gives, rule by rule, that no evolution rule is broken.
use Rattle.std.specs.Prelude.{◌≡◌, ℕ, ◌≤◌, Bool, true, false, ◌&&◌, ◌||◌, ◌==◌, nat_lt, List, length, Some, slice_get}
use Rattle.std.specs.List.{find}
use Rattle.std.specs.Ordering.{int_eq}
use Rattle.aidl_schema.specs.declared.schema.Decl.{Decl}
use Rattle.aidl_schema.specs.declared.schema.Field.{Field}
use Rattle.aidl_schema.specs.declared.schema.Method.{Method}
use Rattle.aidl_schema.specs.declared.schema.Enumerator.{Enumerator}
use Rattle.aidl_schema.specs.declared.schema.Constant.{Constant}
use Rattle.aidl_schema.specs.Containment.{fields_of}
use Rattle.aidl_schema.specs.Same.{same_text, same_bool, same, base_code}
use Rattle.aidl_schema.specs.Names.{methods_of, enumerators_of}
use Rattle.aidl_schema.specs.Broken.{same_name, same_method, same_enumerator, same_constant, is_kept, kind_code}
use Rattle.aidl_schema.specs.Broken.{backing_code, parcelable_fields, union_fields, fields_with_default, way_code}
use Rattle.aidl_schema.specs.Broken.{same_const, default_in, same_default, has_composite_default}
use Rattle.aidl_schema.specs.Broken.{is_refused_addition, same_marks, same_result, same_result_marks}

-- x is one of these
abbrev pub Has : {X : Type 0} → List X → X → Type 0
Has xs x = (i : ℕ) × (slice_get xs i ≡ Some x)

-- x is one of the first, and y that of its name among the second
abbrev pub AreBoth : {X : Type 0} → (X → X → Bool) → List X → List X → X → X → Type 0
AreBoth alike xs ys x y = Has xs x × (find (λ z. alike x z) ys ≡ Some y)

-- R holds of what stands at each position below both counts.
abbrev pub AtEach : {X : Type 0} → List X → List X → (X → X → Type 0) → Type 0
AtEach {X} xs ys R = (k : ℕ) (x y : X) → slice_get xs k ≡ Some x → slice_get ys k ≡ Some y → R x y

-- R holds of the methods of one name.
abbrev pub OfMethods : Decl → Decl → (Method → Method → Type 0) → Type 0
OfMethods d e R = (m w : Method) → AreBoth same_method (methods_of d.kind) (methods_of e.kind) m w → R m w

-- The same default, or one that C12 doesn't compare.
abbrev pub is_same_default : List Decl → Field → List Decl → Field → Bool
is_same_default old f new g = (has_composite_default old f.ty || has_composite_default new g.ty)
    || same_default (default_in old f) (default_in new g)

-- d of old and e of new break none of C3 to C19, whatever their names and kinds are.
pub record Follows (old : List Decl) (d : Decl) (new : List Decl) (e : Decl) : Type 0 where
  -- C3
  pub methods : (m : Method) → Has (methods_of d.kind) m
      → is_kept same_method (λ x y. true) (methods_of e.kind) m ≡ true
  pub ids : OfMethods d e (λ m w. (m.id == w.id) ≡ true)  -- C4
  pub results : OfMethods d e (λ m w. same_result old m.result new w.result ≡ true)  -- C5
  pub argument_counts : OfMethods d e (λ m w. (length m.args == length w.args) ≡ true)  -- C6
  pub argument_types : OfMethods d e (λ m w. AtEach m.args w.args (λ a b. same old a.ty new b.ty ≡ true))  -- C6
  pub ways : OfMethods d e (λ m w. AtEach m.args w.args (λ a b. (way_code a.way == way_code b.way) ≡ true))  -- C7
  pub oneway : OfMethods d e (λ m w. same_bool m.oneway w.oneway ≡ true)  -- C8
  pub fields : nat_lt (length (parcelable_fields e.kind)) (length (parcelable_fields d.kind)) ≡ false  -- C9
  -- C10
  pub names : AtEach (parcelable_fields d.kind) (parcelable_fields e.kind) (λ f g. same_text f.name.0 g.name.0 ≡ true)
  -- C11
  pub types : AtEach (parcelable_fields d.kind) (parcelable_fields e.kind) (λ f g. same old f.ty new g.ty ≡ true)
  -- C12
  pub defaults : AtEach (fields_with_default d.kind) (fields_with_default e.kind)
      (λ f g. same old f.ty new g.ty ≡ true → is_same_default old f new g ≡ true)
  -- C13
  pub additions : (k : ℕ) (g : Field) → length (parcelable_fields d.kind) ≤ k
      → slice_get (parcelable_fields e.kind) k ≡ Some g → is_refused_addition new g ≡ false
  pub fixed : (kind_code d.kind == 1 || kind_code d.kind == 2) ≡ true → same_bool d.fixed e.fixed ≡ true  -- C14
  -- C14
  pub fixed_fields : (kind_code d.kind == 1 || kind_code d.kind == 2) ≡ true → d.fixed ≡ true → e.fixed ≡ true
      → nat_lt (length (fields_of d.kind)) (length (fields_of e.kind)) ≡ false
  pub alternatives : nat_lt (length (union_fields e.kind)) (length (union_fields d.kind)) ≡ false  -- C15
  -- C15
  pub alternative_names : AtEach (union_fields d.kind) (union_fields e.kind) (λ f g. same_text f.name.0 g.name.0 ≡ true)
  -- C15
  pub alternative_types : AtEach (union_fields d.kind) (union_fields e.kind) (λ f g. same old f.ty new g.ty ≡ true)
  pub backings : (backing_code d.kind == backing_code e.kind) ≡ true  -- C16
  -- C17
  pub enumerators : (x : Enumerator) → Has (enumerators_of d.kind) x
      → is_kept same_enumerator (λ x y. int_eq x.value y.value) (enumerators_of e.kind) x ≡ true
  -- C18
  pub constants : (c : Constant) → Has d.constants c → is_kept same_constant
      (λ c k. (base_code c.ty == base_code k.ty) && same_const c.value k.value) e.constants c ≡ true
  pub stability : same_bool d.vintf e.vintf ≡ true  -- C19
  pub field_marks : AtEach (fields_of d.kind) (fields_of e.kind) (λ f g. same_marks f.ty g.ty ≡ true)  -- C19
  pub argument_marks : OfMethods d e (λ m w. AtEach m.args w.args (λ a b. same_marks a.ty b.ty ≡ true))  -- C19
  pub result_marks : OfMethods d e (λ m w. same_result_marks m.result w.result ≡ true)  -- C19

-- Every declaration of old is in new (C1), is of the same kind there (C2), and breaks no other rule.
pub record Unbroken (old new : List Decl) : Type 0 where
  pub stays : (d : Decl) → Has old d → is_kept same_name (λ x y. true) new d ≡ true  -- C1
  pub kinds : (d e : Decl) → AreBoth same_name old new d e → (kind_code d.kind == kind_code e.kind) ≡ true  -- C2
  pub members : (d e : Decl) → AreBoth same_name old new d e → Follows old d new e  -- C3 to C19
