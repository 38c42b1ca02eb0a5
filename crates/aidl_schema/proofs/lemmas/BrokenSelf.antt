-- No rule is broken from a schema to itself.
use Rattle.std.proofs.Common.{◌≡◌, ℕ, zero, suc, Bool, true, false, not, ◌&&◌, ◌||◌, ◌==◌, List, [], ◌∷◌, length, Option, Some, None, slice_get, refl, sym, ap, ◌∙◌, subst, arith}
use Rattle.std.specs.List.{find, list_all}
use Rattle.std.specs.Ordering.{int_eq}
use Rattle.std.proofs.lemmas.Bool.Decides.{nat_tests, Decides-int_eq}
use Rattle.aidl_base.specs.declared.constant.Const.{Const}
use Rattle.aidl_schema.specs.declared.schema.Decl.{Decl}
use Rattle.aidl_schema.specs.declared.schema.Field.{Field}
use Rattle.aidl_schema.specs.declared.schema.Method.{Method}
use Rattle.aidl_schema.specs.declared.schema.Arg.{Arg}
use Rattle.aidl_schema.specs.declared.schema.Kind.{Kind}
use Rattle.aidl_schema.specs.declared.schema.Kind.TheVariants.{Interface, Parcelable, Union, Enum}
use Rattle.aidl_schema.specs.declared.schema.AidlType.{AidlType}
use Rattle.aidl_schema.specs.Types.{is_type}
use Rattle.aidl_schema.specs.Constants.{is_string}
use Rattle.aidl_schema.specs.Containment.{fields_of}
use Rattle.aidl_base.specs.Names.{dotted}
use Rattle.aidl_schema.specs.Same.{same_text, same_bool, same, base_code}
use Rattle.aidl_schema.specs.Holds.{AllHold, Holds, AreApart}
use Rattle.aidl_schema.specs.Methods.{is_whole_type, is_field_type, is_passed_type, is_result_type, has_method_types, may_be_on_heap}
use Rattle.aidl_schema.specs.Names.{methods_of, enumerators_of, name_of}
use Rattle.aidl_schema.specs.Broken.{same_name, same_method, same_enumerator, same_constant, is_kept, kind_code, backing_code, parcelable_fields, union_fields, fields_with_default, way_code, same_const, default_in, same_default, has_composite_default, same_marks, same_result, same_result_marks, broken}
use Rattle.aidl_schema.specs.Unbroken.{Has, AreBoth, AtEach, OfMethods, is_same_default, Follows, Unbroken}
use Rattle.aidl_schema.proofs.Follow.{HasDistinctNames, below, not_fewer}
use Rattle.aidl_schema.proofs.SameConst.{same_const_self}
use Rattle.aidl_schema.proofs.lemmas.Sames.{same_text_is, same_text_refl, same_refl, same_bool_refl}
use Rattle.aidl_base.proofs.lemmas.Tests.{both, all_at}
use Rattle.aidl_schema.proofs.Unbroken.{empty}

eq_self : (n : ℕ) → (n == n) ≡ true
eq_self n = grind (arith, nat_tests)

-- Those of one name are one.
abbrev pub Distinct : {X : Type 0} → (X → X → Bool) → List X → Type 0
Distinct {X} alike xs = (x y : X) → Has xs x → Has xs y → alike x y ≡ true → x ≡ y

-- items at different places have different keys, so those of one key are one
distinct : {X K : Type 0} (key : X → K) (alike : X → X → Bool) (xs : List X) → ((x y : X) → alike x y ≡ true → key x ≡ key y) → AreApart key xs → Distinct alike xs
distinct {X} key alike xs same apart x y (j, at) (k, to) e =
    let one : j ≡ k = apart j k x y at to (same x y e) in
    let there : slice_get xs k ≡ Some x = subst (λ n. slice_get xs n ≡ Some x) one at in
    cc

pub distinct_names : (S : List Decl) → AreApart name_of S → HasDistinctNames S
distinct_names S apart = distinct name_of same_name S (λ d e h. same_text_is (name_of d) (name_of e) h) apart

found_some : {X : Type 0} (test : X → Bool) (xs : List X) (x : X) → Has xs x → test x ≡ true → (y : X) × (find test xs ≡ Some y) × Has xs y × (test y ≡ true)
found_some test [] x (i, at) is = cc
found_some {X} test (a ∷ xs) x (i, at) is = by_test (test a) refl i at (λ j k. found_some test xs x (j, k) is)
  where
    by_test : (b : Bool) → test a ≡ b → (i : ℕ) → slice_get (a ∷ xs) i ≡ Some x → ((j : ℕ) → slice_get xs j ≡ Some x → (y : X) × (find test xs ≡ Some y) × Has xs y × (test y ≡ true))
        → (y : X) × (find test (a ∷ xs) ≡ Some y) × Has (a ∷ xs) y × (test y ≡ true)
    by_test true h i at later = (a, rw h refl, (0, refl), h)
    by_test false h zero at later = let one : a ≡ x = cc in let yes : test a ≡ true = subst (λ z. test z ≡ true) (sym one) is in cc
    by_test false h (suc i) at later = let r = later i at in (r.0, rw h r.1, (suc r.2.0, r.2.1), r.3)

module _ {X : Type 0} (alike : X → X → Bool) (self : (x : X) → alike x x ≡ true) (xs : List X) (distinct : Distinct alike xs) where
  finds_itself : (x : X) → Has xs x → find (λ z. alike x z) xs ≡ Some x
  finds_itself x at =
      let y = found_some (λ z. alike x z) xs x at (self x) in
      let one : x ≡ y.0 = distinct x y.0 at y.2 y.3 in
      y.1 ∙ ap (λ z. let o : Option X = Some z in o) (sym one)

  is_itself : (x y : X) → AreBoth alike xs xs x y → x ≡ y
  is_itself x y are = let e : ◌≡◌ {A = Option X} (Some x) (Some y) = sym (finds_itself x are.0) ∙ are.1 in cc

  stays : (keeps : X → X → Bool) → ((x : X) → keeps x x ≡ true) → (x : X) → Has xs x → is_kept alike keeps xs x ≡ true
  stays keeps kept x at = rw (finds_itself x at) (kept x)

at_each : {X : Type 0} (R : X → X → Type 0) (xs : List X) → ((k : ℕ) (x : X) → slice_get xs k ≡ Some x → R x x) → AtEach xs xs R
at_each {X} R xs all k x y p q = let e : ◌≡◌ {A = Option X} (Some x) (Some y) = sym p ∙ q in let one : x ≡ y = cc in subst (λ z. R x z) one (all k x p)

or_true : (a b : Bool) → b ≡ true → (a || b) ≡ true
or_true true b h = refl
or_true false b h = h

default_self : (o : Option Const) → same_default o o ≡ true
default_self None = refl
default_self (Some c) = same_const_self c

marks_self : (t : AidlType) → same_marks t t ≡ true
marks_self t = rw (same_bool_refl t.utf8, same_bool_refl t.heap) refl

result_marks_self : (o : Option AidlType) → same_result_marks o o ≡ true
result_marks_self None = refl
result_marks_self (Some t) = marks_self t

default_field : (k : Kind) (i : ℕ) (f : Field) → slice_get (parcelable_fields k) i ≡ Some f → slice_get (fields_of k) i ≡ Some f
default_field (Parcelable fs) i f e = e
default_field (Interface ms) i f e = cc
default_field (Union fs) i f e = cc
default_field (Enum b es) i f e = cc

union_field : (k : Kind) (i : ℕ) (f : Field) → slice_get (union_fields k) i ≡ Some f → slice_get (fields_of k) i ≡ Some f
union_field (Union fs) i f e = e
union_field (Interface ms) i f e = cc
union_field (Parcelable fs) i f e = cc
union_field (Enum b es) i f e = cc

module _ (S : List Decl) (hold : AllHold S) (names : HasDistinctNames S) where
  whole_is : (t : AidlType) → is_whole_type S t ≡ true → same S t S t ≡ true
  whole_is t h = same_refl S t (both (is_type S t) (not t.utf8 || is_string t.base) h).0

  result_self : (o : Option AidlType) → is_result_type S o ≡ true → same_result S o S o ≡ true
  result_self None h = refl
  result_self (Some t) h = whole_is t (both (is_whole_type S t) (not t.heap) h).0

  module _ (d : Decl) (at : Has S d) where
    sound : Holds S at.0 d
    sound = hold at.0 d at.1

    methods_apart : Distinct same_method (methods_of d.kind)
    methods_apart = distinct (λ m. m.name.0) same_method (methods_of d.kind) (λ m w h. same_text_is m.name.0 w.name.0 h) sound.methods

    enumerators_apart : Distinct same_enumerator (enumerators_of d.kind)
    enumerators_apart = distinct (λ x. x.name.0) same_enumerator (enumerators_of d.kind) (λ x y h. same_text_is x.name.0 y.name.0 h) sound.enumerators

    constants_apart : Distinct same_constant d.constants
    constants_apart = distinct (λ c. c.name.0) same_constant d.constants (λ c k h. same_text_is c.name.0 k.name.0 h) sound.constants

    types_hold : (list_all (λ f. is_field_type S f) (fields_of d.kind) ≡ true) × (list_all (λ m. has_method_types S m) (methods_of d.kind) ≡ true)
    types_hold = (sound.field_types, sound.method_types)

    field_self : (k : ℕ) (f : Field) → slice_get (fields_of d.kind) k ≡ Some f → same S f.ty S f.ty ≡ true
    field_self k f e = whole_is f.ty (both (is_whole_type S f.ty) (not f.ty.heap || may_be_on_heap S f.ty) (all_at (λ f. is_field_type S f) (fields_of d.kind) k f types_hold.0 e)).0

    method_types : (m : Method) → Has (methods_of d.kind) m → (is_result_type S m.result ≡ true) × (list_all (λ a. is_passed_type S a.ty) m.args ≡ true)
    method_types m has = both (is_result_type S m.result) (list_all (λ a. is_passed_type S a.ty) m.args) (all_at (λ m. has_method_types S m) (methods_of d.kind) has.0 m types_hold.1 has.1)

    argument_self : (m : Method) → Has (methods_of d.kind) m → (k : ℕ) (a : Arg) → slice_get m.args k ≡ Some a → same S a.ty S a.ty ≡ true
    argument_self m has k a e = whole_is a.ty (both (is_whole_type S a.ty) (not a.ty.heap) (all_at (λ a. is_passed_type S a.ty) m.args k a (method_types m has).1 e)).0

    of_methods : (R : Method → Method → Type 0) → ((m : Method) → Has (methods_of d.kind) m → R m m) → OfMethods d d R
    of_methods R all m w are = subst (λ z. R m z) (is_itself same_method (λ m. same_text_refl m.name.0) (methods_of d.kind) methods_apart m w are) (all m are.0)

    follows_itself : Follows S d S d
    follows_itself = record {
      methods = stays same_method (λ m. same_text_refl m.name.0) (methods_of d.kind) methods_apart (λ x y. true) (λ x. refl);
      ids = of_methods (λ m w. (m.id == w.id) ≡ true) (λ m has. eq_self m.id);
      results = of_methods (λ m w. same_result S m.result S w.result ≡ true) (λ m has. result_self m.result (method_types m has).0);
      argument_counts = of_methods (λ m w. (length m.args == length w.args) ≡ true) (λ m has. eq_self (length m.args));
      argument_types = of_methods (λ m w. AtEach m.args w.args (λ a b. same S a.ty S b.ty ≡ true)) (λ m has. at_each (λ a b. same S a.ty S b.ty ≡ true) m.args (argument_self m has));
      ways = of_methods (λ m w. AtEach m.args w.args (λ a b. (way_code a.way == way_code b.way) ≡ true)) (λ m has. at_each (λ a b. (way_code a.way == way_code b.way) ≡ true) m.args (λ k a e. eq_self (way_code a.way)));
      oneway = of_methods (λ m w. same_bool m.oneway w.oneway ≡ true) (λ m has. same_bool_refl m.oneway);
      fields = not_fewer (length (parcelable_fields d.kind)) (length (parcelable_fields d.kind)) (omega arith);
      names = at_each (λ f g. same_text f.name.0 g.name.0 ≡ true) (parcelable_fields d.kind) (λ k f e. same_text_refl f.name.0);
      types = at_each (λ f g. same S f.ty S g.ty ≡ true) (parcelable_fields d.kind) (λ k f e. field_self k f (default_field d.kind k f e));
      defaults = at_each (λ f g. same S f.ty S g.ty ≡ true → is_same_default S f S g ≡ true) (fields_with_default d.kind)
          (λ k f e alike. or_true (has_composite_default S f.ty || has_composite_default S f.ty) (same_default (default_in S f) (default_in S f)) (default_self (default_in S f)));
      additions = λ k g l e. let under = below (parcelable_fields d.kind) k g e in absurd (omega arith);
      fixed = λ c. same_bool_refl d.fixed;
      fixed_fields = λ c p q. not_fewer (length (fields_of d.kind)) (length (fields_of d.kind)) (omega arith);
      alternatives = not_fewer (length (union_fields d.kind)) (length (union_fields d.kind)) (omega arith);
      alternative_names = at_each (λ f g. same_text f.name.0 g.name.0 ≡ true) (union_fields d.kind) (λ k f e. same_text_refl f.name.0);
      alternative_types = at_each (λ f g. same S f.ty S g.ty ≡ true) (union_fields d.kind) (λ k f e. field_self k f (union_field d.kind k f e));
      backings = eq_self (backing_code d.kind);
      enumerators = stays same_enumerator (λ x. same_text_refl x.name.0) (enumerators_of d.kind) enumerators_apart (λ x y. int_eq x.value y.value) (λ x. (Decides-int_eq x.value x.value).1 refl);
      constants = stays same_constant (λ c. same_text_refl c.name.0) d.constants constants_apart (λ c k. (base_code c.ty == base_code k.ty) && same_const c.value k.value)
          (λ c. rw (eq_self (base_code c.ty), same_const_self c.value) refl);
      stability = same_bool_refl d.vintf;
      field_marks = at_each (λ f g. same_marks f.ty g.ty ≡ true) (fields_of d.kind) (λ k f e. marks_self f.ty);
      argument_marks = of_methods (λ m w. AtEach m.args w.args (λ a b. same_marks a.ty b.ty ≡ true)) (λ m has. at_each (λ a b. same_marks a.ty b.ty ≡ true) m.args (λ k a e. marks_self a.ty));
      result_marks = of_methods (λ m w. same_result_marks m.result w.result ≡ true) (λ m has. result_marks_self m.result);
    }

  decl_itself : (d e : Decl) → AreBoth same_name S S d e → d ≡ e
  decl_itself d e are = is_itself same_name (λ d. same_text_refl (dotted d.name.0)) S names d e are

  pub unbroken_self : Unbroken S S
  unbroken_self = record {
    stays = stays same_name (λ d. same_text_refl (dotted d.name.0)) S names (λ x y. true) (λ x. refl);
    kinds = λ d e are. subst (λ z. (kind_code d.kind == kind_code z.kind) ≡ true) (decl_itself d e are) (eq_self (kind_code d.kind));
    members = λ d e are. subst (λ z. Follows S d S z) (decl_itself d e are) (follows_itself d are.0);
  }

  pub broken_self : broken S S ≡ []
  broken_self = empty S S unbroken_self
