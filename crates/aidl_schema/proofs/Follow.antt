-- What follows a schema that follows another follows that one, rule by rule.
use Rattle.std.proofs.Common.{◌≡◌, ◌≤◌, ◌<◌, ℕ, ℤ, pos, zero, suc, Bool, true, false, not, ◌&&◌, ◌||◌, ◌==◌, nat_lt, cond, List, [], ◌∷◌, length, take, Option, Some, None, slice_get, refl, sym, ap, ◌∙◌, subst, arith}
use Rattle.std.specs.List.{find, list_any}
use Rattle.std.specs.Ordering.{int_eq}
use Rattle.std.proofs.lemmas.Bool.Decides.{nat_tests, Decides-int_eq}
use Rattle.aidl_base.specs.declared.constant.Const.{Const, roll-Const, out-roll-Const}
use Rattle.aidl_base.specs.declared.constant.Const.TheOpen.{Const-F}
use Rattle.aidl_schema.specs.declared.schema.Decl.{Decl}
use Rattle.aidl_schema.specs.declared.schema.Field.{Field}
use Rattle.aidl_schema.specs.declared.schema.Method.{Method}
use Rattle.aidl_schema.specs.declared.schema.Enumerator.{Enumerator}
use Rattle.aidl_schema.specs.declared.schema.Constant.{Constant}
use Rattle.aidl_schema.specs.declared.schema.Kind.{Kind}
use Rattle.aidl_schema.specs.declared.schema.Kind.TheVariants.{Interface, Parcelable, Union, Enum}
use Rattle.aidl_schema.specs.declared.schema.Backing.TheVariants as backing
use Rattle.aidl_schema.specs.declared.schema.Base.{Base}
use Rattle.aidl_schema.specs.declared.schema.Base.TheVariants as base
use Rattle.aidl_schema.specs.declared.schema.AidlType.{AidlType}
use Rattle.aidl_schema.specs.declared.schema.Shape.{Shape}
use Rattle.aidl_schema.specs.declared.schema.Shape.TheVariants as shape
use Rattle.aidl_schema.specs.Types.{form_of, form_of_decl, form_of_kind, is_one}
use Rattle.aidl_schema.specs.Constants.{is_enumerator, is_enumerator_of, is_number_of, is_boolean, is_string, is_constant_of, is_initializer_of}
use Rattle.aidl_schema.specs.Constants as constant
use Rattle.aidl_schema.specs.Containment.{fields_of, is_composite}
use Rattle.aidl_base.specs.Names.{dotted}
use Rattle.aidl_schema.specs.Same.{same_text, same_idents, same_bool, same_decl, same_base, base_code, is_named, decl_of, shape_code, same}
use Rattle.aidl_schema.specs.Names.{enumerators_of}
use Rattle.aidl_schema.specs.Valid.{has_initializer_of}
use Rattle.aidl_schema.specs.Broken.{same_name, same_method, same_enumerator, same_constant, is_there_and, is_kept, kind_code, parcelable_fields, union_fields, fields_with_default, same_const, default_by, zero_in, zero_of, same_default, is_one_value, has_composite_default, is_enum_without_zero, is_refused_addition, same_marks, same_result, same_result_marks}
use Rattle.aidl_schema.specs.Unbroken.{Has, AreBoth, AtEach, is_same_default, Unbroken}
use Rattle.aidl_schema.proofs.SameConst.{same_const_is}
use Rattle.aidl_schema.proofs.lemmas.Sames.{same_text_is, same_text_refl, same_idents_is, same_trans}
use Rattle.std.specs.Prelude.{is_none}
use Rattle.aidl_base.proofs.lemmas.Tests.{both}

-- numbers and truth values
pub eq_is : (m n : ℕ) → (m == n) ≡ true → m ≡ n
eq_is m n e = grind (arith, nat_tests)

pub eq_trans : (l m n : ℕ) → (l == m) ≡ true → (m == n) ≡ true → (l == n) ≡ true
eq_trans l m n p q = subst (λ k. (k == n) ≡ true) (sym (eq_is l m p)) q

pub no_fewer : (m n : ℕ) → nat_lt m n ≡ false → n ≤ m
no_fewer m n e = grind (arith, nat_tests)

pub not_fewer : (m n : ℕ) → n ≤ m → nat_lt m n ≡ false
not_fewer m n l = grind (arith, nat_tests)

pub bool_is : (a b : Bool) → same_bool a b ≡ true → a ≡ b
bool_is true true h = refl
bool_is true false h = cc
bool_is false true h = cc
bool_is false false h = refl

pub bool_trans : (a b c : Bool) → same_bool a b ≡ true → same_bool b c ≡ true → same_bool a c ≡ true
bool_trans a b c p q = subst (λ x. same_bool x c ≡ true) (sym (bool_is a b p)) q

pub text_trans : (x y z : List ℕ) → same_text x y ≡ true → same_text y z ≡ true → same_text x z ≡ true
text_trans x y z p q = subst (λ w. same_text w z ≡ true) (sym (same_text_is x y p)) q

pub int_trans : (x y z : ℤ) → int_eq x y ≡ true → int_eq y z ≡ true → int_eq x z ≡ true
int_trans x y z p q = subst (λ w. int_eq w z ≡ true) (sym ((Decides-int_eq x y).0 p)) q

pub const_trans : (x y z : Const) → same_const x y ≡ true → same_const y z ≡ true → same_const x z ≡ true
const_trans x y z p q = subst (λ w. same_const w z ≡ true) (sym (same_const_is x y p)) q

pub marks_trans : (t u w : AidlType) → same_marks t u ≡ true → same_marks u w ≡ true → same_marks t w ≡ true
marks_trans t u w p q =
    let one = both (same_bool t.utf8 u.utf8) (same_bool t.heap u.heap) p in
    let two = both (same_bool u.utf8 w.utf8) (same_bool u.heap w.heap) q in
    rw (bool_trans t.utf8 u.utf8 w.utf8 one.0 two.0, bool_trans t.heap u.heap w.heap one.1 two.1) refl

-- what stands where
pub at_hand : {X : Type 0} (xs : List X) (k : ℕ) → k < length xs → (x : X) × (slice_get xs k ≡ Some x)
at_hand [] k l = absurd (omega arith)
at_hand (x ∷ xs) zero l = (x, refl)
at_hand (x ∷ xs) (suc k) l = at_hand xs k (omega arith)

pub below : {X : Type 0} (xs : List X) (k : ℕ) (x : X) → slice_get xs k ≡ Some x → k < length xs
below [] k x e = cc
below (y ∷ xs) zero x e = omega arith
below (y ∷ xs) (suc k) x e = let l = below xs k x e in omega arith

pub each_on : {X : Type 0} (R S T : X → X → Type 0) (xs ys zs : List X) → length xs ≤ length ys → AtEach xs ys R → AtEach ys zs S
    → ((x y z : X) → R x y → S y z → T x z) → AtEach xs zs T
each_on R S T xs ys zs few first second on k x z p q =
    let l = below xs k x p in
    let y = at_hand ys k (omega arith) in
    on x y.0 z (first k x y.0 p y.1) (second k y.0 z y.1 q)

-- what is found by its name
some_passes : {X : Type 0} (test : X → Bool) (o : Option X) → is_there_and test o ≡ true → (x : X) × (o ≡ Some x) × (test x ≡ true)
some_passes test None h = cc
some_passes test (Some x) h = (x, refl, h)

found_is : {X : Type 0} (test : X → Bool) (xs : List X) (y : X) → find test xs ≡ Some y → Has xs y × (test y ≡ true)
found_is test [] y e = cc
found_is {X} test (x ∷ xs) y e = by_test (test x) refl e (λ k. found_is test xs y k)
  where
    by_test : (b : Bool) → test x ≡ b → find test (x ∷ xs) ≡ Some y → (find test xs ≡ Some y → Has xs y × (test y ≡ true)) → Has (x ∷ xs) y × (test y ≡ true)
    by_test true is e later =
        let here : ◌≡◌ {A = Option X} (Some x) (Some y) = rw is at e in
        let one : x ≡ y = cc in
        ((0, here), subst (λ z. test z ≡ true) one is)
    by_test false is e later =
        let there : find test xs ≡ Some y = rw is at e in
        let r = later there in
        ((suc r.0.0, r.0.1), r.1)

-- names: what is found by a name is found by the name of what was found
module _ {X : Type 0} (alike : X → X → Bool) (carry : (x y : X) (zs : List X) → alike x y ≡ true → find (λ z. alike x z) zs ≡ find (λ z. alike y z) zs) where
  -- the one between
  pub between : (keeps : X → X → Bool) (xs ys zs : List X) (x z : X) → is_kept alike keeps ys x ≡ true → AreBoth alike xs zs x z
      → (y : X) × AreBoth alike xs ys x y × AreBoth alike ys zs y z × (keeps x y ≡ true)
  between keeps xs ys zs x z kept are =
      let y = some_passes (λ y. keeps x y) (find (λ w. alike x w) ys) kept in
      let there = found_is (λ w. alike x w) ys y.0 y.1 in
      (y.0, (are.0, y.1), (there.0, sym (carry x y.0 zs there.1) ∙ are.1), y.2)

  pub kept_on : (R S T : X → X → Bool) (ys zs : List X) (x : X) → is_kept alike R ys x ≡ true → ((y : X) → Has ys y → is_kept alike S zs y ≡ true)
      → ((y z : X) → R x y ≡ true → S y z ≡ true → T x z ≡ true) → is_kept alike T zs x ≡ true
  kept_on R S T ys zs x kept all on =
      let y = some_passes (λ y. R x y) (find (λ w. alike x w) ys) kept in
      let there = found_is (λ w. alike x w) ys y.0 y.1 in
      let z = some_passes (λ z. S y.0 z) (find (λ w. alike y.0 w) zs) (all y.0 there.0) in
      let found : find (λ w. alike x w) zs ≡ Some z.0 = carry x y.0 zs there.1 ∙ z.1 in
      rw found (on y.0 z.0 y.2 z.2)

pub carry_methods : (x y : Method) (zs : List Method) → same_method x y ≡ true → find (λ z. same_method x z) zs ≡ find (λ z. same_method y z) zs
carry_methods x y zs h = ap (λ n. find (λ (z : Method). same_text n z.name.0) zs) (same_text_is x.name.0 y.name.0 h)

pub carry_enumerators : (x y : Enumerator) (zs : List Enumerator) → same_enumerator x y ≡ true → find (λ z. same_enumerator x z) zs ≡ find (λ z. same_enumerator y z) zs
carry_enumerators x y zs h = ap (λ n. find (λ (z : Enumerator). same_text n z.name.0) zs) (same_text_is x.name.0 y.name.0 h)

pub carry_constants : (x y : Constant) (zs : List Constant) → same_constant x y ≡ true → find (λ z. same_constant x z) zs ≡ find (λ z. same_constant y z) zs
carry_constants x y zs h = ap (λ n. find (λ (z : Constant). same_text n z.name.0) zs) (same_text_is x.name.0 y.name.0 h)

pub carry_decls : (x y : Decl) (zs : List Decl) → same_name x y ≡ true → find (λ z. same_name x z) zs ≡ find (λ z. same_name y z) zs
carry_decls x y zs h = ap (λ n. find (λ (z : Decl). same_text n (dotted z.name.0)) zs) (same_text_is (dotted x.name.0) (dotted y.name.0) h)

-- counts of fields
pub fields_few : (k l : Kind) → length (parcelable_fields k) ≤ length (parcelable_fields l) → length (union_fields k) ≤ length (union_fields l) → length (fields_of k) ≤ length (fields_of l)
fields_few (Interface ms) l p q = omega arith
fields_few (Enum b es) l p q = omega arith
fields_few (Parcelable fs) (Parcelable gs) p q = p
fields_few (Parcelable fs) (Union gs) p q = omega arith
fields_few (Parcelable fs) (Interface ms) p q = p
fields_few (Parcelable fs) (Enum b es) p q = p
fields_few (Union fs) (Union gs) p q = q
fields_few (Union fs) (Parcelable gs) p q = omega arith
fields_few (Union fs) (Interface ms) p q = q
fields_few (Union fs) (Enum b es) p q = q

first_few : (fs gs : List Field) → length fs ≤ length gs → length (take 1 fs) ≤ length (take 1 gs)
first_few [] gs l = omega arith
first_few (f ∷ fs) [] l = absurd (omega arith)
first_few (f ∷ fs) (g ∷ gs) l = omega arith

pub defaults_few : (k l : Kind) → (kind_code k == kind_code l) ≡ true → length (parcelable_fields k) ≤ length (parcelable_fields l) → length (union_fields k) ≤ length (union_fields l)
    → length (fields_with_default k) ≤ length (fields_with_default l)
defaults_few (Interface ms) l e p q = omega arith
defaults_few (Enum b es) l e p q = omega arith
defaults_few (Parcelable fs) (Parcelable gs) e p q = p
defaults_few (Parcelable fs) (Union gs) e p q = cc
defaults_few (Parcelable fs) (Interface ms) e p q = cc
defaults_few (Parcelable fs) (Enum b es) e p q = cc
defaults_few (Union fs) (Union gs) e p q = first_few fs gs q
defaults_few (Union fs) (Parcelable gs) e p q = cc
defaults_few (Union fs) (Interface ms) e p q = cc
defaults_few (Union fs) (Enum b es) e p q = cc

of_first : {X : Type 0} (xs : List X) (k : ℕ) (x : X) → slice_get (take 1 xs) k ≡ Some x → slice_get xs k ≡ Some x
of_first [] k x e = e
of_first (y ∷ xs) zero x e = e
of_first (y ∷ xs) (suc k) x e = cc

-- the types where defaults are compared
pub default_types : (A : List Decl) (k : Kind) (B : List Decl) (l : Kind) → (kind_code k == kind_code l) ≡ true
    → AtEach (parcelable_fields k) (parcelable_fields l) (λ f g. same A f.ty B g.ty ≡ true) → AtEach (union_fields k) (union_fields l) (λ f g. same A f.ty B g.ty ≡ true)
    → AtEach (fields_with_default k) (fields_with_default l) (λ f g. same A f.ty B g.ty ≡ true)
default_types A (Interface ms) B l e p q i f g at to = cc
default_types A (Enum b es) B l e p q i f g at to = cc
default_types A (Parcelable fs) B (Parcelable gs) e p q i f g at to = p i f g at to
default_types A (Parcelable fs) B (Union gs) e p q i f g at to = cc
default_types A (Parcelable fs) B (Interface ms) e p q i f g at to = cc
default_types A (Parcelable fs) B (Enum b es) e p q i f g at to = cc
default_types A (Union fs) B (Union gs) e p q i f g at to = q i f g (of_first fs i f at) (of_first gs i g to)
default_types A (Union fs) B (Parcelable gs) e p q i f g at to = cc
default_types A (Union fs) B (Interface ms) e p q i f g at to = cc
default_types A (Union fs) B (Enum b es) e p q i f g at to = cc

pub default_trans : (o p q : Option Const) → same_default o p ≡ true → same_default p q ≡ true → same_default o q ≡ true
default_trans None None q h k = k
default_trans None (Some d) q h k = cc
default_trans (Some c) None q h k = cc
default_trans (Some c) (Some d) None h k = cc
default_trans (Some c) (Some d) (Some e) h k = const_trans c d e h k

pub result_trans : (A B C : List Decl) (o p q : Option AidlType) → same_result A o B p ≡ true → same_result B p C q ≡ true → same_result A o C q ≡ true
result_trans A B C None None q h k = k
result_trans A B C None (Some u) q h k = cc
result_trans A B C (Some t) None q h k = cc
result_trans A B C (Some t) (Some u) None h k = cc
result_trans A B C (Some t) (Some u) (Some w) h k = same_trans A t B u C w h k

pub result_marks_trans : (A B : List Decl) (o p q : Option AidlType) → same_result A o B p ≡ true → same_result_marks o p ≡ true → same_result_marks p q ≡ true → same_result_marks o q ≡ true
result_marks_trans A B None p q r h k = refl
result_marks_trans A B (Some t) None q r h k = cc
result_marks_trans A B (Some t) (Some u) None r h k = refl
result_marks_trans A B (Some t) (Some u) (Some w) r h k = marks_trans t u w h k

pub uncompared_trans : (a b c x y z : Bool) → b ≡ c → ((x ≡ true) → (y ≡ true) → z ≡ true) → ((a || b) || x) ≡ true → ((b || c) || y) ≡ true → ((a || c) || z) ≡ true
uncompared_trans true b c x y z same on h k = refl
uncompared_trans false true true x y z same on h k = refl
uncompared_trans false true false x y z same on h k = cc
uncompared_trans false false true x y z same on h k = refl
uncompared_trans false false false x y z same on h k = on h k

-- kinds and forms
composite_code : (k : Kind) → is_composite (form_of_kind k) ≡ (kind_code k == 1 || kind_code k == 2)
composite_code (Interface ms) = refl
composite_code (Parcelable fs) = refl
composite_code (Union fs) = refl
composite_code (Enum backing.Byte es) = refl
composite_code (Enum backing.Int es) = refl
composite_code (Enum backing.Long es) = refl

abbrev composite_decl : Option Decl → Bool
composite_decl o = is_composite (form_of_decl o)

composite_base : (S : List Decl) (b : Base) → is_composite (form_of S b) ≡ composite_decl (decl_of S b)
composite_base S base.Boolean = refl
composite_base S base.Byte = refl
composite_base S base.Char = refl
composite_base S base.Int = refl
composite_base S base.Long = refl
composite_base S base.Text = refl
composite_base S (base.Named n) = refl

unnamed : (S : List Decl) (b : Base) → is_named b ≡ false → decl_of S b ≡ None
unnamed S base.Boolean h = refl
unnamed S base.Byte h = refl
unnamed S base.Char h = refl
unnamed S base.Int h = refl
unnamed S base.Long h = refl
unnamed S base.Text h = refl
unnamed S (base.Named n) h = cc

declared : (S : List Decl) (b : Base) (d : Decl) → decl_of S b ≡ Some d → Has S d
declared S base.Boolean d e = cc
declared S base.Byte d e = cc
declared S base.Char d e = cc
declared S base.Int d e = cc
declared S base.Long d e = cc
declared S base.Text d e = cc
declared S (base.Named n) d e = (n, e)

-- Declarations of one canonical name are one.
abbrev pub HasDistinctNames : List Decl → Type 0
HasDistinctNames S = (d e : Decl) → Has S d → Has S e → same_name d e ≡ true → d ≡ e

-- types that are the same have the same base, shape and nullable flag
pub record Parts (A : List Decl) (t : AidlType) (B : List Decl) (u : AidlType) : Type 0 where
  pub bases : same_base A t.base B u.base ≡ true
  pub shapes : is_one t.shape ≡ is_one u.shape
  pub flags : t.nullable ≡ u.nullable

one_shape : (s r : Shape) → (shape_code s == shape_code r) ≡ true → is_one s ≡ is_one r
one_shape shape.One shape.One h = refl
one_shape shape.One shape.Array h = cc
one_shape shape.One shape.List h = cc
one_shape shape.Array shape.One h = cc
one_shape shape.Array shape.Array h = refl
one_shape shape.Array shape.List h = refl
one_shape shape.List shape.One h = cc
one_shape shape.List shape.Array h = refl
one_shape shape.List shape.List h = refl

pub parts_of : (A : List Decl) (t : AidlType) (B : List Decl) (u : AidlType) → same A t B u ≡ true → Parts A t B u
parts_of A t B u h =
    let one = both (same_base A t.base B u.base) ((shape_code t.shape == shape_code u.shape) && same_bool t.nullable u.nullable) h in
    let two = both (shape_code t.shape == shape_code u.shape) (same_bool t.nullable u.nullable) one.1 in
    record { bases = one.0; shapes = one_shape t.shape u.shape two.0; flags = bool_is t.nullable u.nullable two.1 }

-- enums with a 0
zero_stays : (es fs : List Enumerator) → ((x : Enumerator) → Has es x → is_kept same_enumerator (λ x y. int_eq x.value y.value) fs x ≡ true)
    → list_any (λ e. int_eq e.value (pos 0)) es ≡ true → list_any (λ e. int_eq e.value (pos 0)) fs ≡ true
zero_stays [] fs kept h = cc
zero_stays (e ∷ es) fs kept h = by_test (int_eq e.value (pos 0)) refl (λ k. zero_stays es fs (λ x at. kept x (suc at.0, at.1)) k)
  where
    any : (fs : List Enumerator) (y : Enumerator) → Has fs y → int_eq y.value (pos 0) ≡ true → list_any (λ e. int_eq e.value (pos 0)) fs ≡ true
    any [] y (i, at) is = cc
    any (f ∷ fs) y (zero, at) is = let one : f ≡ y = cc in let here : int_eq f.value (pos 0) ≡ true = subst (λ z. int_eq z.value (pos 0) ≡ true) (sym one) is in rw here refl
    any (f ∷ fs) y (suc i, at) is = by_first (int_eq f.value (pos 0)) (any fs y (i, at) is)
      where
        by_first : (b : Bool) → list_any (λ e. int_eq e.value (pos 0)) fs ≡ true → (b || list_any (λ e. int_eq e.value (pos 0)) fs) ≡ true
        by_first true k = refl
        by_first false k = k

    by_test : (b : Bool) → int_eq e.value (pos 0) ≡ b → (list_any (λ e. int_eq e.value (pos 0)) es ≡ true → list_any (λ e. int_eq e.value (pos 0)) fs ≡ true)
        → list_any (λ e. int_eq e.value (pos 0)) fs ≡ true
    by_test true is later =
        let y = some_passes (λ y. int_eq e.value y.value) (find (λ w. same_enumerator e w) fs) (kept e (0, refl)) in
        let there = found_is (λ w. same_enumerator e w) fs y.0 y.1 in
        let value : e.value ≡ y.0.value = (Decides-int_eq e.value y.0.value).0 y.2 in
        any fs y.0 there.0 (subst (λ z. int_eq z (pos 0) ≡ true) value is)
    by_test false is later = later (rw is at h)

kind_zero_stays : (k l : Kind) → (kind_code k == kind_code l) ≡ true → ((x : Enumerator) → Has (enumerators_of k) x → is_kept same_enumerator (λ x y. int_eq x.value y.value) (enumerators_of l) x ≡ true)
    → is_enumerator k (pos 0) ≡ true → is_enumerator l (pos 0) ≡ true
kind_zero_stays (Interface ms) l e kept h = cc
kind_zero_stays (Parcelable fs) l e kept h = cc
kind_zero_stays (Union fs) l e kept h = cc
kind_zero_stays (Enum b es) (Enum c fs) e kept h = zero_stays es fs kept h
kind_zero_stays (Enum b es) (Interface ms) e kept h = cc
kind_zero_stays (Enum b es) (Parcelable gs) e kept h = cc
kind_zero_stays (Enum b es) (Union gs) e kept h = cc

-- the default of an enum is 0
enum_zero : (k : Kind) → (kind_code k == 3) ≡ true → zero_of (form_of_kind k) ≡ Some (roll-Const (Const-F.Number (pos 0)))
enum_zero (Interface ms) h = cc
enum_zero (Parcelable fs) h = cc
enum_zero (Union fs) h = cc
enum_zero (Enum backing.Byte es) h = refl
enum_zero (Enum backing.Int es) h = refl
enum_zero (Enum backing.Long es) h = refl

form_at : (S : List Decl) (b : Base) (d : Decl) → decl_of S b ≡ Some d → form_of S b ≡ form_of_kind d.kind
form_at S base.Boolean d e = cc
form_at S base.Byte d e = cc
form_at S base.Char d e = cc
form_at S base.Int d e = cc
form_at S base.Long d e = cc
form_at S base.Text d e = cc
form_at S (base.Named n) d e = ap form_of_decl e

-- an initializer that is the number 0, of an enum's type, is an enumerator's value
zero_is_one : (S : List Decl) (b : Base) (d : Decl) → decl_of S b ≡ Some d → is_constant_of S b (roll-Const (Const-F.Number (pos 0))) ≡ true → is_enumerator d.kind (pos 0) ≡ true
zero_is_one S base.Boolean d e h = cc
zero_is_one S base.Byte d e h = cc
zero_is_one S base.Char d e h = cc
zero_is_one S base.Int d e h = cc
zero_is_one S base.Long d e h = cc
zero_is_one S base.Text d e h = cc
zero_is_one S (base.Named n) d e h =
    let level : constant.is_single S (base.Named n) (Const-F.Number (pos 0)) ≡ true = subst (λ o. constant.is_single S (base.Named n) o ≡ true) (out-roll-Const (Const-F.Number (pos 0))) h in
    subst (λ o. is_enumerator_of o (pos 0) ≡ true) e level

abbrev without_zero : Option Decl → Bool
without_zero o = is_there_and (λ d. kind_code d.kind == 3) o && not (is_enumerator_of o (pos 0))

-- the same parts are the same text
one_name : (d e : Decl) → same_idents d.name.0 e.name.0 ≡ true → same_name d e ≡ true
one_name d e h = subst (λ n. same_text (dotted d.name.0) (dotted n) ≡ true) (same_idents_is d.name.0 e.name.0 h) (same_text_refl (dotted d.name.0))

module _ (B C : List Decl) (U : Unbroken B C) (distinct : HasDistinctNames C) where
  -- declarations of one name, in both
  met : (d e : Decl) → Has B d → Has C e → same_name d e ≡ true → AreBoth same_name B C d e
  met d e at to is =
      let x = some_passes (λ y. true) (find (λ z. same_name d z) C) (U.stays d at) in
      let there = found_is (λ z. same_name d z) C x.0 x.1 in
      let names : dotted e.name.0 ≡ dotted d.name.0 = sym (same_text_is (dotted d.name.0) (dotted e.name.0) is) in
      let alike : same_name e x.0 ≡ true = subst (λ n. same_text n (dotted x.0.name.0) ≡ true) (sym names) there.1 in
      let one : e ≡ x.0 = distinct e x.0 to there.0 alike in
      (at, x.1 ∙ ap (λ z. let o : Option Decl = Some z in o) (sym one))

  -- what two bases that are the same declare
  by_base : (P : Option Decl → Option Decl → Type 0) (b c : Base) → P None None → ((d e : Decl) → decl_of B b ≡ Some d → decl_of C c ≡ Some e → AreBoth same_name B C d e → P (Some d) (Some e))
      → same_base B b C c ≡ true → P (decl_of B b) (decl_of C c)
  by_base P b c built named h =
      let two = both (base_code b == base_code c) (cond (is_named b) (same_decl (decl_of B b) (decl_of C c)) true) h in
      let code : is_named b ≡ is_named c = ap (λ n. n == 6) (eq_is (base_code b) (base_code c) two.0) in
      by_name (is_named b) refl code two.1
    where
      by_both : (o p : Option Decl) → decl_of B b ≡ o → decl_of C c ≡ p → same_decl o p ≡ true → P o p
      by_both None p at to k = cc
      by_both (Some d) None at to k = cc
      by_both (Some d) (Some e) at to k = named d e at to (met d e (declared B b d at) (declared C c e to) (one_name d e k))

      by_name : (n : Bool) → is_named b ≡ n → is_named b ≡ is_named c → cond (is_named b) (same_decl (decl_of B b) (decl_of C c)) true ≡ true → P (decl_of B b) (decl_of C c)
      by_name true is code k = by_both (decl_of B b) (decl_of C c) refl refl (rw is at k)
      by_name false is code k =
          let first : decl_of B b ≡ None = unnamed B b is in
          let second : decl_of C c ≡ None = unnamed C c (sym code ∙ is) in
          rw (first, second) built

  pub composite_on : (b c : Base) → same_base B b C c ≡ true → is_composite (form_of B b) ≡ is_composite (form_of C c)
  composite_on b c h =
      composite_base B b
      ∙ by_base (λ o p. composite_decl o ≡ composite_decl p) b c refl
      (λ d e at to are. composite_code d.kind ∙ ap (λ n. n == 1 || n == 2) (eq_is (kind_code d.kind) (kind_code e.kind) (U.kinds d e are)) ∙ sym (composite_code e.kind)) h
      ∙ sym (composite_base C c)

  pub default_on : (t u : AidlType) → same B t C u ≡ true → has_composite_default B t ≡ has_composite_default C u
  default_on t u h =
      let p = parts_of B t C u h in
      rw (p.shapes, p.flags, composite_on t.base u.base p.bases) refl

  -- a 0 that isn't there was not there before
  no_zero : (d e : Decl) → AreBoth same_name B C d e → is_enumerator e.kind (pos 0) ≡ false → is_enumerator d.kind (pos 0) ≡ false
  no_zero d e are z = by_test (is_enumerator d.kind (pos 0)) refl
    where
      by_test : (b : Bool) → is_enumerator d.kind (pos 0) ≡ b → is_enumerator d.kind (pos 0) ≡ false
      by_test true is = let stays = kind_zero_stays d.kind e.kind (U.kinds d e are) (U.members d e are).enumerators is in cc
      by_test false is = is

  -- An enum without a 0 had none, so a field of it without an initializer was refused before, or had an initializer that
  -- isn't its default now.
  enum_on : (g h : Field) → same B g.ty C h.ty ≡ true → is_one_value h.ty ≡ true → is_same_default B g C h ≡ true → has_initializer_of B g.ty g.initial ≡ true
      → has_composite_default B g.ty ≡ false → (is_enum_without_zero B g.ty.base && is_none g.initial) ≡ false → (is_enum_without_zero C h.ty.base && is_none h.initial) ≡ false
  enum_on g h alike single default initial plain =
      by_base (λ o p. (without_zero o && is_none g.initial) ≡ false → (without_zero p && is_none h.initial) ≡ false) g.ty.base h.ty.base (λ fine. refl) decide (parts_of B g.ty C h.ty alike).bases
    where
      decide : (d e : Decl) → decl_of B g.ty.base ≡ Some d → decl_of C h.ty.base ≡ Some e → AreBoth same_name B C d e
          → (without_zero (Some d) && is_none g.initial) ≡ false → (without_zero (Some e) && is_none h.initial) ≡ false
      decide d e at to are fine = by_kind (kind_code e.kind == 3) refl
        where
          by_initials : (gi hi : Option Const) → g.initial ≡ gi → h.initial ≡ hi → (kind_code e.kind == 3) ≡ true → is_enumerator e.kind (pos 0) ≡ false
              → (without_zero (Some e) && is_none h.initial) ≡ false
          by_initials gi (Some c) p q k z = rw (k, z, q) refl
          by_initials None None p q k z =
              let code : (kind_code d.kind == 3) ≡ true = subst (λ n. (n == 3) ≡ true) (sym (eq_is (kind_code d.kind) (kind_code e.kind) (U.kinds d e are))) k in
              let gone : is_enumerator d.kind (pos 0) ≡ false = no_zero d e are z in
              let no : true ≡ false = rw (code, gone, p) at fine in
              cc
          by_initials (Some c) None p q k z =
              let parts = parts_of B g.ty C h.ty alike in
              let flags = both (is_one h.ty.shape) (not h.ty.nullable) single in
              let nullable : h.ty.nullable ≡ false = is_false h.ty.nullable flags.1 in
              let other : has_composite_default C h.ty ≡ false = sym (default_on g.ty h.ty alike) ∙ plain in
              let zero : zero_in C h.ty ≡ Some (roll-Const (Const-F.Number (pos 0))) = rw (nullable, flags.0, form_at C h.ty.base e to) (enum_zero e.kind k) in
              let now : same_default (default_by g.initial (zero_in B g.ty)) (default_by h.initial (zero_in C h.ty)) ≡ true = rw (plain, other) at default in
              let equal : same_const c (roll-Const (Const-F.Number (pos 0))) ≡ true = rw (p, q, zero) at now in
              let is : c ≡ roll-Const (Const-F.Number (pos 0)) = same_const_is c (roll-Const (Const-F.Number (pos 0))) equal in
              let one : is_one g.ty.shape ≡ true = parts.shapes ∙ flags.0 in
              let of_type : is_constant_of B g.ty.base c ≡ true = rw (p, one) at initial in
              let there : is_enumerator d.kind (pos 0) ≡ true = zero_is_one B g.ty.base d at (subst (λ x. is_constant_of B g.ty.base x ≡ true) is of_type) in
              let gone : is_enumerator d.kind (pos 0) ≡ false = no_zero d e are z in
              cc
            where
              is_false : (b : Bool) → not b ≡ true → b ≡ false
              is_false true h = cc
              is_false false h = refl

          by_zero : (b : Bool) → is_enumerator e.kind (pos 0) ≡ b → (kind_code e.kind == 3) ≡ true → (without_zero (Some e) && is_none h.initial) ≡ false
          by_zero true z k = rw (k, z) refl
          by_zero false z k = by_initials g.initial h.initial refl refl k z

          by_kind : (b : Bool) → (kind_code e.kind == 3) ≡ b → (without_zero (Some e) && is_none h.initial) ≡ false
          by_kind true k = by_zero (is_enumerator e.kind (pos 0)) refl k
          by_kind false k = rw k refl

  pub refused_on : (g h : Field) → same B g.ty C h.ty ≡ true → is_same_default B g C h ≡ true → has_initializer_of B g.ty g.initial ≡ true
      → is_refused_addition B g ≡ false → is_refused_addition C h ≡ false
  refused_on g h alike default initial fine = by_single (is_one_value h.ty) refl
    where
      parts : Parts B g.ty C h.ty
      parts = parts_of B g.ty C h.ty alike

      either : (a b : Bool) → (a || b) ≡ false → (a ≡ false) × (b ≡ false)
      either true b h = cc
      either false b h = (refl, h)

      by_single : (b : Bool) → is_one_value h.ty ≡ b → is_refused_addition C h ≡ false
      by_single false is = rw is refl
      by_single true is =
          let before : is_one_value g.ty ≡ true = rw (parts.shapes, parts.flags) is in
          let rest : (is_composite (form_of B g.ty.base) || (is_enum_without_zero B g.ty.base && is_none g.initial)) ≡ false = rw before at fine in
          let two = either (is_composite (form_of B g.ty.base)) (is_enum_without_zero B g.ty.base && is_none g.initial) rest in
          let plain : has_composite_default B g.ty ≡ false = rw (before, two.0) refl in
          let composite : is_composite (form_of C h.ty.base) ≡ false = sym (composite_on g.ty.base h.ty.base parts.bases) ∙ two.0 in
          rw (is, composite) (enum_on g h alike is default initial plain two.1)
