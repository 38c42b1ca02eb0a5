-- *law_chain*: what follows a schema that follows another follows that one; and a schema follows itself.
use Rattle.std.proofs.Common.{◌≡◌, ◌≤◌, ◌<◌, ℕ, Bool, true, false, ◌&&◌, ◌||◌, ◌==◌, nat_lt, List, [], length, Some, slice_get, refl, sym, ◌∙◌, subst, arith}
use Rattle.std.specs.Ordering.{int_eq}
use Rattle.std.proofs.lemmas.Bool.Decides.{nat_tests}
use Rattle.aidl_schema.specs.declared.schema.Decl.{Decl}
use Rattle.aidl_schema.specs.declared.schema.Field.{Field}
use Rattle.aidl_schema.specs.declared.schema.Method.{Method}
use Rattle.aidl_schema.specs.declared.schema.Arg.{Arg}
use Rattle.aidl_schema.specs.declared.schema.Constant.{Constant}
use Rattle.aidl_schema.specs.declared.schema.Kind.{Kind}
use Rattle.aidl_schema.specs.declared.schema.Kind.TheVariants.{Interface, Parcelable, Union, Enum}
use Rattle.aidl_schema.specs.Containment.{fields_of}
use Rattle.aidl_schema.specs.Same.{same_text, same_bool, same, base_code}
use Rattle.aidl_schema.specs.Holds.{AllHold}
use Rattle.aidl_schema.specs.Names.{methods_of, enumerators_of}
use Rattle.aidl_schema.specs.Valid.{has_initializer_of}
use Rattle.aidl_schema.specs.Broken.{same_name, same_method, same_enumerator, same_constant, kind_code, backing_code, parcelable_fields, union_fields, fields_with_default, way_code, same_const, default_in, same_default, has_composite_default, is_refused_addition, same_marks, same_result, broken}
use Rattle.aidl_schema.specs.Unbroken.{AreBoth, AtEach, OfMethods, is_same_default, Follows, Unbroken}
use Rattle.aidl_schema.proofs.Follow.{HasDistinctNames, eq_is, eq_trans, no_fewer, not_fewer, bool_is, bool_trans, text_trans, int_trans, const_trans, marks_trans, at_hand, below, each_on, between, kept_on, carry_methods, carry_enumerators, carry_constants, carry_decls, fields_few, defaults_few, default_types, default_trans, result_trans, result_marks_trans, uncompared_trans, default_on, refused_on}
use Rattle.aidl_schema.proofs.lemmas.Sames.{same_trans}
use Rattle.aidl_base.proofs.lemmas.Tests.{both, all_at}
use Rattle.aidl_schema.proofs.Unbroken.{unbroken, empty}

default_at : (k : Kind) (i : ℕ) (f : Field) → slice_get (parcelable_fields k) i ≡ Some f → slice_get (fields_with_default k) i ≡ Some f
default_at (Parcelable fs) i f e = e
default_at (Interface ms) i f e = cc
default_at (Union fs) i f e = cc
default_at (Enum b es) i f e = cc

field_at : (k : Kind) (i : ℕ) (f : Field) → slice_get (parcelable_fields k) i ≡ Some f → slice_get (fields_of k) i ≡ Some f
field_at (Parcelable fs) i f e = e
field_at (Interface ms) i f e = cc
field_at (Union fs) i f e = cc
field_at (Enum b es) i f e = cc

constant_on : (c k l : Constant) → ((base_code c.ty == base_code k.ty) && same_const c.value k.value) ≡ true → ((base_code k.ty == base_code l.ty) && same_const k.value l.value) ≡ true
    → ((base_code c.ty == base_code l.ty) && same_const c.value l.value) ≡ true
constant_on c k l p q =
    let one = both (base_code c.ty == base_code k.ty) (same_const c.value k.value) p in
    let two = both (base_code k.ty == base_code l.ty) (same_const k.value l.value) q in
    rw (eq_trans (base_code c.ty) (base_code k.ty) (base_code l.ty) one.0 two.0, const_trans c.value k.value l.value one.1 two.1) refl

module _ (A B C : List Decl) (hold : AllHold B) (distinct : HasDistinctNames C) (first : Unbroken A B) (second : Unbroken B C) where
  module _ (d e x : Decl) (de : AreBoth same_name A B d e) (ex : AreBoth same_name B C e x) where
    F : Follows A d B e
    F = first.members d e de

    G : Follows B e C x
    G = second.members e x ex

    fewer : length (parcelable_fields d.kind) ≤ length (parcelable_fields e.kind)
    fewer = no_fewer (length (parcelable_fields e.kind)) (length (parcelable_fields d.kind)) F.fields

    fewer_on : length (parcelable_fields e.kind) ≤ length (parcelable_fields x.kind)
    fewer_on = no_fewer (length (parcelable_fields x.kind)) (length (parcelable_fields e.kind)) G.fields

    fewer_tags : length (union_fields d.kind) ≤ length (union_fields e.kind)
    fewer_tags = no_fewer (length (union_fields e.kind)) (length (union_fields d.kind)) F.alternatives

    fewer_tags_on : length (union_fields e.kind) ≤ length (union_fields x.kind)
    fewer_tags_on = no_fewer (length (union_fields x.kind)) (length (union_fields e.kind)) G.alternatives

    -- of methods, and of their arguments
    methods_on : (R S T : Method → Method → Type 0) → OfMethods d e R → OfMethods e x S → ((m v w : Method) → AreBoth same_method (methods_of d.kind) (methods_of e.kind) m v → R m v → S v w → T m w) → OfMethods d x T
    methods_on R S T r s on m w are =
        let v = between same_method carry_methods (λ x y. true) (methods_of d.kind) (methods_of e.kind) (methods_of x.kind) m w (F.methods m are.0) are in
        on m v.0 w v.1 (r m v.0 v.1) (s v.0 w v.2)

    arguments_on : (R S T : Arg → Arg → Type 0) → OfMethods d e (λ m w. AtEach m.args w.args R) → OfMethods e x (λ m w. AtEach m.args w.args S) → ((a b c : Arg) → R a b → S b c → T a c)
        → OfMethods d x (λ m w. AtEach m.args w.args T)
    arguments_on R S T r s on = methods_on (λ m w. AtEach m.args w.args R) (λ m w. AtEach m.args w.args S) (λ m w. AtEach m.args w.args T) r s
        (λ m v w are p q.
        let count : length m.args ≡ length v.args = eq_is (length m.args) (length v.args) (F.argument_counts m v are) in
        let few : length m.args ≤ length v.args = omega arith in
        each_on R S T m.args v.args w.args few p q on)

    types_on : (f g h : Field) → same A f.ty B g.ty ≡ true → same B g.ty C h.ty ≡ true → same A f.ty C h.ty ≡ true
    types_on f g h p q = same_trans A f.ty B g.ty C h.ty p q

    additions_on : (k : ℕ) (h : Field) → length (parcelable_fields d.kind) ≤ k → slice_get (parcelable_fields x.kind) k ≡ Some h → is_refused_addition C h ≡ false
    additions_on k h l at = by_place (nat_lt k (length (parcelable_fields e.kind))) refl
      where
        by_place : (b : Bool) → nat_lt k (length (parcelable_fields e.kind)) ≡ b → is_refused_addition C h ≡ false
        by_place false is = G.additions k h (no_fewer k (length (parcelable_fields e.kind)) is) at
        by_place true is =
            let under : k < length (parcelable_fields e.kind) = grind (arith, nat_tests) in
            let there = at_hand (parcelable_fields e.kind) k under in
            let g = there.0 in
            let alike : same B g.ty C h.ty ≡ true = G.types k g h there.1 at in
            let initials = (hold ex.0.0 e ex.0.1).initializers in
            let initial : has_initializer_of B g.ty g.initial ≡ true = all_at (λ f. has_initializer_of B f.ty f.initial) (fields_of e.kind) k g initials (field_at e.kind k g there.1) in
            refused_on B C second distinct g h alike (G.defaults k g h (default_at e.kind k g there.1) (default_at x.kind k h at) alike) initial (F.additions k g l there.1)

    defaults_on : AtEach (fields_with_default d.kind) (fields_with_default x.kind) (λ f h. same A f.ty C h.ty ≡ true → is_same_default A f C h ≡ true)
    defaults_on k f h p q alike =
        let few : length (fields_with_default d.kind) ≤ length (fields_with_default e.kind) = defaults_few d.kind e.kind (first.kinds d e de) fewer fewer_tags in
        let l = below (fields_with_default d.kind) k f p in
        let there = at_hand (fields_with_default e.kind) k (omega arith) in
        let g = there.0 in
        let one : same A f.ty B g.ty ≡ true = default_types A d.kind B e.kind (first.kinds d e de) F.types F.alternative_types k f g p there.1 in
        let two : same B g.ty C h.ty ≡ true = default_types B e.kind C x.kind (second.kinds e x ex) G.types G.alternative_types k g h there.1 q in
        uncompared_trans (has_composite_default A f.ty) (has_composite_default B g.ty) (has_composite_default C h.ty)
        (same_default (default_in A f) (default_in B g)) (same_default (default_in B g) (default_in C h)) (same_default (default_in A f) (default_in C h))
        (default_on B C second distinct g.ty h.ty two) (λ r s. default_trans (default_in A f) (default_in B g) (default_in C h) r s)
        (F.defaults k f g p there.1 one) (G.defaults k g h there.1 q two)

    kind_on : (kind_code d.kind == kind_code x.kind) ≡ true
    kind_on = eq_trans (kind_code d.kind) (kind_code e.kind) (kind_code x.kind) (first.kinds d e de) (second.kinds e x ex)

    -- `@FixedSize` is on both or on none of them, and then no field is added
    composite_on : (kind_code d.kind == 1 || kind_code d.kind == 2) ≡ true → (kind_code e.kind == 1 || kind_code e.kind == 2) ≡ true
    composite_on c = subst (λ n. (n == 1 || n == 2) ≡ true) (eq_is (kind_code d.kind) (kind_code e.kind) (first.kinds d e de)) c

    fixed_on : (kind_code d.kind == 1 || kind_code d.kind == 2) ≡ true → d.fixed ≡ true → x.fixed ≡ true → nat_lt (length (fields_of d.kind)) (length (fields_of x.kind)) ≡ false
    fixed_on c p q =
        let middle : e.fixed ≡ true = sym (bool_is d.fixed e.fixed (F.fixed c)) ∙ p in
        let one = no_fewer (length (fields_of d.kind)) (length (fields_of e.kind)) (F.fixed_fields c p middle) in
        let two = no_fewer (length (fields_of e.kind)) (length (fields_of x.kind)) (G.fixed_fields (composite_on c) middle q) in
        not_fewer (length (fields_of d.kind)) (length (fields_of x.kind)) (omega arith)

    follows_on : Follows A d C x
    follows_on = record {
      methods = λ m at. kept_on same_method carry_methods (λ x y. true) (λ x y. true) (λ x y. true) (methods_of e.kind) (methods_of x.kind) m (F.methods m at) G.methods (λ y z p q. refl);
      ids = methods_on (λ m w. (m.id == w.id) ≡ true) (λ m w. (m.id == w.id) ≡ true) (λ m w. (m.id == w.id) ≡ true) F.ids G.ids (λ m v w are p q. eq_trans m.id v.id w.id p q);
      results = methods_on (λ m w. same_result A m.result B w.result ≡ true) (λ m w. same_result B m.result C w.result ≡ true) (λ m w. same_result A m.result C w.result ≡ true) F.results G.results
          (λ m v w are p q. result_trans A B C m.result v.result w.result p q);
      argument_counts = methods_on (λ m w. (length m.args == length w.args) ≡ true) (λ m w. (length m.args == length w.args) ≡ true) (λ m w. (length m.args == length w.args) ≡ true) F.argument_counts G.argument_counts
          (λ m v w are p q. eq_trans (length m.args) (length v.args) (length w.args) p q);
      argument_types = arguments_on (λ a b. same A a.ty B b.ty ≡ true) (λ a b. same B a.ty C b.ty ≡ true) (λ a b. same A a.ty C b.ty ≡ true) F.argument_types G.argument_types
          (λ a b c p q. same_trans A a.ty B b.ty C c.ty p q);
      ways = arguments_on (λ a b. (way_code a.way == way_code b.way) ≡ true) (λ a b. (way_code a.way == way_code b.way) ≡ true) (λ a b. (way_code a.way == way_code b.way) ≡ true) F.ways G.ways
          (λ a b c p q. eq_trans (way_code a.way) (way_code b.way) (way_code c.way) p q);
      oneway = methods_on (λ m w. same_bool m.oneway w.oneway ≡ true) (λ m w. same_bool m.oneway w.oneway ≡ true) (λ m w. same_bool m.oneway w.oneway ≡ true) F.oneway G.oneway
          (λ m v w are p q. bool_trans m.oneway v.oneway w.oneway p q);
      fields = not_fewer (length (parcelable_fields x.kind)) (length (parcelable_fields d.kind)) (omega (arith, fewer, fewer_on));
      names = each_on (λ f g. same_text f.name.0 g.name.0 ≡ true) (λ f g. same_text f.name.0 g.name.0 ≡ true) (λ f g. same_text f.name.0 g.name.0 ≡ true)
          (parcelable_fields d.kind) (parcelable_fields e.kind) (parcelable_fields x.kind) fewer F.names G.names (λ f g h p q. text_trans f.name.0 g.name.0 h.name.0 p q);
      types = each_on (λ f g. same A f.ty B g.ty ≡ true) (λ f g. same B f.ty C g.ty ≡ true) (λ f g. same A f.ty C g.ty ≡ true)
          (parcelable_fields d.kind) (parcelable_fields e.kind) (parcelable_fields x.kind) fewer F.types G.types types_on;
      defaults = defaults_on;
      additions = additions_on;
      fixed = λ c. bool_trans d.fixed e.fixed x.fixed (F.fixed c) (G.fixed (composite_on c));
      fixed_fields = fixed_on;
      alternatives = not_fewer (length (union_fields x.kind)) (length (union_fields d.kind)) (omega (arith, fewer_tags, fewer_tags_on));
      alternative_names = each_on (λ f g. same_text f.name.0 g.name.0 ≡ true) (λ f g. same_text f.name.0 g.name.0 ≡ true) (λ f g. same_text f.name.0 g.name.0 ≡ true)
          (union_fields d.kind) (union_fields e.kind) (union_fields x.kind) fewer_tags F.alternative_names G.alternative_names (λ f g h p q. text_trans f.name.0 g.name.0 h.name.0 p q);
      alternative_types = each_on (λ f g. same A f.ty B g.ty ≡ true) (λ f g. same B f.ty C g.ty ≡ true) (λ f g. same A f.ty C g.ty ≡ true)
          (union_fields d.kind) (union_fields e.kind) (union_fields x.kind) fewer_tags F.alternative_types G.alternative_types types_on;
      backings = eq_trans (backing_code d.kind) (backing_code e.kind) (backing_code x.kind) F.backings G.backings;
      enumerators = λ y at. kept_on same_enumerator carry_enumerators (λ x y. int_eq x.value y.value) (λ x y. int_eq x.value y.value) (λ x y. int_eq x.value y.value)
          (enumerators_of e.kind) (enumerators_of x.kind) y (F.enumerators y at) G.enumerators (λ v w p q. int_trans y.value v.value w.value p q);
      constants = λ c at. kept_on same_constant carry_constants (λ c k. (base_code c.ty == base_code k.ty) && same_const c.value k.value) (λ c k. (base_code c.ty == base_code k.ty) && same_const c.value k.value)
          (λ c k. (base_code c.ty == base_code k.ty) && same_const c.value k.value) e.constants x.constants c (F.constants c at) G.constants (λ v w p q. constant_on c v w p q);
      stability = bool_trans d.vintf e.vintf x.vintf F.stability G.stability;
      field_marks = each_on (λ f g. same_marks f.ty g.ty ≡ true) (λ f g. same_marks f.ty g.ty ≡ true) (λ f g. same_marks f.ty g.ty ≡ true)
          (fields_of d.kind) (fields_of e.kind) (fields_of x.kind) (fields_few d.kind e.kind fewer fewer_tags) F.field_marks G.field_marks (λ f g h p q. marks_trans f.ty g.ty h.ty p q);
      argument_marks = arguments_on (λ a b. same_marks a.ty b.ty ≡ true) (λ a b. same_marks a.ty b.ty ≡ true) (λ a b. same_marks a.ty b.ty ≡ true) F.argument_marks G.argument_marks
          (λ a b c p q. marks_trans a.ty b.ty c.ty p q);
      result_marks = λ m w are.
          let v = between same_method carry_methods (λ x y. true) (methods_of d.kind) (methods_of e.kind) (methods_of x.kind) m w (F.methods m are.0) are in
          result_marks_trans A B m.result v.0.result w.result (F.results m v.0 v.1) (F.result_marks m v.0 v.1) (G.result_marks v.0 w v.2);
    }

  pub unbroken_on : Unbroken A C
  unbroken_on = record {
    stays = λ d at. kept_on same_name carry_decls (λ x y. true) (λ x y. true) (λ x y. true) B C d (first.stays d at) second.stays (λ y z p q. refl);
    kinds = λ d x are. let e = between same_name carry_decls (λ x y. true) A B C d x (first.stays d are.0) are in kind_on d e.0 x e.1 e.2;
    members = λ d x are. let e = between same_name carry_decls (λ x y. true) A B C d x (first.stays d are.0) are in follows_on d e.0 x e.1 e.2;
  }

pub chain : (A B C : List Decl) → AllHold B → HasDistinctNames C → broken A B ≡ [] → broken B C ≡ [] → broken A C ≡ []
chain A B C hold distinct p q = empty A C (unbroken_on A B C hold distinct (unbroken A B p) (unbroken B C q))
