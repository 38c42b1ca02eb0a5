-- The list of broken rules is empty exactly where nothing is broken, rule by rule.
use Rattle.std.proofs.Common.{◌≡◌, ℕ, ◌+◌, Bool, true, false, not, ◌&&◌, ◌||◌, ◌==◌, nat_lt, cond, List, [], ◌++◌, length, drop, Some, slice_get, flat_map, refl, find, subst, Option, None}
use Rattle.std.specs.List.{zip, enumerate_from}
use Rattle.std.specs.Ordering.{int_eq}
use Rattle.aidl_schema.specs.declared.schema.Decl.{Decl}
use Rattle.aidl_schema.specs.declared.schema.Field.{Field}
use Rattle.aidl_schema.specs.declared.schema.Method.{Method}
use Rattle.aidl_schema.specs.declared.schema.Arg.{Arg}
use Rattle.aidl_schema.specs.declared.schema.Kind.{Kind}
use Rattle.aidl_schema.specs.Containment.{fields_of}
use Rattle.aidl_schema.specs.Same.{same_text, same_bool, same, base_code}
use Rattle.aidl_schema.specs.Names.{methods_of, enumerators_of}
use Rattle.aidl_schema.specs.Broken.{Break, Rule, Place, whole, member, argument, places, place_if, same_name, same_method, same_enumerator, same_constant, is_kept, in_both, kind_code, backing_code, parcelable_fields, union_fields, fields_with_default, way_code, at_methods, at_arguments_of, at_arguments, at_fields, same_const, default_in, same_default, has_composite_default, is_refused_addition, same_marks, same_result, same_result_marks, of_rule, rules, if_found, broken_by, breaks, broken, C1, C2, C3, C4, C5, C6, C7, C8, C9, C10, C11, C12, C13, C14, C15, C16, C17, C18, C19}
use Rattle.aidl_schema.specs.Unbroken.{Has, AreBoth, AtEach, OfMethods, Follows, Unbroken}
use Rattle.aidl_schema.proofs.lemmas.Places.{both_empty, joined, each_empty, all_empty, none, no_places, not_here, nowhere, not_false, not_true, of_none, none_of, unsorted, sorted, zipped, unzipped, numbered, unnumbered, dropped, undropped, have_both, are_both}

-- a test of methods, of arguments, of fields
methods_pass : (test : Method → Method → Bool) (d e : Decl) → at_methods (λ m w. not (test m w)) d e ≡ [] → OfMethods d e (λ m w. test m w ≡ true)
methods_pass test d e h m w are = not_false (test m w)
    (none (λ p. member d p.0.name) (λ p. not (test p.0 p.1)) (in_both same_method (methods_of d.kind) (methods_of e.kind)) (m, w) h (have_both same_method (methods_of d.kind) (methods_of e.kind) m w are))

pass_methods : (test : Method → Method → Bool) (d e : Decl) → OfMethods d e (λ m w. test m w ≡ true) → at_methods (λ m w. not (test m w)) d e ≡ []
pass_methods test d e h = no_places (λ p. member d p.0.name) (λ p. not (test p.0 p.1)) (in_both same_method (methods_of d.kind) (methods_of e.kind))
    (λ p at. not_true (test p.0 p.1) (h p.0 p.1 (are_both same_method (methods_of d.kind) (methods_of e.kind) p at)))

arguments_pass : (test : Arg → Arg → Bool) (d e : Decl) → at_arguments (λ a b. not (test a b)) d e ≡ [] → OfMethods d e (λ m w. AtEach m.args w.args (λ a b. test a b ≡ true))
arguments_pass test d e h m w are k a b p q =
    let here : at_arguments_of (λ a b. not (test a b)) d m w ≡ [] = each_empty (λ p. at_arguments_of (λ a b. not (test a b)) d p.0 p.1) (in_both same_method (methods_of d.kind) (methods_of e.kind)) (m, w) h
    (have_both same_method (methods_of d.kind) (methods_of e.kind) m w are) in
    not_false (test a b) (none (λ p. argument d m.name p.0) (λ p. not (test p.1.0 p.1.1)) (enumerate_from 0 (zip m.args w.args)) (0 + k, (a, b)) here
    (k, numbered 0 (zip m.args w.args) k (a, b) (zipped m.args w.args k a b p q)))

pass_arguments : (test : Arg → Arg → Bool) (d e : Decl) → OfMethods d e (λ m w. AtEach m.args w.args (λ a b. test a b ≡ true)) → at_arguments (λ a b. not (test a b)) d e ≡ []
pass_arguments test d e h = all_empty (λ p. at_arguments_of (λ a b. not (test a b)) d p.0 p.1) (in_both same_method (methods_of d.kind) (methods_of e.kind))
    (λ p at. no_places (λ x. argument d p.0.name x.0) (λ x. not (test x.1.0 x.1.1)) (enumerate_from 0 (zip p.0.args p.1.args))
    (λ x there. let here = unzipped p.0.args p.1.args there.0 x.1 (unnumbered 0 (zip p.0.args p.1.args) there.0 x there.1) in
    not_true (test x.1.0 x.1.1) (h p.0 p.1 (are_both same_method (methods_of d.kind) (methods_of e.kind) p at) there.0 x.1.0 x.1.1 here.0 here.1)))

-- what a field breaks
fields_pass : (bad : Field → Field → Bool) (fields : Kind → List Field) (d e : Decl) → at_fields bad fields d e ≡ [] → AtEach (fields d.kind) (fields e.kind) (λ f g. bad f g ≡ false)
fields_pass bad fields d e h k f g p q = none (λ p. member d p.0.name) (λ p. bad p.0 p.1) (zip (fields d.kind) (fields e.kind)) (f, g) h (k, zipped (fields d.kind) (fields e.kind) k f g p q)

pass_fields : (bad : Field → Field → Bool) (fields : Kind → List Field) (d e : Decl) → AtEach (fields d.kind) (fields e.kind) (λ f g. bad f g ≡ false) → at_fields bad fields d e ≡ []
pass_fields bad fields d e h = no_places (λ p. member d p.0.name) (λ p. bad p.0 p.1) (zip (fields d.kind) (fields e.kind))
    (λ p at. let here = unzipped (fields d.kind) (fields e.kind) at.0 p at.1 in h at.0 p.0 p.1 here.0 here.1)

-- each is kept
all_kept : {X : Type 0} (place : X → List ℕ) (kept : X → Bool) (xs : List X) → places place (λ x. not (kept x)) xs ≡ [] → (x : X) → Has xs x → kept x ≡ true
all_kept place kept xs h x at = not_false (kept x) (none place (λ x. not (kept x)) xs x h at)

kept_all : {X : Type 0} (place : X → List ℕ) (kept : X → Bool) (xs : List X) → ((x : X) → Has xs x → kept x ≡ true) → places place (λ x. not (kept x)) xs ≡ []
kept_all place kept xs h = no_places place (λ x. not (kept x)) xs (λ x at. not_true (kept x) (h x at))

-- C12's and C15's joined tests
uncompared : (s x y : Bool) → (s && (not x && not y)) ≡ false → s ≡ true → (x || y) ≡ true
uncompared true true y h k = refl
uncompared true false true h k = refl
uncompared true false false h k = cc
uncompared false x y h k = cc

compared : (s x y : Bool) → (s ≡ true → (x || y) ≡ true) → (s && (not x && not y)) ≡ false
compared false x y h = refl
compared true true y h = refl
compared true false true h = refl
compared true false false h = let no : false ≡ true = h refl in cc

neither : (a b : Bool) → (not a || not b) ≡ false → (a ≡ true) × (b ≡ true)
neither true true h = (refl, refl)
neither true false h = cc
neither false b h = cc

both_true : (a b : Bool) → a ≡ true → b ≡ true → (not a || not b) ≡ false
both_true a b p q = rw (p, q) refl

-- C14's
fixed_same : (c s f : Bool) → (c && (not s || f)) ≡ false → c ≡ true → s ≡ true
fixed_same true true f h k = refl
fixed_same true false f h k = cc
fixed_same false s f h k = cc

fixed_few : (c s x y z : Bool) → (c && (not s || ((x && y) && z))) ≡ false → c ≡ true → x ≡ true → y ≡ true → z ≡ false
fixed_few true true true true true h k p q = cc
fixed_few true true true true false h k p q = refl
fixed_few true true true false z h k p q = cc
fixed_few true true false y z h k p q = cc
fixed_few true false x y z h k p q = cc
fixed_few false s x y z h k p q = cc

fixed_fine : (c s x y z : Bool) → (c ≡ true → s ≡ true) → (c ≡ true → x ≡ true → y ≡ true → z ≡ false) → (c && (not s || ((x && y) && z))) ≡ false
fixed_fine false s x y z h k = refl
fixed_fine true false x y z h k = let no : false ≡ true = h refl in cc
fixed_fine true true false y z h k = refl
fixed_fine true true true false z h k = refl
fixed_fine true true true true false h k = refl
fixed_fine true true true true true h k = k refl refl refl

next : {ps : List Place} {bs : List Break} (n : ℕ) → ps ≡ [] → bs ≡ [] → of_rule n ps ++ bs ≡ []
next {ps} {bs} n p q = joined (of_rule n ps) bs (none_of n ps p) q

module _ (old : List Decl) (d : Decl) (new : List Decl) (e : Decl) where
  -- C14's condition and its two tests
  abbrev has_fields : Bool
  has_fields = kind_code d.kind == 1 || kind_code d.kind == 2

  abbrev more_fields : Bool
  more_fields = nat_lt (length (fields_of d.kind)) (length (fields_of e.kind))

  abbrev same_types : Field → Field → Bool
  same_types f g = same old f.ty new g.ty

  abbrev same_names : Field → Field → Bool
  same_names f g = same_text f.name.0 g.name.0

  abbrev uncounted : Field → Field → Bool
  uncounted f g = has_composite_default old f.ty || has_composite_default new g.ty

  abbrev equal_defaults : Field → Field → Bool
  equal_defaults f g = same_default (default_in old f) (default_in new g)

  rule_empty : flat_map (λ r. of_rule r.0 (r.1 old d new e)) rules ≡ [] → (i n : ℕ) (rule : Rule) → slice_get rules i ≡ Some (n, rule) → rule old d new e ≡ []
  rule_empty h i n rule at = of_none n (rule old d new e) (each_empty (λ r. of_rule r.0 (r.1 old d new e)) rules (n, rule) h (i, at))

  pub follows : flat_map (λ r. of_rule r.0 (r.1 old d new e)) rules ≡ [] → Follows old d new e
  follows h =
      let c6 = both_empty (at_methods (λ m w. not (length m.args == length w.args)) d e) (at_arguments (λ a b. not (same old a.ty new b.ty)) d e) (rule_empty h 3 6 C6 refl) in
      let c12 = fields_pass (λ f g. same_types f g && (not (uncounted f g) && not (equal_defaults f g))) fields_with_default d e (rule_empty h 9 12 C12 refl) in
      let c14 = not_here (whole d) (has_fields && (not (same_bool d.fixed e.fixed) || ((d.fixed && e.fixed) && more_fields))) (rule_empty h 11 14 C14 refl) in
      let c15 = both_empty (place_if (whole d) (nat_lt (length (union_fields e.kind)) (length (union_fields d.kind)))) (at_fields (λ f g. not (same_names f g) || not (same_types f g)) union_fields d e) (rule_empty h 12 15 C15 refl) in
      let c15_fields = fields_pass (λ f g. not (same_names f g) || not (same_types f g)) union_fields d e c15.1 in
      let c19 = both_empty (place_if (whole d) (not (same_bool d.vintf e.vintf)))
      (at_fields (λ f g. not (same_marks f.ty g.ty)) fields_of d e ++ (at_arguments (λ a b. not (same_marks a.ty b.ty)) d e ++ at_methods (λ m w. not (same_result_marks m.result w.result)) d e))
      (rule_empty h 16 19 C19 refl) in
      let c19_fields = both_empty (at_fields (λ f g. not (same_marks f.ty g.ty)) fields_of d e)
      (at_arguments (λ a b. not (same_marks a.ty b.ty)) d e ++ at_methods (λ m w. not (same_result_marks m.result w.result)) d e) c19.1 in
      let c19_methods = both_empty (at_arguments (λ a b. not (same_marks a.ty b.ty)) d e) (at_methods (λ m w. not (same_result_marks m.result w.result)) d e) c19_fields.1 in
      record {
        methods = all_kept (λ m. member d m.name) (λ m. is_kept same_method (λ x y. true) (methods_of e.kind) m) (methods_of d.kind) (rule_empty h 0 3 C3 refl);
        ids = methods_pass (λ m w. m.id == w.id) d e (rule_empty h 1 4 C4 refl);
        results = methods_pass (λ m w. same_result old m.result new w.result) d e (rule_empty h 2 5 C5 refl);
        argument_counts = methods_pass (λ m w. length m.args == length w.args) d e c6.0;
        argument_types = arguments_pass (λ a b. same old a.ty new b.ty) d e c6.1;
        ways = arguments_pass (λ a b. way_code a.way == way_code b.way) d e (rule_empty h 4 7 C7 refl);
        oneway = methods_pass (λ m w. same_bool m.oneway w.oneway) d e (rule_empty h 5 8 C8 refl);
        fields = not_here (whole d) (nat_lt (length (parcelable_fields e.kind)) (length (parcelable_fields d.kind))) (rule_empty h 6 9 C9 refl);
        names = λ k f g p q. not_false (same_names f g) (fields_pass (λ f g. not (same_names f g)) parcelable_fields d e (rule_empty h 7 10 C10 refl) k f g p q);
        types = λ k f g p q. not_false (same_types f g) (fields_pass (λ f g. not (same_types f g)) parcelable_fields d e (rule_empty h 8 11 C11 refl) k f g p q);
        defaults = λ k f g p q. uncompared (same_types f g) (uncounted f g) (equal_defaults f g) (c12 k f g p q);
        additions = λ k g l at. none (λ g. member d g.name) (λ g. is_refused_addition new g) (drop (length (parcelable_fields d.kind)) (parcelable_fields e.kind)) g (rule_empty h 10 13 C13 refl)
            (dropped (length (parcelable_fields d.kind)) (parcelable_fields e.kind) k g l at);
        fixed = fixed_same has_fields (same_bool d.fixed e.fixed) ((d.fixed && e.fixed) && more_fields) c14;
        fixed_fields = fixed_few has_fields (same_bool d.fixed e.fixed) d.fixed e.fixed more_fields c14;
        alternatives = not_here (whole d) (nat_lt (length (union_fields e.kind)) (length (union_fields d.kind))) c15.0;
        alternative_names = λ k f g p q. (neither (same_names f g) (same_types f g) (c15_fields k f g p q)).0;
        alternative_types = λ k f g p q. (neither (same_names f g) (same_types f g) (c15_fields k f g p q)).1;
        backings = not_false (backing_code d.kind == backing_code e.kind) (not_here (whole d) (not (backing_code d.kind == backing_code e.kind)) (rule_empty h 13 16 C16 refl));
        enumerators = all_kept (λ x. member d x.name) (λ x. is_kept same_enumerator (λ x y. int_eq x.value y.value) (enumerators_of e.kind) x) (enumerators_of d.kind) (rule_empty h 14 17 C17 refl);
        constants = all_kept (λ c. member d c.name) (λ c. is_kept same_constant (λ c k. (base_code c.ty == base_code k.ty) && same_const c.value k.value) e.constants c) d.constants (rule_empty h 15 18 C18 refl);
        stability = not_false (same_bool d.vintf e.vintf) (not_here (whole d) (not (same_bool d.vintf e.vintf)) c19.0);
        field_marks = λ k f g p q. not_false (same_marks f.ty g.ty) (fields_pass (λ f g. not (same_marks f.ty g.ty)) fields_of d e c19_fields.0 k f g p q);
        argument_marks = arguments_pass (λ a b. same_marks a.ty b.ty) d e c19_methods.0;
        result_marks = methods_pass (λ m w. same_result_marks m.result w.result) d e c19_methods.1;
      }

  pub no_breaks : Follows old d new e → flat_map (λ r. of_rule r.0 (r.1 old d new e)) rules ≡ []
  no_breaks F =
      let c3 : C3 old d new e ≡ [] = kept_all (λ m. member d m.name) (λ m. is_kept same_method (λ x y. true) (methods_of e.kind) m) (methods_of d.kind) F.methods in
      let c4 : C4 old d new e ≡ [] = pass_methods (λ m w. m.id == w.id) d e F.ids in
      let c5 : C5 old d new e ≡ [] = pass_methods (λ m w. same_result old m.result new w.result) d e F.results in
      let c6 : C6 old d new e ≡ [] = joined (at_methods (λ m w. not (length m.args == length w.args)) d e) (at_arguments (λ a b. not (same old a.ty new b.ty)) d e)
      (pass_methods (λ m w. length m.args == length w.args) d e F.argument_counts) (pass_arguments (λ a b. same old a.ty new b.ty) d e F.argument_types) in
      let c7 : C7 old d new e ≡ [] = pass_arguments (λ a b. way_code a.way == way_code b.way) d e F.ways in
      let c8 : C8 old d new e ≡ [] = pass_methods (λ m w. same_bool m.oneway w.oneway) d e F.oneway in
      let c9 : C9 old d new e ≡ [] = nowhere (whole d) (nat_lt (length (parcelable_fields e.kind)) (length (parcelable_fields d.kind))) F.fields in
      let c10 : C10 old d new e ≡ [] = pass_fields (λ f g. not (same_names f g)) parcelable_fields d e (λ k f g p q. not_true (same_names f g) (F.names k f g p q)) in
      let c11 : C11 old d new e ≡ [] = pass_fields (λ f g. not (same_types f g)) parcelable_fields d e (λ k f g p q. not_true (same_types f g) (F.types k f g p q)) in
      let c12 : C12 old d new e ≡ [] = pass_fields (λ f g. same_types f g && (not (uncounted f g) && not (equal_defaults f g))) fields_with_default d e
      (λ k f g p q. compared (same_types f g) (uncounted f g) (equal_defaults f g) (F.defaults k f g p q)) in
      let c13 : C13 old d new e ≡ [] = no_places (λ g. member d g.name) (λ g. is_refused_addition new g) (drop (length (parcelable_fields d.kind)) (parcelable_fields e.kind))
      (λ g at. let there = undropped (length (parcelable_fields d.kind)) (parcelable_fields e.kind) g at in F.additions there.0 g there.1 there.2) in
      let c14 : C14 old d new e ≡ [] = nowhere (whole d) (has_fields && (not (same_bool d.fixed e.fixed) || ((d.fixed && e.fixed) && more_fields)))
      (fixed_fine has_fields (same_bool d.fixed e.fixed) d.fixed e.fixed more_fields F.fixed F.fixed_fields) in
      let c15 : C15 old d new e ≡ [] = joined (place_if (whole d) (nat_lt (length (union_fields e.kind)) (length (union_fields d.kind)))) (at_fields (λ f g. not (same_names f g) || not (same_types f g)) union_fields d e)
      (nowhere (whole d) (nat_lt (length (union_fields e.kind)) (length (union_fields d.kind))) F.alternatives)
      (pass_fields (λ f g. not (same_names f g) || not (same_types f g)) union_fields d e
      (λ k f g p q. both_true (same_names f g) (same_types f g) (F.alternative_names k f g p q) (F.alternative_types k f g p q))) in
      let c16 : C16 old d new e ≡ [] = nowhere (whole d) (not (backing_code d.kind == backing_code e.kind)) (not_true (backing_code d.kind == backing_code e.kind) F.backings) in
      let c17 : C17 old d new e ≡ [] = kept_all (λ x. member d x.name) (λ x. is_kept same_enumerator (λ x y. int_eq x.value y.value) (enumerators_of e.kind) x) (enumerators_of d.kind) F.enumerators in
      let c18 : C18 old d new e ≡ [] = kept_all (λ c. member d c.name) (λ c. is_kept same_constant (λ c k. (base_code c.ty == base_code k.ty) && same_const c.value k.value) e.constants c) d.constants F.constants in
      let c19 : C19 old d new e ≡ [] = joined (place_if (whole d) (not (same_bool d.vintf e.vintf)))
      (at_fields (λ f g. not (same_marks f.ty g.ty)) fields_of d e ++ (at_arguments (λ a b. not (same_marks a.ty b.ty)) d e ++ at_methods (λ m w. not (same_result_marks m.result w.result)) d e))
      (nowhere (whole d) (not (same_bool d.vintf e.vintf)) (not_true (same_bool d.vintf e.vintf) F.stability))
      (joined (at_fields (λ f g. not (same_marks f.ty g.ty)) fields_of d e) (at_arguments (λ a b. not (same_marks a.ty b.ty)) d e ++ at_methods (λ m w. not (same_result_marks m.result w.result)) d e)
      (pass_fields (λ f g. not (same_marks f.ty g.ty)) fields_of d e (λ k f g p q. not_true (same_marks f.ty g.ty) (F.field_marks k f g p q)))
      (joined (at_arguments (λ a b. not (same_marks a.ty b.ty)) d e) (at_methods (λ m w. not (same_result_marks m.result w.result)) d e)
      (pass_arguments (λ a b. same_marks a.ty b.ty) d e F.argument_marks) (pass_methods (λ m w. same_result_marks m.result w.result) d e F.result_marks))) in
      next 3 c3 (next 4 c4 (next 5 c5 (next 6 c6 (next 7 c7 (next 8 c8 (next 9 c9 (next 10 c10 (next 11 c11 (next 12 c12 (next 13 c13 (next 14 c14 (next 15 c15 (next 16 c16 (next 17 c17 (next 18 c18 (next 19 c19 refl))))))))))))))))

module _ (old new : List Decl) where
  abbrev same_kind_breaks : Decl → Decl → List Break
  same_kind_breaks d e = flat_map (λ r. of_rule r.0 (r.1 old d new e)) rules

  pair_parts : (d e : Decl) → broken_by old d new e ≡ [] → ((kind_code d.kind == kind_code e.kind) ≡ true) × Follows old d new e
  pair_parts d e h =
      let two = both_empty (of_rule 2 (C2 old d new e)) (cond (kind_code d.kind == kind_code e.kind) (same_kind_breaks d e) []) h in
      let kind = not_false (kind_code d.kind == kind_code e.kind) (not_here (whole d) (not (kind_code d.kind == kind_code e.kind)) (of_none 2 (C2 old d new e) two.0)) in
      let rest : same_kind_breaks d e ≡ [] = rw kind at two.1 in
      (kind, follows old d new e rest)

  no_pair : (d e : Decl) → (kind_code d.kind == kind_code e.kind) ≡ true → Follows old d new e → broken_by old d new e ≡ []
  no_pair d e kind F = joined (of_rule 2 (C2 old d new e)) (cond (kind_code d.kind == kind_code e.kind) (same_kind_breaks d e) [])
      (none_of 2 (C2 old d new e) (nowhere (whole d) (not (kind_code d.kind == kind_code e.kind)) (not_true (kind_code d.kind == kind_code e.kind) kind)))
      (rw kind (no_breaks old d new e F))

  decl_parts : broken old new ≡ [] → (d : Decl) → Has old d → (of_rule 1 (C1 d new) ≡ []) × (if_found (λ e. broken_by old d new e) (find (λ e. same_name d e) new) ≡ [])
  decl_parts h d at = both_empty (of_rule 1 (C1 d new)) (if_found (λ e. broken_by old d new e) (find (λ e. same_name d e) new))
      (each_empty (λ d. of_rule 1 (C1 d new) ++ if_found (λ e. broken_by old d new e) (find (λ e. same_name d e) new)) old d (unsorted (breaks old new) h) at)

  pub unbroken : broken old new ≡ [] → Unbroken old new
  unbroken h =
      let pair : (d e : Decl) → AreBoth same_name old new d e → broken_by old d new e ≡ [] =
      λ d e are. subst (λ o. if_found (λ e. broken_by old d new e) o ≡ []) are.1 (decl_parts h d are.0).1 in
      record {
        stays = λ d at. not_false (is_kept same_name (λ x y. true) new d) (not_here (whole d) (not (is_kept same_name (λ x y. true) new d)) (of_none 1 (C1 d new) (decl_parts h d at).0));
        kinds = λ d e are. (pair_parts d e (pair d e are)).0;
        members = λ d e are. (pair_parts d e (pair d e are)).1;
      }

  pub empty : Unbroken old new → broken old new ≡ []
  empty U = sorted (breaks old new) (all_empty (λ d. of_rule 1 (C1 d new) ++ if_found (λ e. broken_by old d new e) (find (λ e. same_name d e) new)) old
      (λ d at. joined (of_rule 1 (C1 d new)) (if_found (λ e. broken_by old d new e) (find (λ e. same_name d e) new))
      (none_of 1 (C1 d new) (nowhere (whole d) (not (is_kept same_name (λ x y. true) new d)) (not_true (is_kept same_name (λ x y. true) new d) (U.stays d at))))
      (by_found d at (find (λ e. same_name d e) new) refl)))
    where
      by_found : (d : Decl) → Has old d → (o : Option Decl) → find (λ e. same_name d e) new ≡ o → if_found (λ e. broken_by old d new e) o ≡ []
      by_found d at None found = refl
      by_found d at (Some e) found = no_pair d e (U.kinds d e (at, found)) (U.members d e (at, found))
