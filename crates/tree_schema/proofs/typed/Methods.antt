-- Rule 4 of a valid schema: the methods of a tree that breaks none of the rules on methods.
use Rattle.std.proofs.Common.{IsTrue, ◌≡◌, ◌≤◌, ℕ, Bool, true, false, not, ◌&&◌, ◌||◌, nat_eq, nat_le, nat_lt, if◌then◌else◌, List, [], ◌∷◌, map, length, Option, Some, None, is_some, is_none, slice_get, refl, sym, ap, ◌∙◌, subst, arith}
use Rattle.std.specs.List.{list_any, list_all}
use Rattle.std.proofs.lemmas.Bool.Decides.{nat_tests}
use Rattle.std.proofs.lemmas.List.Folds.{list_all-map}
use Rattle.aidl_base.specs.declared.limit.LimitName.TheVariants as limit
use Rattle.aidl_base.proofs.lemmas.Tests.{both, neither}
use Rattle.aidl_schema.specs.declared.schema.Decl as schema
use Rattle.aidl_schema.specs.declared.schema.Method as made
use Rattle.aidl_schema.specs.Containment.{is_composite}
use Rattle.aidl_schema.specs.Methods.{has_methods, has_decl_methods, has_way, is_in_way, is_oneway_well, last_id}
use Rattle.aidl_schema.specs.Names.{are_distinct, methods_of}
use Rattle.aidl_schema.specs.Types.{form_of, is_one}
use Rattle.aidl_syntax.specs.declared.tree.WayTree.{WayTree}
use Rattle.aidl_syntax.specs.declared.tree.WayTree.TheVariants as way
use Rattle.aidl_syntax.specs.Trees.{Annot, Arg, Method, Body, map_option}
use Rattle.aidl_syntax.specs.Trees.Body.{parcelable, union, enum, interface}
use Rattle.aidl_syntax.specs.Members.{members, listed, body}
use Rattle.aidl_names.specs.Breaches.{breaches}
use Rattle.declared_names.specs.Declarations.{Entry, declarations}
use Rattle.aidl_names.specs.Limits.{passed, has_many_members, has_long_method}
use Rattle.declared_names.specs.Numbered.{after_earlier}
use Rattle.aidl_syntax.specs.Sources.{Source}
use Rattle.const_values.specs.declared.wanted.Wanted.{Wanted}
use Rattle.type_shapes.specs.declared.shape.Shape.{Shape}
use Rattle.type_shapes.specs.declared.shape.Shape.TheVariants as shape
use Rattle.type_shapes.specs.Backing.{backing_of}
use Rattle.type_shapes.specs.Types.{shape_in}
use Rattle.type_shapes.specs.Types as types
use Rattle.type_uses.specs.Bases.{is_refused}
use Rattle.type_uses.specs.Ids.{has_id, id_of}
use Rattle.type_uses.specs.TypeUses as uses
use Rattle.type_uses.specs.TypeUses.{of_arg, of_members, type_uses}
use Rattle.type_rules.specs.IdRules.{is_bad_id}
use Rattle.type_rules.specs.MethodRules.{is_oneway_body, gives_back}
use Rattle.type_rules.specs.TypeRules.{is_outward, is_misdirected}
use Rattle.type_rules.specs.Unbroken.{AreUnbroken}
use Rattle.tree_schema.specs.Numbers.{Numbered}
use Rattle.tree_schema.specs.Parts.{way_of, arg_in, method_in, methods_in}
use Rattle.tree_schema.specs.SchemaOf.{schema_of, declared, kind_of}
use Rattle.tree_schema.specs.Types.{base_of, typed}
use Rattle.tree_schema.specs.Values.{Outcomes}
use Rattle.tree_schema.proofs.lemmas.walked.Lists.{all-from_at, none-at}
use Rattle.tree_schema.proofs.walked.Outers.{are_named}
use Rattle.tree_schema.proofs.lemmas.walked.Placed.{Each}
use Rattle.tree_schema.proofs.lemmas.named.Numbers.{sorted-there}
use Rattle.tree_schema.proofs.lemmas.named.Schema.{schema-there}
use Rattle.tree_schema.proofs.typed.MethodIds.{ids-hold, methods-are, methods-few}
use Rattle.tree_schema.proofs.typed.Forms.{base-composite}
use Rattle.tree_schema.proofs.typed.Members.{methods-hold as each-method}
use Rattle.tree_schema.proofs.typed.Uses.{IsFine, IsFineMember, none-mapped, members-fine}

inward : (w : Option WayTree) → is_outward w ≡ false → is_in_way (way_of w) ≡ true
inward None h = refl
inward (Some way.In) h = refl
inward (Some way.Out) h = cc
inward (Some way.InOut) h = cc

or_true : (b : Bool) → (b || true) ≡ true
or_true true = refl
or_true false = refl

-- no limit is passed: the members are few
few_members : (entries : List Entry) → passed entries ≡ None → list_any has_many_members entries ≡ false
few_members entries e = by (nat_lt 16384 (length entries)) (list_any has_many_members entries) (list_any has_long_method entries) e where
  by : (a b c : Bool) → (if a then Some limit.Declarations else (if b then Some limit.Members else (if c then Some limit.Arguments else None))) ≡ None → b ≡ false
  by true b c h = cc
  by false true c h = cc
  by false false c h = refl

all_three : {X : Type 0} (a b c : X → Bool) (xs : List X) → list_all a xs ≡ true → list_all (λ x. b x) xs ≡ true → list_all c xs ≡ true → list_all (λ x. a x && (b x && c x)) xs ≡ true
all_three a b c [] f g h = refl
all_three a b c (x ∷ xs) f g h =
    let one = both (a x) (list_all a xs) f in
    let two = both (b x) (list_all b xs) g in
    let three = both (c x) (list_all c xs) h in
    rw (one.0, two.0, three.0, all_three a b c xs one.1 two.1 three.1) refl

-- a method that gives nothing back
args_inward : (files : List Source) (file scope : ℕ) (args : List Arg) → list_any (λ a. is_outward a.way) args ≡ false → list_all (λ a. is_in_way a.way) (map (arg_in files file scope) args) ≡ true
args_inward files file scope [] h = refl
args_inward files file scope (a ∷ args) h =
    let two = neither (is_outward a.way) (list_any (λ (b : Arg). is_outward b.way) args) h in
    rw (inward a.way two.0, args_inward files file scope args two.1) refl

nothing_returned : {A B : Type 0} (f : A → B) (o : Option A) → is_some o ≡ false → is_none (map_option f o) ≡ true
nothing_returned f None h = refl
nothing_returned f (Some a) h = cc

oneway_by : (own all gives : Bool) (back : Bool) → ((all || own) && gives) ≡ false → (gives ≡ false → back ≡ true) → (not (own || all) || back) ≡ true
oneway_by true all false back e h = h refl
oneway_by true true true back e h = cc
oneway_by true false true back e h = cc
oneway_by false true false back e h = h refl
oneway_by false true true back e h = cc
oneway_by false false gives back e h = refl

module _ (files : List Source) (outcomes : Outcomes) (named : are_named files ≡ true) (unbroken : breaches files ≡ []) where
  way_holds : (annots : List Annot) (t : Shape) (w : Option WayTree) → is_misdirected (declarations files) t w ≡ false → is_refused t ≡ false
      → (is_in_way (way_of w) || (not (is_one (typed (declarations files) annots t).shape) || is_composite (form_of (schema_of files outcomes) (typed (declarations files) annots t).base))) ≡ true
  way_holds annots (shape.Array r) w h refused = or_true (is_in_way (way_of w))
  way_holds annots (shape.List r) w h refused = or_true (is_in_way (way_of w))
  way_holds annots shape.Refused w h refused = cc
  way_holds annots (shape.One r) w h refused = by (types.is_composite (declarations files) r) (base-composite files outcomes named unbroken r) h where
    by : (c : Bool) → is_composite (form_of (schema_of files outcomes) (base_of (declarations files) r)) ≡ c → (if c then is_none w else is_outward w) ≡ false
        → (is_in_way (way_of w) || is_composite (form_of (schema_of files outcomes) (base_of (declarations files) r))) ≡ true
    by true is g = rw is (or_true (is_in_way (way_of w)))
    by false is g = rw (inward w g) refl

  module _ (file scope : ℕ) (oneway : Bool) where
    ways_hold : (args : List Arg) → Each (IsFine (declarations files) oneway) (map (of_arg (shape_in files file scope)) args)
        → list_all (λ a. has_way (schema_of files outcomes) a) (map (arg_in files file scope) args) ≡ true
    ways_hold [] h = refl
    ways_hold (a ∷ args) h = rw (way_holds a.annots (shape_in files file scope a.ty) a.way h.0.directed h.0.shaped, ways_hold args h.1) refl

    oneway_holds : (id : ℕ) (m : Method) → ((oneway || m.oneway) && gives_back m) ≡ false → is_oneway_well (method_in files file scope oneway id m) ≡ true
    oneway_holds id m h = oneway_by m.oneway oneway (gives_back m) _ h (λ e.
        let two = neither (is_some m.returned) (list_any (λ (a : Arg). is_outward a.way) m.args) e in
        rw (nothing_returned _ m.returned two.0, args_inward files file scope m.args two.1) refl)

  module _ (fine : AreUnbroken files) (within : passed (declarations files) ≡ None) where
    body_ids : (file scope : ℕ) (w : Wanted) (b : Body) → length (members b) ≤ 4096
        → after_earlier (is_bad_id (list_any has_id (uses.methods_in (of_members (shape_in files file scope) (members b))))) [] (uses.methods_in (of_members (shape_in files file scope) (members b))) ≡ []
        → (are_distinct nat_eq (map (λ m. m.id) (methods_of (kind_of files outcomes file scope w b))) ≡ true) × (list_all (λ m. nat_le m.id last_id) (methods_of (kind_of files outcomes file scope w b)) ≡ true)
    body_ids file scope w (parcelable ms) le h = (refl, refl)
    body_ids file scope w (union ms) le h = (refl, refl)
    body_ids file scope w (enum es) le h = (refl, refl)
    body_ids file scope w (interface oneway ms) le h =
        let few = methods-few (shape_in files file scope) (listed ms) in
        let hold = ids-hold (uses.methods_in (of_members (shape_in files file scope) (listed ms))) (omega arith) h in
        let are = methods-are files file scope oneway (shape_in files file scope) 0 (listed ms) hold.1 in (
          ap (are_distinct nat_eq) are ∙ hold.0,
          sym (list_all-map (λ (i : ℕ). nat_le i last_id) (λ (m : made.Method). m.id) (methods_in files file scope oneway 0 (listed ms))) ∙ ap (list_all (λ (i : ℕ). nat_le i last_id)) are ∙ hold.1,
        )

    methods_at : (x : Numbered) → slice_get (declarations files) x.0 ≡ Some x.1 → has_decl_methods (schema_of files outcomes) (declared files outcomes x) ≡ true
    methods_at x at =
        let all = members-fine files unbroken fine x.0 x.1 at in
        let oneway = is_oneway_body (body x.1.tree) in
        let P = IsFineMember files x.1.file x.0 oneway in
        let most = length (members (body x.1.tree)) in
        let few = none-at has_many_members (declarations files) x.0 x.1 (few_members (declarations files) within) at in
        let le : length (members (body x.1.tree)) ≤ 4096 = grind (arith, nat_tests) in
        let uses_here = uses.methods_in (type_uses files x.0 x.1) in
        let none = none-mapped (λ (m : Method). m.name.offset) (after_earlier (is_bad_id (list_any has_id uses_here)) [] uses_here) (fine x.0 x.1 at).ids in
        let numbers = body_ids x.1.file x.0 (backing_of x.1.tree) (body x.1.tree) le none in
        let ways = each-method files outcomes x.1.file x.0 P most (λ m. list_all (λ a. has_way (schema_of files outcomes) a) m.args) (backing_of x.1.tree) (body x.1.tree)
        (λ m before lt h. ways_hold x.1.file x.0 oneway m.args h.0.1) (omega arith) all in
        let sent = each-method files outcomes x.1.file x.0 P most (λ m. is_oneway_well m) (backing_of x.1.tree) (body x.1.tree)
        (λ m before lt h. oneway_holds x.1.file x.0 oneway (id_of before m) m h.0.0.sent) (omega arith) all in
        let three = all_three (λ (m : made.Method). list_all (λ a. has_way (schema_of files outcomes) a) m.args) is_oneway_well (λ (m : made.Method). nat_le m.id last_id) (methods_of (declared files outcomes x).kind) ways sent numbers.1 in
        rw (three, numbers.0) refl

    -- Rule 4 of a valid schema.
    pub methods-hold : IsTrue (has_methods (schema_of files outcomes))
    unfolding has_methods
    methods-hold = all-from_at (λ d. has_decl_methods (schema_of files outcomes) d) (schema_of files outcomes) (λ n d at.
        let x = schema-there files outcomes n d at in
        subst (λ (c : schema.Decl). has_decl_methods (schema_of files outcomes) c ≡ true) x.2 (methods_at x.0 (sorted-there (declarations files) n x.0 x.1)))
