-- Rule 6 of a valid schema: the initializers of a tree whose items have values that fit.
use Rattle.std.proofs.Common.{IsTrue, ◌≡◌, ℕ, ℤ, zero, suc, Bool, true, false, not, ◌&&◌, ◌||◌, if◌then◌else◌, List, [], ◌∷◌, ◌++◌, map, Option, Some, None, is_none, slice_get, refl, sym, ap, ◌∙◌, subst}
use Rattle.std.specs.List.{list_any, list_all}
use Rattle.std.specs.Ordering.{int_eq}
use Rattle.std.proofs.lemmas.Option.{slice_get_within}
use Rattle.std.proofs.lemmas.Bool.Decides.{Decides-int_eq}
use Rattle.aidl_base.specs.declared.constant.Const.{Const, out-Const, roll-Const, out-roll-Const}
use Rattle.aidl_base.specs.declared.constant.Const.TheOpen.{Const-F}
use Rattle.aidl_base.specs.declared.constant.Const.TheVariants as value
use Rattle.aidl_base.proofs.lemmas.Tests.{neither}
use Rattle.aidl_schema.proofs.lemmas.Places.{both_empty}
use Rattle.aidl_schema.specs.declared.schema.Decl as schema
use Rattle.aidl_schema.specs.declared.schema.Enumerator as made
use Rattle.aidl_schema.specs.Constants.{is_single, is_enumerator, is_enumerator_of, is_constant_of, are_members}
use Rattle.aidl_schema.specs.Containment.{fields_of}
use Rattle.aidl_schema.specs.Valid.{has_initializers, has_decl_initializers, has_initializer_of, is_union_whole, are_union_fields}
use Rattle.aidl_syntax.specs.declared.tree.TypeTree.{TypeTree}
use Rattle.aidl_syntax.specs.Trees.{Annot, Arg, Expr, Init, Body, Enumerator}
use Rattle.aidl_syntax.specs.Trees.Body.{parcelable, union, enum, interface}
use Rattle.aidl_syntax.specs.Trees.Init.{single, braces}
use Rattle.aidl_syntax.specs.Members.{Member, members, listed, body, declared_name}
use Rattle.aidl_syntax.specs.Members.Member.{field, constant, method, enumerator, nested}
use Rattle.name_resolution.specs.declared.meaning.Resolved.{Resolved}
use Rattle.name_resolution.specs.declared.meaning.Resolved.TheVariants.{Builtin, ListWord, LeftOut, Declared}
use Rattle.aidl_names.specs.Breaches.{breaches}
use Rattle.declared_names.specs.Declarations.{Entry, declarations}
use Rattle.aidl_syntax.specs.Sources.{Source}
use Rattle.const_values.specs.declared.wanted.Wanted.{Wanted}
use Rattle.const_values.specs.declared.wanted.Wanted.TheVariants as wanted
use Rattle.const_eval.specs.declared.outcome.Outcome.TheVariants.{Given}
use Rattle.type_shapes.specs.declared.shape.Shape.{Shape}
use Rattle.type_shapes.specs.declared.shape.Shape.TheVariants as shape
use Rattle.type_shapes.specs.Backing.{backing_of}
use Rattle.type_shapes.specs.Initializers.{is_unjudged, misfits}
use Rattle.const_items.specs.Items.{Item, items, of_entry, of_body, of_members, of_field, of_initial, of_init, of_expression}
use Rattle.type_shapes.specs.Types.{wanted_of, is_enum, shape_in}
use Rattle.type_uses.specs.TypeUses as uses
use Rattle.type_uses.specs.TypeUses.{TypeUse, of_arg, is_field, type_uses}
use Rattle.type_rules.specs.FieldRules.{empty_union, bad_fields, is_union_body}
use Rattle.type_rules.specs.Unbroken.{AreUnbroken}
use Rattle.tree_schema.specs.Numbers.{Numbered}
use Rattle.tree_schema.specs.Parts.{fields_in, enumerator_in}
use Rattle.tree_schema.specs.SchemaOf.{schema_of, declared, kind_of}
use Rattle.tree_schema.specs.Types.{base_of, base_of_number, typed}
use Rattle.tree_schema.specs.Values.{Outcomes, or_zero, value_at, value_of, value_of_item, constant_value, initial_of, initial_value, enumerator_value}
use Rattle.tree_schema.proofs.lemmas.walked.Lists.{all-from_at}
use Rattle.tree_schema.proofs.walked.Outers.{are_named}
use Rattle.tree_schema.proofs.lemmas.walked.Placed.{Each}
use Rattle.tree_schema.proofs.lemmas.named.Numbers.{sorted-there}
use Rattle.tree_schema.proofs.lemmas.named.Schema.{schema-there, number-stands}
use Rattle.tree_schema.proofs.valued.EnumsNamed.{IsEnumerated, enum-value}
use Rattle.tree_schema.proofs.valued.Constants.{builtin-single, each-parts}
use Rattle.tree_schema.proofs.settled.Plain.{fits}
use Rattle.tree_schema.proofs.lemmas.settled.Settled.{AreOutcomes, AreSettled, Stands}

out_number : (z : ℤ) → out-Const (value.Number z) ≡ Const-F.Number z
unfolding out-Const denote.Hole.Carrier.out
out_number z = refl

any_mapped : {X Y : Type 0} (p : Y → Bool) (f : X → Y) (xs : List X) (i : ℕ) (x : X) → slice_get xs i ≡ Some x → p (f x) ≡ true → list_any p (map f xs) ≡ true
any_mapped p f [] i x at h = cc
any_mapped p f (y ∷ xs) zero x at h = let is : y ≡ x = cc in let passes : p (f y) ≡ true = ap (λ z. p (f z)) is ∙ h in rw passes refl
any_mapped p f (y ∷ xs) (suc i) x at h = by (p (f y)) (any_mapped p f xs i x at h) where
  by : (b : Bool) → list_any p (map f xs) ≡ true → (b || list_any p (map f xs)) ≡ true
  by true g = refl
  by false g = g

no_fit : (level : Const-F Const) → fits wanted.Nothing level ≡ true → ⊥
no_fit (Const-F.Truth b) h = cc
no_fit (Const-F.Number z) h = cc
no_fit (Const-F.Text x) h = cc
no_fit (Const-F.Members cs) h = cc

args_no_field : (sh : TypeTree → Shape) (args : List Arg) (rest : List TypeUse) → list_any is_field (map (of_arg sh) args ++ rest) ≡ list_any is_field rest
args_no_field sh [] rest = refl
args_no_field sh (a ∷ args) rest = args_no_field sh args rest

module _ (files : List Source) (outcomes : Outcomes) (file scope : ℕ) where
  later_field : (ty : TypeTree) (o : Option Init) → is_none (initial_of files outcomes file scope true ty o) ≡ true
  later_field ty None = refl
  later_field ty (Some i) = refl

  later_none : (ms : List Member) → list_all (λ g. is_none g.initial) (fields_in files outcomes file scope true true ms) ≡ true
  later_none [] = refl
  later_none (field f ∷ ms) = rw (later_field f.ty f.initial, later_none ms) refl
  later_none (constant c ∷ ms) = later_none ms
  later_none (method m ∷ ms) = later_none ms
  later_none (enumerator e ∷ ms) = later_none ms
  later_none (nested d ∷ ms) = later_none ms

  -- a union with a field, of which the first alone may have an initializer
  some_field : (sh : TypeTree → Shape) (ms : List Member) → list_any is_field (uses.of_members sh ms) ≡ true → are_union_fields (fields_in files outcomes file scope true false ms) ≡ true
  some_field sh [] h = cc
  some_field sh (field f ∷ ms) h = later_none ms
  some_field sh (constant c ∷ ms) h = some_field sh ms h
  some_field sh (method m ∷ ms) h = some_field sh ms (sym (args_no_field sh m.args (uses.of_members sh ms)) ∙ h)
  some_field sh (enumerator e ∷ ms) h = some_field sh ms h
  some_field sh (nested d ∷ ms) h = some_field sh ms h

module _ (files : List Source) (outcomes : Outcomes) (named : are_named files ≡ true) (unbroken : breaches files ≡ []) where
  enumerated_by : (k file : ℕ) (e : Entry) (w : Wanted) (b : Body) (es : List Enumerator) (i : ℕ) (x : Enumerator) (z : ℤ) → e.file ≡ file → b ≡ enum es → slice_get es i ≡ Some x
      → enumerator_value files outcomes file x ≡ z → is_enumerator (kind_of files outcomes e.file k w b) z ≡ true
  enumerated_by k file e w b es i x z in_file is at h =
      let equal : int_eq (enumerator_value files outcomes e.file x) z ≡ true =
      (Decides-int_eq (enumerator_value files outcomes e.file x) z).1 (ap (λ (f : ℕ). enumerator_value files outcomes f x) in_file ∙ h) in
      subst (λ c. is_enumerator (kind_of files outcomes e.file k w c) z ≡ true) (sym is)
      (any_mapped (λ (y : made.Enumerator). int_eq y.value z) (enumerator_in files outcomes e.file) es i x at equal)

  enumerated : (k : ℕ) (z : ℤ) → IsEnumerated files outcomes k z → is_single (schema_of files outcomes) (base_of (declarations files) (Declared k)) (Const-F.Number z) ≡ true
  enumerated k z h =
      let of = h.2 in
      let e = of.0 in
      let stands = number-stands files outcomes named unbroken k e of.1 in
      let is : is_enumerator (declared files outcomes (k, e)).kind z ≡ true = enumerated_by k h.0 e (backing_of e.tree) (body e.tree) of.3 of.5 h.1 z of.2 of.4 of.6 h.3 in
      ap (λ o. is_single (schema_of files outcomes) (base_of_number o) (Const-F.Number z)) stands.1 ∙ ap (λ o. is_enumerator_of o z) stands.2 ∙ is

  module _ (are : AreOutcomes files outcomes) (all : AreSettled files outcomes) where
    declared_single : (x : Item) (n : ℕ) → slice_get (items files) n ≡ Some x → (k : ℕ) (c : Const) → outcomes n ≡ Given c → fits x.wanted (out-Const c) ≡ true → (b : Bool)
        → x.wanted ≡ (if b then wanted.Enum k else wanted.Nothing) → is_single (schema_of files outcomes) (base_of (declarations files) (Declared k)) (out-Const c) ≡ true
    declared_single x n at k c o f true wants =
        let v = enum-value files outcomes are n k (outcomes n) (are n (slice_get_within (items files) n x at)) x at wants c o in
        ap (λ d. is_single (schema_of files outcomes) (base_of (declarations files) (Declared k)) (out-Const d)) v.1
        ∙ ap (is_single (schema_of files outcomes) (base_of (declarations files) (Declared k))) (out_number v.0) ∙ enumerated k v.0 v.2
    declared_single x n at k c o f false wants = absurd (no_fit (out-Const c) (ap (λ w. fits w (out-Const c)) (sym wants) ∙ f))

    base_single : (x : Item) (n : ℕ) → slice_get (items files) n ≡ Some x → (c : Const) → outcomes n ≡ Given c → fits x.wanted (out-Const c) ≡ true → (r : Resolved)
        → x.wanted ≡ wanted_of (declarations files) r → is_single (schema_of files outcomes) (base_of (declarations files) r) (out-Const c) ≡ true
    base_single x n at c o f (Builtin b) wants = builtin-single (schema_of files outcomes) b (out-Const c) (ap (λ w. fits w (out-Const c)) (sym wants) ∙ f)
    base_single x n at c o f ListWord wants = absurd (no_fit (out-Const c) (ap (λ w. fits w (out-Const c)) (sym wants) ∙ f))
    base_single x n at c o f LeftOut wants = absurd (no_fit (out-Const c) (ap (λ w. fits w (out-Const c)) (sym wants) ∙ f))
    base_single x n at c o f (Declared k) wants = declared_single x n at k c o f (is_enum (declarations files) k) wants

    -- the value of an item is one of the base whose value is wanted
    item_single : (x : Item) → Stands files x → (r : Resolved) → x.wanted ≡ wanted_of (declarations files) r
        → is_constant_of (schema_of files outcomes) (base_of (declarations files) r) (or_zero (value_at files outcomes x.file x.place)) ≡ true
    item_single x stands r wants =
        let s = all stands.0 x stands.2 in
        let is : or_zero (value_at files outcomes x.file x.place) ≡ s.0 = ap (λ o. or_zero (value_of_item outcomes o)) stands.1 ∙ ap (λ o. or_zero (value_of o)) s.1 in
        ap (λ c. is_constant_of (schema_of files outcomes) (base_of (declarations files) r) c) is ∙ base_single x stands.0 stands.2 s.0 s.1 s.2 r wants

    module _ (file scope : ℕ) where
      each_single : (r : Resolved) (es : List Expr) → Each (Stands files) (map (of_expression file scope (wanted_of (declarations files) r) false) es)
          → list_all (λ m. is_constant_of (schema_of files outcomes) (base_of (declarations files) r) m) (map (λ e. constant_value files outcomes file e) es) ≡ true
      each_single r [] h = refl
      each_single r (e ∷ es) h = rw (item_single (of_expression file scope (wanted_of (declarations files) r) false e) h.0 r refl, each_single r es h.1) refl

      braces_fit : (r : Resolved) (es : List Expr) → Each (Stands files) (map (of_expression file scope (wanted_of (declarations files) r) false) es)
          → are_members (λ m. is_constant_of (schema_of files outcomes) (base_of (declarations files) r) m) (out-Const (roll-Const (Const-F.Members (map (λ e. constant_value files outcomes file e) es)))) ≡ true
      braces_fit r es h =
          ap (are_members (λ m. is_constant_of (schema_of files outcomes) (base_of (declarations files) r) m)) (out-roll-Const (Const-F.Members (map (λ e. constant_value files outcomes file e) es)))
          ∙ each_single r es h

      init_fits : (annots : List Annot) (t : Shape) (i : Init) → misfits (declarations files) t i ≡ false → Each (Stands files) (of_init (declarations files) file scope t false i)
          → has_initializer_of (schema_of files outcomes) (typed (declarations files) annots t) (Some (initial_value files outcomes file i)) ≡ true
      init_fits annots (shape.One r) (single e) m h = item_single (of_expression file scope (wanted_of (declarations files) r) false e) h.0 r refl
      init_fits annots (shape.One r) (braces offset es) m h = cc
      init_fits annots (shape.Array r) (single e) m h = cc
      init_fits annots (shape.Array r) (braces offset es) m h = braces_fit r es h
      init_fits annots (shape.List r) (single e) m h = cc
      init_fits annots (shape.List r) (braces offset es) m h = braces_fit r es h
      init_fits annots shape.Refused (single e) m h = cc
      init_fits annots shape.Refused (braces offset es) m h = cc

      initial_fits : (annots : List Annot) (later : Bool) (ty : TypeTree) (o : Option Init) → Each (Stands files) (of_initial files file scope later ty o)
          → has_initializer_of (schema_of files outcomes) (typed (declarations files) annots (shape_in files file scope ty)) (initial_of files outcomes file scope later ty o) ≡ true
      initial_fits annots later ty None h = refl
      initial_fits annots later ty (Some i) h = by (is_unjudged (declarations files) later (shape_in files file scope ty) i) refl h where
        by : (b : Bool) → is_unjudged (declarations files) later (shape_in files file scope ty) i ≡ b → Each (Stands files) (of_init (declarations files) file scope (shape_in files file scope ty) b i)
            → has_initializer_of (schema_of files outcomes) (typed (declarations files) annots (shape_in files file scope ty)) (if b then None else Some (initial_value files outcomes file i)) ≡ true
        by true q g = refl
        by false q g = init_fits annots (shape_in files file scope ty) i (neither later (misfits (declarations files) (shape_in files file scope ty) i) q).1 g

      fields_fit : (in_union later : Bool) (ms : List Member) → Each (Stands files) (of_members files file scope in_union later ms)
          → list_all (λ f. has_initializer_of (schema_of files outcomes) f.ty f.initial) (fields_in files outcomes file scope in_union later ms) ≡ true
      fields_fit in_union later [] h = refl
      fields_fit in_union later (field f ∷ ms) h =
          let two = each-parts (Stands files) (of_field files file scope later f) (of_members files file scope in_union (later || in_union) ms) h in
          rw (initial_fits f.annots later f.ty f.initial two.0, fields_fit in_union (later || in_union) ms two.1) refl
      fields_fit in_union later (constant c ∷ ms) h = fields_fit in_union later ms h.1
      fields_fit in_union later (method m ∷ ms) h = fields_fit in_union later ms h
      fields_fit in_union later (enumerator e ∷ ms) h = fields_fit in_union later ms h
      fields_fit in_union later (nested d ∷ ms) h = fields_fit in_union later ms h

      some_by : (b : Bool) (x : ℕ) → (if not b then x ∷ [] else []) ≡ [] → b ≡ true
      some_by true x e = refl
      some_by false x e = cc

      body_fits : (w : Wanted) (b : Body) (x : ℕ) → (if is_union_body b && not (list_any is_field (uses.of_members (shape_in files file scope) (members b))) then x ∷ [] else []) ≡ []
          → Each (Stands files) (of_body files file scope w b)
          → (list_all (λ f. has_initializer_of (schema_of files outcomes) f.ty f.initial) (fields_of (kind_of files outcomes file scope w b)) && is_union_whole (kind_of files outcomes file scope w b)) ≡ true
      body_fits w (parcelable ms) x u h = rw (fields_fit false false (listed ms) h) refl
      body_fits w (union ms) x u h =
          let some = some_by (list_any is_field (uses.of_members (shape_in files file scope) (listed ms))) x u in
          rw (fields_fit true false (listed ms) h, some_field files outcomes file scope (shape_in files file scope) (listed ms) some) refl
      body_fits w (enum es) x u h = refl
      body_fits w (interface oneway ms) x u h = refl

    module _ (fine : AreUnbroken files) (stands : (k : ℕ) (e : Entry) → slice_get (declarations files) k ≡ Some e → Each (Stands files) (of_entry files k e)) where
      initializers_at : (x : Numbered) → slice_get (declarations files) x.0 ≡ Some x.1 → has_decl_initializers (schema_of files outcomes) (declared files outcomes x) ≡ true
      initializers_at x at =
          let uses_here = type_uses files x.0 x.1 in
          let whole = both_empty (empty_union x.1 uses_here) (bad_fields (declarations files) (is_union_body (body x.1.tree)) false uses_here) (fine x.0 x.1 at).fields in
          body_fits x.1.file x.0 (backing_of x.1.tree) (body x.1.tree) (declared_name x.1.tree).offset whole.0 (stands x.0 x.1 at)

      -- Rule 6 of a valid schema.
      pub initializers-hold : IsTrue (has_initializers (schema_of files outcomes))
      unfolding has_initializers
      initializers-hold = all-from_at (λ d. has_decl_initializers (schema_of files outcomes) d) (schema_of files outcomes) (λ n d at.
          let x = schema-there files outcomes n d at in
          subst (λ (c : schema.Decl). has_decl_initializers (schema_of files outcomes) c ≡ true) x.2 (initializers_at x.0 (sorted-there (declarations files) n x.0 x.1)))
