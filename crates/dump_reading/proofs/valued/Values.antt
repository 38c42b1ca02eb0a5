-- The values of constants, initializers and enumerators in the trees that a dump stands for are those of the schema.
use Rattle.std.proofs.Common.{◌≡◌, ℕ, ℤ, Bool, true, cond, if◌then◌else◌, List, [], ◌∷◌, map, Option, Some, None, slice_get, inl, inr, refl, sym, ap, ◌∙◌}
use Rattle.std.specs.Ordering.{nat_cmp}
use Rattle.std.specs.Cmp.Lexicographic.{slice_cmp}
use Rattle.std.specs.List.Sorted.{IsStrictlySortedBy}
use Rattle.std.proofs.lemmas.Option.{slice_get_within}
use Rattle.aidl_base.specs.declared.constant.Const.{Const, out-Const, roll-Const}
use Rattle.aidl_base.specs.declared.constant.Const.TheOpen.{Const-F}
use Rattle.aidl_base.specs.declared.constant.Const.TheVariants as constant
use Rattle.aidl_syntax.specs.Trees as tree
use Rattle.aidl_syntax.specs.Trees.{Expr, Init, map_option}
use Rattle.aidl_syntax.specs.Trees.Init.{single, braces}
use Rattle.aidl_syntax.specs.Sources.{Source}
use Rattle.declared_names.specs.Declarations.{declarations}
use Rattle.const_values.specs.declared.wanted.Wanted.{Wanted}
use Rattle.const_eval.specs.declared.outcome.Outcome.TheVariants.{Given}
use Rattle.const_eval.specs.Outcomes.{HasOutcome}
use Rattle.type_shapes.specs.declared.shape.Shape as types
use Rattle.type_shapes.specs.Initializers.{is_unjudged}
use Rattle.type_shapes.specs.Types.{shape_in}
use Rattle.const_items.specs.Items.{Item, items, of_expression, of_init, of_initial, of_field, of_constant, of_enumerators, place_of}
use Rattle.tree_schema.specs.Checked.{AreOutcomes}
use Rattle.tree_schema.specs.Values.{Outcomes, value_at, value_of, value_of_item, or_zero, whole, constant_value, enumerator_value, initial_value, initial_of}
use Rattle.tree_schema.proofs.lemmas.walked.Placed.{Each}
use Rattle.tree_schema.proofs.lemmas.settled.Places.{HasPlacesOnce}
use Rattle.tree_schema.proofs.lemmas.settled.Settled.{Stands}
use Rattle.aidl_schema.specs.declared.schema.Decl.{Decl}
use Rattle.aidl_schema.specs.declared.schema.Field.{Field}
use Rattle.aidl_schema.specs.declared.schema.Constant.{Constant}
use Rattle.aidl_schema.specs.declared.schema.Enumerator.{Enumerator}
use Rattle.aidl_schema.specs.declared.schema.Backing.{Backing}
use Rattle.aidl_schema.specs.declared.schema.AidlType.{AidlType}
use Rattle.aidl_schema.specs.declared.schema.Shape.{Shape}
use Rattle.aidl_schema.specs.declared.schema.Shape.TheVariants as shape
use Rattle.aidl_schema.specs.Constants.{is_constant_of, are_members, is_initializer_of}
use Rattle.aidl_schema.specs.Holds.{AllHold, AreApart}
use Rattle.aidl_schema.specs.Methods.{is_field_type}
use Rattle.aidl_schema.specs.Names.{name_of}
use Rattle.aidl_schema.specs.Types.{is_one}
use Rattle.aidl_schema.specs.Valid.{has_value, has_initializer_of}
use Rattle.dump_reading.specs.Bare.{bare_init, bare_field, bare_constant}
use Rattle.dump_reading.specs.DumpTrees.{value_tree, brace_trees, initial_tree, field_tree, constant_tree}
use Rattle.dump_reading.proofs.filed.Numbers.{walks}
use Rattle.dump_reading.proofs.named.Entries.{AreEntries}
use Rattle.dump_reading.proofs.settled.Levels.{roll_out, level_is, out_number}
use Rattle.dump_reading.proofs.settled.Outcomes.{plain_outcome, naming_outcome, outcome_is}
use Rattle.dump_reading.proofs.settled.Items.{Good, AreEnumerated}
use Rattle.dump_reading.proofs.settled.Members.{AreGood, held, values_in, first_false, some_none, initial_written, constant_good}

members_held : (test : Const → Bool) (l : Const-F Const) → are_members test l ≡ true → Const-F.Members (held l) ≡ l
members_held test (Const-F.Members cs) h = refl
members_held test (Const-F.Truth x) h = cc
members_held test (Const-F.Number x) h = cc
members_held test (Const-F.Text x) h = cc

whole_is : (z : ℤ) → whole (constant.Number z) ≡ z
unfolding out-Const denote.Hole.Carrier.out
whole_is z = refl

module _ (files : List Source) (outcomes : Outcomes) (each : AreOutcomes files outcomes) where
  good_value : (x : Item) (c : Const) → Good files (out-Const c) x → Stands files x → value_at files outcomes x.file x.place ≡ Some c
  good_value x c g s = ap (value_of_item outcomes) s.1 ∙ ap value_of (by g) where
    own : HasOutcome files s.0 (outcomes s.0)
    own = each s.0 (slice_get_within (items files) s.0 x s.2)

    by : Good files (out-Const c) x → outcomes s.0 ≡ Given c
    by (inl p) = let r = plain_outcome files s.0 x s.2 p.0 in outcome_is files s.0 (outcomes s.0) r.0 own r.1 ∙ ap Given (level_is r.0 c (r.2 ∙ p.1))
    by (inr q) =
        let z = q.0.numbered.number in
        outcome_is files s.0 (outcomes s.0) (constant.Number z) own (naming_outcome files s.0 x s.2 q.0) ∙ ap Given (level_is (constant.Number z) c (out_number z ∙ q.1))

  exprs_value : (file scope : ℕ) (w : Wanted) (u : Bool) (cs : List Const) (es : List Expr) → AreGood files cs (map (of_expression file scope w u) es) → Each (Stands files) (map (of_expression file scope w u) es)
      → map (λ e. constant_value files outcomes file e) es ≡ cs
  exprs_value file scope w u [] [] g s = refl
  exprs_value file scope w u (c ∷ cs) [] g s = absurd g
  exprs_value file scope w u [] (e ∷ es) g s = absurd g
  exprs_value file scope w u (c ∷ cs) (e ∷ es) g s =
      ap (λ v. or_zero v ∷ map (λ e. constant_value files outcomes file e) es) (good_value (of_expression file scope w u e) c g.0 s.0)
      ∙ ap (λ vs. c ∷ vs) (exprs_value file scope w u cs es g.1 s.1)

  -- what is written for an initializer of a type
  init_value : (S : List Decl) (t : AidlType) (c : Const) → is_initializer_of S t c ≡ true → (i : Init) → bare_init i ≡ initial_tree S t c → (file scope : ℕ) (sh : types.Shape) (u : Bool)
      → AreGood files (values_in t.shape c) (of_init (declarations files) file scope sh u i) → Each (Stands files) (of_init (declarations files) file scope sh u i) → initial_value files outcomes file i ≡ c
  init_value S t c h i bare file scope sh u g s = by t.shape h i bare g s where
    one : (i : Init) → bare_init i ≡ single (value_tree S t.base c) → AreGood files (c ∷ []) (of_init (declarations files) file scope sh u i) → Each (Stands files) (of_init (declarations files) file scope sh u i)
        → initial_value files outcomes file i ≡ c
    one (single e) bare g s = ap or_zero (good_value _ c g.0 s.0)
    one (braces o es) bare g s = cc

    many : (i : Init) → are_members (λ m. is_constant_of S t.base m) (out-Const c) ≡ true → bare_init i ≡ braces 0 (brace_trees S t.base (out-Const c)) → AreGood files (held (out-Const c)) (of_init (declarations files) file scope sh u i)
        → Each (Stands files) (of_init (declarations files) file scope sh u i) → initial_value files outcomes file i ≡ c
    many (single e) h bare g s = cc
    many (braces o es) h bare g s =
        ap (λ vs. roll-Const (Const-F.Members vs)) (exprs_value file scope _ u (held (out-Const c)) es g s)
        ∙ ap (λ l. roll-Const l) (members_held (λ m. is_constant_of S t.base m) (out-Const c) h) ∙ roll_out c

    by : (w : Shape) → cond (is_one w) (is_constant_of S t.base c) (are_members (λ m. is_constant_of S t.base m) (out-Const c)) ≡ true
        → (i : Init) → bare_init i ≡ cond (is_one w) (single (value_tree S t.base c)) (braces 0 (brace_trees S t.base (out-Const c)))
        → AreGood files (values_in w c) (of_init (declarations files) file scope sh u i) → Each (Stands files) (of_init (declarations files) file scope sh u i) → initial_value files outcomes file i ≡ c
    by shape.One h i bare g s = one i bare g s
    by shape.Array h i bare g s = many i h bare g s
    by shape.List h i bare g s = many i h bare g s

  pub enumerators_value : (file scope : ℕ) (w : Wanted) (before : Option ℕ) (b : Backing) (xs : List Enumerator) (ys : List tree.Enumerator) → AreEnumerated b xs (of_enumerators file scope w before ys)
      → Each (Stands files) (of_enumerators file scope w before ys) → map (λ y. enumerator_value files outcomes file y) ys ≡ map (λ x. x.value) xs
  enumerators_value file scope w before b [] [] g s = refl
  enumerators_value file scope w before b (x ∷ xs) [] g s = absurd g
  enumerators_value file scope w before b [] (y ∷ ys) g s = absurd g
  enumerators_value file scope w before b (x ∷ xs) (y ∷ ys) g s =
      let here : enumerator_value files outcomes file y ≡ x.value =
      ap (λ v. whole (or_zero v)) (good_value _ (constant.Number x.value) (inl (g.0.0, g.0.1 ∙ sym (out_number x.value))) s.0) ∙ whole_is x.value in
      ap (λ v. v ∷ map (λ y. enumerator_value files outcomes file y) ys) here ∙ ap (λ vs. x.value ∷ vs) (enumerators_value file scope w (Some (place_of y)) b xs ys g.1 s.1)

  module _ (S : List Decl) (H : AllHold S) (sorted : IsStrictlySortedBy (slice_cmp nat_cmp) (map name_of S)) (A : AreApart name_of S) (are : AreEntries S files (walks S) (declarations files)) (once : Each HasPlacesOnce files)
      (file scope : ℕ) (s : Source) (in_file : slice_get files file ≡ Some s) where
    pub constant_value_is : (c : Constant) → has_value S c ≡ true → (x : tree.Constant) → bare_constant x ≡ constant_tree S c → Stands files (of_constant files file scope x) → constant_value files outcomes file x.value ≡ c.value
    constant_value_is c h x e st = ap or_zero (good_value (of_constant files file scope x) c.value (constant_good S H sorted A files are once file scope s in_file c h x e) st)

    pub initial_is : (later : Bool) (f : Field) → is_field_type S f ≡ true → has_initializer_of S f.ty f.initial ≡ true → (later ≡ true → f.initial ≡ None) → (x : tree.Field) → bare_field x ≡ field_tree S f
        → Each (Stands files) (of_field files file scope later x) → initial_of files outcomes file scope later x.ty x.initial ≡ f.initial
    initial_is later f t v n x e st = by x.initial f.initial v n (ap (λ y. y.initial) e) st where
      by : (o : Option Init) (c : Option Const) → has_initializer_of S f.ty c ≡ true → (later ≡ true → c ≡ None) → map_option bare_init o ≡ map_option (λ c. initial_tree S f.ty c) c
          → Each (Stands files) (of_initial files file scope later x.ty o) → initial_of files outcomes file scope later x.ty o ≡ c
      by None None v n e st = refl
      by None (Some c) v n e st = cc
      by (Some i) None v n e st = cc
      by (Some i) (Some c) v n bare st =
          let is : bare_init i ≡ initial_tree S f.ty c = cc in
          let free = first_false later (λ yes. some_none c (n yes)) in
          let w = initial_written S H sorted A files are once file scope s in_file later f t c v free x.ty (ap (λ y. y.ty) e) i is in
          ap (λ b. if b then None else Some (initial_value files outcomes file i)) w.0
          ∙ ap Some (init_value S f.ty c v i is file scope (shape_in files file scope x.ty) (is_unjudged (declarations files) later (shape_in files file scope x.ty) i) w.1 st)
