-- Each item of a declaration that a dump stands for is a literal, or names an enumerator.
use Rattle.std.proofs.Common.{◌≡◌, ℕ, ℤ, Bool, true, false, cond, not, ◌&&◌, ◌||◌, List, [], ◌∷◌, ◌++◌, map, Option, Some, None, is_none, slice_get, inl, inr, refl, sym, ap, subst, ◌∙◌}
use Rattle.std.specs.List.{list_all}
use Rattle.std.specs.Ordering.{nat_cmp}
use Rattle.std.specs.Cmp.Lexicographic.{slice_cmp}
use Rattle.std.specs.List.Sorted.{IsStrictlySortedBy}
use Rattle.std.proofs.lemmas.Bool.{and_parts}
use Rattle.aidl_base.specs.declared.constant.Const.{Const, out-Const}
use Rattle.aidl_base.specs.declared.constant.Const.TheOpen.{Const-F}
use Rattle.aidl_syntax.specs.declared.tree.TypeTree.{TypeTree}
use Rattle.aidl_syntax.specs.Trees as tree
use Rattle.aidl_syntax.specs.Trees.{Expr, Init, map_option}
use Rattle.aidl_syntax.specs.Trees.Init.{single, braces}
use Rattle.aidl_syntax.specs.Trees.Members.{none}
use Rattle.aidl_syntax.specs.Trees.Body.{enum, parcelable, union, interface}
use Rattle.aidl_syntax.specs.Members.{Member, listed, members, body}
use Rattle.aidl_syntax.specs.Members.Member.{field, constant, method, enumerator, nested}
use Rattle.name_resolution.specs.declared.meaning.Resolved.{Resolved}
use Rattle.aidl_syntax.specs.Sources.{Source}
use Rattle.declared_names.specs.Declarations.{Entry, declarations}
use Rattle.name_resolution.specs.Resolution.{resolved}
use Rattle.const_values.specs.declared.wanted.Wanted.{Wanted}
use Rattle.type_shapes.specs.declared.shape.Shape as types
use Rattle.type_shapes.specs.declared.shape.Shape.TheVariants as typed
use Rattle.type_shapes.specs.Backing.{backing_of}
use Rattle.type_shapes.specs.Initializers.{is_unjudged, is_some_list}
use Rattle.const_items.specs.Items.{Item, of_expression, of_typed, of_initial, of_field, of_constant, of_members, of_body, of_entry}
use Rattle.type_shapes.specs.Types.{wanted_of, wanted_one, is_composite, shape_in}
use Rattle.aidl_schema.specs.declared.schema.Decl.{Decl}
use Rattle.aidl_schema.specs.declared.schema.Field.{Field}
use Rattle.aidl_schema.specs.declared.schema.Constant.{Constant}
use Rattle.aidl_schema.specs.declared.schema.AidlType.{AidlType}
use Rattle.aidl_schema.specs.declared.schema.Backing.{Backing}
use Rattle.aidl_schema.specs.declared.schema.Enumerator.{Enumerator}
use Rattle.aidl_schema.specs.declared.schema.Backing.TheVariants as backing
use Rattle.aidl_schema.specs.declared.schema.Base.{Base}
use Rattle.aidl_schema.specs.declared.schema.Base.TheVariants as base
use Rattle.aidl_schema.specs.declared.schema.Kind.{Kind}
use Rattle.aidl_schema.specs.declared.schema.Kind.TheVariants.{Interface, Parcelable, Union, Enum}
use Rattle.aidl_schema.specs.declared.schema.Shape.{Shape}
use Rattle.aidl_schema.specs.declared.schema.Shape.TheVariants as shape
use Rattle.aidl_schema.specs.Constants.{is_single, is_constant_of, is_enumerator, is_enumerator_of, are_members, is_initializer_of, is_string}
use Rattle.aidl_schema.specs.Containment as schema
use Rattle.aidl_schema.specs.Containment.{fields_of}
use Rattle.aidl_schema.specs.Holds.{AllHold, AreApart}
use Rattle.aidl_schema.specs.Methods.{is_field_type, is_whole_type, may_be_on_heap}
use Rattle.aidl_schema.specs.Names.{name_of, may_enclose}
use Rattle.aidl_schema.specs.Same.{is_named}
use Rattle.aidl_schema.specs.Types.{form_of, form_of_decl, form_of_kind, is_meant, is_nullable_form, is_type, is_well_shaped, is_one}
use Rattle.aidl_schema.specs.Valid.{has_value, has_initializer_of, is_enum, is_union_whole, are_union_fields}
use Rattle.api_dump.specs.Types.{base_name}
use Rattle.tree_schema.proofs.lemmas.walked.Placed.{Each}
use Rattle.tree_schema.proofs.lemmas.settled.Places.{HasPlacesOnce}
use Rattle.dump_reading.specs.Bare.{bare_expr, bare_init, bare_field, bare_constant, bare_type, bare_body}
use Rattle.dump_reading.specs.DumpTrees.{value_tree, single_tree, initial_tree, brace_trees, field_tree, constant_tree, method_tree, type_tree, body_tree, constants_before, nested_trees}
use Rattle.dump_reading.proofs.filed.Files.{none_is}
use Rattle.dump_reading.proofs.filed.Numbers.{walks}
use Rattle.dump_reading.proofs.named.Entries.{IsEntry, AreEntries, none_inside, no_nested}
use Rattle.dump_reading.proofs.named.Members.{bare_member, members_bare, members_written, all_nested}
use Rattle.dump_reading.proofs.settled.Literals.{Fits, value_fits}
use Rattle.dump_reading.proofs.settled.Shapes.{Means, shape_of, body_bare, base_means, shape_is}
use Rattle.dump_reading.proofs.settled.Items.{Good, AreEnumerated, enum_items, named_good}

pub each_join : {X : Type 0} (P : X → Type 0) (xs ys : List X) → Each P xs → Each P ys → Each P (xs ++ ys)
each_join P [] ys h k = k
each_join P (x ∷ xs) ys h k = (h.0, each_join P xs ys h.1 k)

-- it has a value
abbrev pub IsGood : List Source → Item → Type 0
IsGood files x = (l : Const-F Const) × Good files l x

-- items beside their values
abbrev pub AreGood : List Source → List Const → List Item → Type 0
AreGood files [] [] = Unit {0}
AreGood files [] (x ∷ xs) = ⊥
AreGood files (c ∷ cs) [] = ⊥
AreGood files (c ∷ cs) (x ∷ xs) = Good files (out-Const c) x × AreGood files cs xs

each_good : (files : List Source) (cs : List Const) (xs : List Item) → AreGood files cs xs → Each (IsGood files) xs
each_good files cs [] h = tt
each_good files [] (x ∷ xs) h = absurd h
each_good files (c ∷ cs) (x ∷ xs) h = ((out-Const c, h.0), each_good files cs xs h.1)

enumerated_good : (files : List Source) (b : Backing) (es : List Enumerator) (xs : List Item) → AreEnumerated b es xs → Each (IsGood files) xs
enumerated_good files b es [] h = tt
enumerated_good files b [] (x ∷ xs) h = absurd h
enumerated_good files b (e ∷ es) (x ∷ xs) h = ((Const-F.Number e.value, inl (h.0.0, h.0.1)), enumerated_good files b es xs h.1)

-- the values of a brace list, and those of an initializer
abbrev pub held : Const-F Const → List Const
held (Const-F.Members cs) = cs
held _ = []

abbrev pub values_in : Shape → Const → List Const
values_in shape.One c = c ∷ []
values_in shape.Array c = held (out-Const c)
values_in shape.List c = held (out-Const c)

-- what has a constant is neither a parcelable nor a union

enum_form : (k : Kind) (z : ℤ) → is_enumerator k z ≡ true → schema.is_composite (form_of_kind k) ≡ false
enum_form (Enum backing.Byte xs) z h = refl
enum_form (Enum backing.Int xs) z h = refl
enum_form (Enum backing.Long xs) z h = refl
enum_form (Interface ms) z h = cc
enum_form (Parcelable fs) z h = cc
enum_form (Union fs) z h = cc

decl_form : (o : Option Decl) (z : ℤ) → is_enumerator_of o z ≡ true → schema.is_composite (form_of_decl o) ≡ false
decl_form None z h = cc
decl_form (Some d) z h = enum_form d.kind z h

module _ (S : List Decl) where
  level_form : (b : Base) (l : Const-F Const) → is_single S b l ≡ true → schema.is_composite (form_of S b) ≡ false
  level_form base.Boolean l h = refl
  level_form base.Byte l h = refl
  level_form base.Char l h = refl
  level_form base.Int l h = refl
  level_form base.Long l h = refl
  level_form base.Text l h = refl
  level_form (base.Named n) (Const-F.Truth x) h = cc
  level_form (base.Named n) (Const-F.Number z) h = decl_form (slice_get S n) z h
  level_form (base.Named n) (Const-F.Text x) h = cc
  level_form (base.Named n) (Const-F.Members cs) h = cc

  pub constant_form : (b : Base) (c : Const) → is_constant_of S b c ≡ true → schema.is_composite (form_of S b) ≡ false
  constant_form b c h = level_form b (out-Const c) h

module _ (S : List Decl) where
  -- the fields are those of the schema, and only the first of a union has an initializer
  abbrev pub AreFields : Bool → Bool → List Field → Type 0
  AreFields in_union later [] = Unit {0}
  AreFields in_union later (f ∷ fs) = (is_field_type S f ≡ true) × (has_initializer_of S f.ty f.initial ≡ true) × (later ≡ true → f.initial ≡ None) × AreFields in_union (later || in_union) fs

  -- all of a parcelable, or of a union after its first
  pub free_fields : (fs : List Field) → list_all (λ f. is_field_type S f) fs ≡ true → list_all (λ f. has_initializer_of S f.ty f.initial) fs ≡ true → AreFields false false fs
  free_fields [] t v = tt
  free_fields (f ∷ fs) t v =
      let a = and_parts (is_field_type S f) (list_all (λ f. is_field_type S f) fs) t in let b = and_parts (has_initializer_of S f.ty f.initial) (list_all (λ f. has_initializer_of S f.ty f.initial) fs) v in
      (a.0, b.0, λ yes_so. cc, free_fields fs a.1 b.1)

  pub later_fields : (fs : List Field) → list_all (λ f. is_field_type S f) fs ≡ true → list_all (λ f. has_initializer_of S f.ty f.initial) fs ≡ true → list_all (λ g. is_none g.initial) fs ≡ true → AreFields true true fs
  later_fields [] t v n = tt
  later_fields (f ∷ fs) t v n =
      let a = and_parts (is_field_type S f) (list_all (λ f. is_field_type S f) fs) t in let b = and_parts (has_initializer_of S f.ty f.initial) (list_all (λ f. has_initializer_of S f.ty f.initial) fs) v in
      let c = and_parts (is_none f.initial) (list_all (λ g. is_none g.initial) fs) n in
      (a.0, b.0, λ yes_so. none_is f.initial c.0, later_fields fs a.1 b.1 c.1)

  pub union_fields : (fs : List Field) → list_all (λ f. is_field_type S f) fs ≡ true → list_all (λ f. has_initializer_of S f.ty f.initial) fs ≡ true → are_union_fields fs ≡ true → AreFields true false fs
  union_fields [] t v n = tt
  union_fields (f ∷ fs) t v n =
      let a = and_parts (is_field_type S f) (list_all (λ f. is_field_type S f) fs) t in let b = and_parts (has_initializer_of S f.ty f.initial) (list_all (λ f. has_initializer_of S f.ty f.initial) fs) v in
      (a.0, b.0, λ yes_so. cc, later_fields fs a.1 b.1 n)

abbrev pub is_nested : Member → Bool
is_nested (nested t) = true
is_nested _ = false

pub first_false : (later : Bool) → (later ≡ true → ⊥) → later ≡ false
first_false true h = absurd (h refl)
first_false false h = refl

pub some_none : {X : Type 0} (x : X) → Some x ≡ None → ⊥
some_none x e = cc

pub and_none : (b : Bool) → (b && false) ≡ false
and_none true = refl
and_none false = refl

module _ (S : List Decl) (H : AllHold S) (sorted : IsStrictlySortedBy (slice_cmp nat_cmp) (map name_of S)) (A : AreApart name_of S) (files : List Source) (are : AreEntries S files (walks S) (declarations files)) (once : Each HasPlacesOnce files) where
  abbrev entries : List Entry
  entries = declarations files

  module _ (file scope : ℕ) (s : Source) (in_file : slice_get files file ≡ Some s) where
    -- an expression that is written for a constant of a base
    level_good : (b : Base) (l : Const-F Const) → is_single S b l ≡ true → (r : Resolved) → resolved files file scope (base_name S b) ≡ Some r → Means S entries b r → (c : Const) → out-Const c ≡ l → is_constant_of S b c ≡ true
        → (u : Bool) → u ≡ false → (e : Expr) → bare_expr e ≡ single_tree S b l → Good files l (of_expression file scope (wanted_of entries r) u e)
    level_good b l h r known means c is k u free e bare = by (is_named b) refl where
      by : (t : Bool) → is_named b ≡ t → Good files l (of_expression file scope (wanted_of entries r) u e)
      by false n =
          let open_so : not (is_named b) ≡ true = ap not n in
          inl (
            record {
              judged = free;
              expr = e;
              is = refl;
              level = out-Const c;
              fits = subst (λ w. Fits w e (out-Const c)) (sym (means.wants open_so)) (value_fits S b c open_so k e (bare ∙ ap (single_tree S b) (sym is)));
            },
            is,
          )
      by true n = declared b l n h known bare where
        declared : (b : Base) (l : Const-F Const) → is_named b ≡ true → is_single S b l ≡ true → resolved files file scope (base_name S b) ≡ Some r → bare_expr e ≡ single_tree S b l → Good files l (of_expression file scope (wanted_of entries r) u e)
        declared base.Boolean l n h known bare = cc
        declared base.Byte l n h known bare = cc
        declared base.Char l n h known bare = cc
        declared base.Int l n h known bare = cc
        declared base.Long l n h known bare = cc
        declared base.Text l n h known bare = cc
        declared (base.Named i) (Const-F.Truth x) n h known bare = cc
        declared (base.Named i) (Const-F.Number z) n h known bare = let q = named_good S H sorted A files are once file scope s in_file i z h r known u free e bare in inr (q.0, ap Const-F.Number q.1)
        declared (base.Named i) (Const-F.Text x) n h known bare = cc
        declared (base.Named i) (Const-F.Members cs) n h known bare = cc

    value_good : (b : Base) (c : Const) → is_constant_of S b c ≡ true → (r : Resolved) → resolved files file scope (base_name S b) ≡ Some r → Means S entries b r
        → (u : Bool) → u ≡ false → (e : Expr) → bare_expr e ≡ value_tree S b c → Good files (out-Const c) (of_expression file scope (wanted_of entries r) u e)
    value_good b c h r known means u free e bare = level_good b (out-Const c) h r known means c refl h u free e bare

    values_good : (b : Base) (cs : List Const) → list_all (λ m. is_constant_of S b m) cs ≡ true → (r : Resolved) → resolved files file scope (base_name S b) ≡ Some r → Means S entries b r
        → (u : Bool) → u ≡ false → (es : List Expr) → map bare_expr es ≡ map (λ c. value_tree S b c) cs → AreGood files cs (map (of_expression file scope (wanted_of entries r) u) es)
    values_good b [] h r known means u free [] bare = tt
    values_good b (c ∷ cs) h r known means u free [] bare = cc
    values_good b [] h r known means u free (e ∷ es) bare = cc
    values_good b (c ∷ cs) h r known means u free (e ∷ es) bare =
        let two = and_parts (is_constant_of S b c) (list_all (λ m. is_constant_of S b m) cs) h in
        let here : bare_expr e ≡ value_tree S b c = cc in let rest : map bare_expr es ≡ map (λ c. value_tree S b c) cs = cc in
        (value_good b c two.0 r known means u free e here, values_good b cs two.1 r known means u free es rest)

    -- a brace list with members stands for no parcelable or union
    some_free : (b : Base) (cs : List Const) → list_all (λ m. is_constant_of S b m) cs ≡ true → (r : Resolved) → Means S entries b r → (es : List Expr) → map bare_expr es ≡ map (λ c. value_tree S b c) cs
        → (is_composite entries r && is_some_list es) ≡ false
    some_free b cs h r means [] bare = and_none (is_composite entries r)
    some_free b [] h r means (e ∷ es) bare = cc
    some_free b (c ∷ cs) h r means (e ∷ es) bare =
        ap (λ t. t && true) (means.composite ∙ constant_form S b c (and_parts (is_constant_of S b c) (list_all (λ m. is_constant_of S b m) cs) h).0)

    -- the items of an initializer, none of which is left unjudged
    abbrev pub IsWritten : AidlType → Const → Bool → types.Shape → Init → Type 0
    IsWritten t c later shape i = (is_unjudged entries later shape i ≡ false) × AreGood files (values_in t.shape c) (of_typed entries file scope later shape i)

    abbrev WrittenAs : Const → Resolved → Shape → Init → Type 0
    WrittenAs c r w i = (is_unjudged entries false (shape_of w r) i ≡ false) × AreGood files (values_in w c) (of_typed entries file scope false (shape_of w r) i)

    init_good : (t : AidlType) (c : Const) → is_initializer_of S t c ≡ true → (r : Resolved) → resolved files file scope (base_name S t.base) ≡ Some r → Means S entries t.base r → (i : Init) → bare_init i ≡ initial_tree S t c
        → IsWritten t c false (shape_of t.shape r) i
    init_good t c h r known means i bare = by t.shape h i bare where
      one : (i : Init) → is_constant_of S t.base c ≡ true → bare_init i ≡ single (value_tree S t.base c) → WrittenAs c r shape.One i
      one (single e) h bare =
          let here : bare_expr e ≡ value_tree S t.base c = cc in let free = means.composite ∙ constant_form S t.base c h in
          (free, (value_good t.base c h r known means (is_unjudged entries false (typed.One r) (single e)) free e here, tt))
      one (braces o es) h bare = cc

      listed_good : (l : Const-F Const) → are_members (λ m. is_constant_of S t.base m) l ≡ true → (es : List Expr) → map bare_expr es ≡ brace_trees S t.base l → (u : Bool) → u ≡ false
          → AreGood files (held l) (map (of_expression file scope (wanted_of entries r) u) es)
      listed_good (Const-F.Members cs) h es bare u free = values_good t.base cs h r known means u free es bare
      listed_good (Const-F.Truth x) h es bare u free = cc
      listed_good (Const-F.Number x) h es bare u free = cc
      listed_good (Const-F.Text x) h es bare u free = cc

      listed_free : (l : Const-F Const) → are_members (λ m. is_constant_of S t.base m) l ≡ true → (es : List Expr) → map bare_expr es ≡ brace_trees S t.base l → (is_composite entries r && is_some_list es) ≡ false
      listed_free (Const-F.Members cs) h es bare = some_free t.base cs h r means es bare
      listed_free (Const-F.Truth x) h es bare = cc
      listed_free (Const-F.Number x) h es bare = cc
      listed_free (Const-F.Text x) h es bare = cc

      by : (w : Shape) → cond (is_one w) (is_constant_of S t.base c) (are_members (λ m. is_constant_of S t.base m) (out-Const c)) ≡ true
          → (i : Init) → bare_init i ≡ cond (is_one w) (single (value_tree S t.base c)) (braces 0 (brace_trees S t.base (out-Const c))) → WrittenAs c r w i
      by shape.One h i bare = one i h bare
      by shape.Array h (single e) bare = cc
      by shape.List h (single e) bare = cc
      by shape.Array h (braces o es) bare = let here : map bare_expr es ≡ brace_trees S t.base (out-Const c) = cc in let free = listed_free (out-Const c) h es here in (free, listed_good (out-Const c) h es here (is_unjudged entries false (typed.Array r) (braces o es)) free)
      by shape.List h (braces o es) bare = let here : map bare_expr es ≡ brace_trees S t.base (out-Const c) = cc in let free = listed_free (out-Const c) h es here in (free, listed_good (out-Const c) h es here (is_unjudged entries false (typed.List r) (braces o es)) free)

    -- fields

    pub list_nullable : (t : AidlType) → is_type S t ≡ true → t.shape ≡ shape.List → is_nullable_form (form_of S t.base) ≡ true
    list_nullable t h is = sym (ap (λ w. is_well_shaped w t.nullable (form_of S t.base)) is) ∙ (and_parts (is_meant (form_of S t.base)) (is_well_shaped t.shape t.nullable (form_of S t.base)) h).1

    -- an initializer of a field; there is one where the schema has one
    pub initial_written : (later : Bool) (f : Field) → is_field_type S f ≡ true → (c : Const) → is_initializer_of S f.ty c ≡ true → later ≡ false → (ty : TypeTree) → bare_type ty ≡ type_tree f.ty.shape (base_name S f.ty.base)
        → (i : Init) → bare_init i ≡ initial_tree S f.ty c → IsWritten f.ty c later (shape_in files file scope ty) i
    initial_written later f t c v free ty et i bare =
        let whole = (and_parts (is_whole_type S f.ty) (not f.ty.heap || may_be_on_heap S f.ty) t).0 in
        let type_so = (and_parts (is_type S f.ty) (not f.ty.utf8 || is_string f.ty.base) whole).0 in
        let meant = (and_parts (is_meant (form_of S f.ty.base)) (is_well_shaped f.ty.shape f.ty.nullable (form_of S f.ty.base)) type_so).0 in
        let m = base_means S H sorted A files are file scope s in_file f.ty.base meant in
        let sh = shape_is S H sorted A files are file scope s in_file f.ty.base m.0 m.1 m.2 f.ty.shape (λ is. list_nullable f.ty type_so is) ty et in
        subst (λ l. IsWritten f.ty c l (shape_in files file scope ty) i) (sym free) (subst (λ x. IsWritten f.ty c false x i) (sym sh) (init_good f.ty c v m.0 m.1 m.2 i bare))

    initial_good : (later : Bool) (f : Field) → is_field_type S f ≡ true → has_initializer_of S f.ty f.initial ≡ true → (later ≡ true → f.initial ≡ None) → (ty : TypeTree) → bare_type ty ≡ type_tree f.ty.shape (base_name S f.ty.base)
        → (o : Option Init) → map_option bare_init o ≡ map_option (λ c. initial_tree S f.ty c) f.initial → Each (IsGood files) (of_initial files file scope later ty o)
    initial_good later f t v n ty et None e = tt
    initial_good later f t v n ty et (Some i) e = by f.initial v n e where
      by : (o : Option Const) → has_initializer_of S f.ty o ≡ true → (later ≡ true → o ≡ None) → Some (bare_init i) ≡ map_option (λ c. initial_tree S f.ty c) o → Each (IsGood files) (of_typed entries file scope later (shape_in files file scope ty) i)
      by None v n e = cc
      by (Some c) v n e = let bare : bare_init i ≡ initial_tree S f.ty c = cc in each_good files (values_in f.ty.shape c) _ (initial_written later f t c v (first_false later (λ yes. some_none c (n yes))) ty et i bare).1

    abbrev Rest : Bool → List Member → Type 0
    Rest in_union more = (later : Bool) (ms : List Member) → map bare_member ms ≡ more → Each (IsGood files) (of_members files file scope in_union later ms)

    fields_good : (in_union later : Bool) (fs : List Field) (more : List Member) → AreFields S in_union later fs → Rest in_union more → (ms : List Member) → map bare_member ms ≡ map (λ f. field (field_tree S f)) fs ++ more → Each (IsGood files) (of_members files file scope in_union later ms)
    fields_good in_union later [] more h rest ms e = rest later ms e
    fields_good in_union later (f ∷ fs) more h rest [] e = cc
    fields_good in_union later (f ∷ fs) more h rest (field x ∷ ms) e =
        let here : bare_field x ≡ field_tree S f = cc in let others : map bare_member ms ≡ map (λ f. field (field_tree S f)) fs ++ more = cc in
        each_join (IsGood files) (of_field files file scope later x) (of_members files file scope in_union (later || in_union) ms) (initial_good later f h.0 h.1 h.2 x.ty (ap (λ y. y.ty) here) x.initial (ap (λ y. y.initial) here))
        (fields_good in_union (later || in_union) fs more h.3 rest ms others)
    fields_good in_union later (f ∷ fs) more h rest (constant x ∷ ms) e = cc
    fields_good in_union later (f ∷ fs) more h rest (method x ∷ ms) e = cc
    fields_good in_union later (f ∷ fs) more h rest (enumerator x ∷ ms) e = cc
    fields_good in_union later (f ∷ fs) more h rest (nested x ∷ ms) e = cc

    methods_good : {X : Type 0} (g : X → tree.Method) (in_union : Bool) (xs : List X) (more : List Member) → Rest in_union more → (later : Bool) (ms : List Member) → map bare_member ms ≡ map (λ x. method (g x)) xs ++ more → Each (IsGood files) (of_members files file scope in_union later ms)
    methods_good g in_union [] more rest later ms e = rest later ms e
    methods_good g in_union (x ∷ xs) more rest later [] e = cc
    methods_good g in_union (x ∷ xs) more rest later (method m ∷ ms) e = let others : map bare_member ms ≡ map (λ x. method (g x)) xs ++ more = cc in methods_good g in_union xs more rest later ms others
    methods_good g in_union (x ∷ xs) more rest later (field m ∷ ms) e = cc
    methods_good g in_union (x ∷ xs) more rest later (constant m ∷ ms) e = cc
    methods_good g in_union (x ∷ xs) more rest later (enumerator m ∷ ms) e = cc
    methods_good g in_union (x ∷ xs) more rest later (nested m ∷ ms) e = cc

    nested_good : (in_union : Bool) (more : List Member) → list_all is_nested more ≡ true → Rest in_union more
    nested_good in_union more h later [] e = tt
    nested_good in_union [] h later (m ∷ ms) e = cc
    nested_good in_union (n ∷ more) h later (nested d ∷ ms) e = let others : map bare_member ms ≡ more = cc in nested_good in_union more (and_parts (is_nested n) (list_all is_nested more) h).1 later ms others
    nested_good in_union (n ∷ more) h later (field m ∷ ms) e = let is : field (bare_field m) ≡ n = cc in let no_one : is_nested n ≡ false = ap is_nested (sym is) in let yes_so = (and_parts (is_nested n) (list_all is_nested more) h).0 in cc
    nested_good in_union (n ∷ more) h later (constant m ∷ ms) e = let is : constant (bare_constant m) ≡ n = cc in let no_one : is_nested n ≡ false = ap is_nested (sym is) in let yes_so = (and_parts (is_nested n) (list_all is_nested more) h).0 in cc
    nested_good in_union (n ∷ more) h later (method m ∷ ms) e = let others : map bare_member ms ≡ more = cc in nested_good in_union more (and_parts (is_nested n) (list_all is_nested more) h).1 later ms others
    nested_good in_union (n ∷ more) h later (enumerator m ∷ ms) e = let others : map bare_member ms ≡ more = cc in nested_good in_union more (and_parts (is_nested n) (list_all is_nested more) h).1 later ms others

    pub constant_good : (c : Constant) → has_value S c ≡ true → (x : tree.Constant) → bare_constant x ≡ constant_tree S c → Good files (out-Const c.value) (of_constant files file scope x)
    constant_good c h x e =
        let two = and_parts (not (is_named c.ty)) (is_constant_of S c.ty c.value) h in
        let m = base_means S H sorted A files are file scope s in_file c.ty (plain_meant c.ty two.0) in
        let sh = shape_is S H sorted A files are file scope s in_file c.ty m.0 m.1 m.2 shape.One (λ is. cc) x.ty (ap (λ y. y.ty) e) in
        subst (λ w. Good files (out-Const c.value) (of_expression file scope (wanted_one entries w) false x.value)) (sym sh) (value_good c.ty c.value two.1 m.0 m.1 m.2 false refl x.value (ap (λ y. y.value) e)) where
          plain_meant : (b : Base) → not (is_named b) ≡ true → is_meant (form_of S b) ≡ true
          plain_meant base.Boolean n = refl
          plain_meant base.Byte n = refl
          plain_meant base.Char n = refl
          plain_meant base.Int n = refl
          plain_meant base.Long n = refl
          plain_meant base.Text n = refl
          plain_meant (base.Named k) n = cc

    constants_good : (in_union : Bool) (cs : List Constant) (more : List Member) → list_all (λ c. has_value S c) cs ≡ true → Rest in_union more → Rest in_union (map (λ c. constant (constant_tree S c)) cs ++ more)
    constants_good in_union [] more h rest later ms e = rest later ms e
    constants_good in_union (c ∷ cs) more h rest later [] e = cc
    constants_good in_union (c ∷ cs) more h rest later (constant x ∷ ms) e =
        let two = and_parts (has_value S c) (list_all (λ c. has_value S c) cs) h in
        let here : bare_constant x ≡ constant_tree S c = cc in let others : map bare_member ms ≡ map (λ c. constant (constant_tree S c)) cs ++ more = cc in
        ((out-Const c.value, constant_good c two.0 x here), constants_good in_union cs more two.1 rest later ms others)
    constants_good in_union (c ∷ cs) more h rest later (field x ∷ ms) e = cc
    constants_good in_union (c ∷ cs) more h rest later (method x ∷ ms) e = cc
    constants_good in_union (c ∷ cs) more h rest later (enumerator x ∷ ms) e = cc
    constants_good in_union (c ∷ cs) more h rest later (nested x ∷ ms) e = cc

    -- the items of a body
    body_good : (d : Decl) (last : tree.Members) → (may_enclose d.kind ≡ false → (d.constants ≡ []) × (last ≡ none)) → list_all is_nested (listed last) ≡ true → list_all (λ c. has_value S c) d.constants ≡ true
        → (k : Kind) → (may_enclose k ≡ false → (d.constants ≡ []) × (last ≡ none)) → is_enum k ≡ false → list_all (λ f. is_field_type S f) (fields_of k) ≡ true → list_all (λ f. has_initializer_of S f.ty f.initial) (fields_of k) ≡ true → is_union_whole k ≡ true
        → (w : Wanted) (t : tree.Body) → bare_body t ≡ body_tree S k (constants_before S d last) → Each (IsGood files) (of_body files file scope w t)
    body_good d last hold n c (Interface xs) bare no_enum ft fv un w (interface oneway ms) e =
        methods_good (method_tree S) false xs _ (constants_good false d.constants (listed last) c (nested_good false (listed last) n)) false (listed ms) (sym (members_bare (interface oneway ms)) ∙ ap members e ∙ members_written S d (Interface xs) last bare)
    body_good d last hold n c (Parcelable fs) bare no_enum ft fv un w (parcelable ms) e =
        fields_good false false fs _ (free_fields S fs ft fv) (constants_good false d.constants (listed last) c (nested_good false (listed last) n)) (listed ms) (sym (members_bare (parcelable ms)) ∙ ap members e ∙ members_written S d (Parcelable fs) last bare)
    body_good d last hold n c (Union fs) bare no_enum ft fv un w (union ms) e =
        fields_good true false fs _ (union_fields S fs ft fv un) (constants_good true d.constants (listed last) c (nested_good true (listed last) n)) (listed ms) (sym (members_bare (union ms)) ∙ ap members e ∙ members_written S d (Union fs) last bare)
    body_good d last hold n c (Enum b xs) bare no_enum ft fv un w t e = cc
    body_good d last hold n c (Interface xs) bare no_enum ft fv un w (parcelable ms) e = cc
    body_good d last hold n c (Interface xs) bare no_enum ft fv un w (union ms) e = cc
    body_good d last hold n c (Interface xs) bare no_enum ft fv un w (enum ys) e = cc
    body_good d last hold n c (Parcelable fs) bare no_enum ft fv un w (interface oneway ms) e = cc
    body_good d last hold n c (Parcelable fs) bare no_enum ft fv un w (union ms) e = cc
    body_good d last hold n c (Parcelable fs) bare no_enum ft fv un w (enum ys) e = cc
    body_good d last hold n c (Union fs) bare no_enum ft fv un w (interface oneway ms) e = cc
    body_good d last hold n c (Union fs) bare no_enum ft fv un w (parcelable ms) e = cc
    body_good d last hold n c (Union fs) bare no_enum ft fv un w (enum ys) e = cc

  pub enum_or : (k : Kind) (P : Type 0) → ((b : Backing) (xs : List Enumerator) → k ≡ Enum b xs → P) → (is_enum k ≡ false → P) → P
  enum_or (Enum b xs) P one other = one b xs refl
  enum_or (Interface xs) P one other = other refl
  enum_or (Parcelable xs) P one other = other refl
  enum_or (Union xs) P one other = other refl

  pub holds_none : (k : Kind) → may_enclose k ≡ false → is_enum k ≡ true
  holds_none (Interface ms) e = cc
  holds_none (Parcelable fs) e = cc
  holds_none (Union fs) e = cc
  holds_none (Enum b es) e = refl

  pub entry_good : (enums : (n : ℕ) (d : Decl) → slice_get S n ≡ Some d → is_enum d.kind ≡ true → d.constants ≡ []) (w j : ℕ) (e : Entry) → IsEntry S files (walks S) w e → Each (IsGood files) (of_entry files j e)
  entry_good enums w j e h =
      let d = h.declared in let last = nested_trees S h.levels w in let v = H w d h.at in
      let bare : may_enclose d.kind ≡ false → (d.constants ≡ []) × (last ≡ none) = λ c. (enums w d h.at (holds_none d.kind c), no_nested S H sorted A files h.levels w (none_inside S H sorted A files w d h.at c)) in
      enum_or d.kind (Each (IsGood files) (of_entry files j e))
      (λ b xs is. enumerated_good files b xs (of_entry files j e) (enum_items S H sorted A files are once w j e h b xs is))
      (λ other. body_good e.file j h.source h.placed d last bare (all_nested S is_nested (λ t. refl) h.levels w) v.values d.kind bare other v.field_types v.initializers v.union (backing_of e.tree) (body e.tree) (body_bare e.tree ∙ ap body h.written))
