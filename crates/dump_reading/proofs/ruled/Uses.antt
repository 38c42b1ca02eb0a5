-- No use of a type in a dump breaks a rule by itself.
use Rattle.std.proofs.Common.{◌≡◌, ℕ, Bool, true, false, not, ◌&&◌, ◌||◌, if◌then◌else◌, List, [], ◌∷◌, map, Option, Some, None, is_some, slice_get, refl, sym, ap, ◌∙◌, subst}
use Rattle.std.specs.List.{list_all, list_any}
use Rattle.std.specs.Cmp.Lexicographic.{slice_cmp}
use Rattle.std.specs.List.Sorted.{IsStrictlySortedBy}
use Rattle.std.specs.Ordering.{nat_cmp}
use Rattle.std.proofs.lemmas.Bool.{and_parts}
use Rattle.aidl_syntax.specs.declared.tree.TypeTree.{TypeTree}
use Rattle.aidl_syntax.specs.Trees as tree
use Rattle.aidl_syntax.specs.Trees.{Annot, map_option}
use Rattle.name_resolution.specs.declared.meaning.Resolved.{Resolved}
use Rattle.aidl_syntax.specs.Sources.{Source}
use Rattle.declared_names.specs.Declarations.{Entry, declarations}
use Rattle.type_shapes.specs.Types.{shape_in}
use Rattle.type_uses.specs.declared.stand.Stand.TheVariants as stand
use Rattle.type_uses.specs.Annotations.{is_text_based}
use Rattle.type_uses.specs.Bases.{is_fixed_base, is_refused, is_one_composite, is_one_scalar}
use Rattle.type_uses.specs.Kept.{is_nullable}
use Rattle.type_uses.specs.TypeUses.{TypeUse, of_field, of_constant, of_method, of_argument, annotations_of, stand_of}
use Rattle.type_rules.specs.AnnotationRules.{bad_annotations}
use Rattle.type_rules.specs.TypeRules.{bad_nullables, bad_nullables_of, is_bad_shape, is_bad_direction, is_misdirected, is_outward}
use Rattle.type_rules.specs.MethodRules.{is_bad_oneway, gives_back}
use Rattle.type_rules.specs.FieldRules.{is_unfixed}
use Rattle.type_rules.specs.TypeRules.{is_bad_constant}
use Rattle.aidl_schema.specs.declared.schema.Decl.{Decl}
use Rattle.aidl_schema.specs.declared.schema.Field.{Field}
use Rattle.aidl_schema.specs.declared.schema.Constant.{Constant}
use Rattle.aidl_schema.specs.declared.schema.Method.{Method}
use Rattle.aidl_schema.specs.declared.schema.Arg.{Arg}
use Rattle.aidl_schema.specs.declared.schema.AidlType.{AidlType}
use Rattle.aidl_schema.specs.declared.schema.Base.{Base}
use Rattle.aidl_schema.specs.declared.schema.Base.TheVariants as base
use Rattle.aidl_schema.specs.declared.schema.Direction.{Direction}
use Rattle.aidl_schema.specs.declared.schema.Direction.TheVariants as direction
use Rattle.aidl_schema.specs.declared.schema.Shape.{Shape}
use Rattle.aidl_schema.specs.declared.schema.Shape.TheVariants as shape
use Rattle.aidl_schema.specs.Constants.{is_string, is_constant_of}
use Rattle.aidl_schema.specs.Containment as containment
use Rattle.aidl_schema.specs.Holds.{AllHold, AreApart}
use Rattle.aidl_schema.specs.Methods.{is_whole_type, may_be_on_heap, is_field_type, is_passed_type, is_result_type, has_way, is_in_way}
use Rattle.aidl_schema.specs.Names.{name_of}
use Rattle.aidl_schema.specs.Same.{is_named, decl_of}
use Rattle.aidl_schema.specs.Types as schema
use Rattle.aidl_schema.specs.Types.{Form, form_of, is_meant, is_well_shaped, is_type, is_nullable_form, is_one}
use Rattle.aidl_schema.specs.Valid as valid
use Rattle.aidl_schema.specs.Valid.{has_value}
use Rattle.api_dump.specs.Types.{base_name}
use Rattle.dump_reading.specs.Bare.{bare_annot, bare_type, bare_field, bare_constant, bare_arg, bare_method}
use Rattle.dump_reading.specs.DumpTrees.{type_tree, field_tree, constant_tree, arg_tree, method_tree, returned_tree, returned_annots, way_tree}
use Rattle.dump_reading.proofs.filed.Numbers.{walks}
use Rattle.dump_reading.proofs.named.Entries.{AreEntries}
use Rattle.dump_reading.proofs.settled.Shapes.{shape_of}
use Rattle.dump_reading.proofs.ruled.Marks.{marks, nullable_kept, marks_fine, nulls_fine, none_bare}
use Rattle.dump_reading.proofs.ruled.Bases.{IsBase, IsTyped, scalar_is, text_base, constant_base, fixed_base, typed_here}

-- It breaks none of E13, E14, E16, E17, E18 and E20, and not E24 either where that looks at it.
pub record IsFineUse (entries : List Entry) (fixed : Bool) (u : TypeUse) : Type 0 where
  pub annotations : bad_annotations (stand_of u) (annotations_of u) ≡ []
  pub nullables : bad_nullables_of entries u ≡ []
  pub shaped : is_bad_shape u ≡ false
  pub direction : is_bad_direction entries u ≡ false
  pub oneway : is_bad_oneway false u ≡ false
  pub constant : is_bad_constant u ≡ false
  pub unfixed : fixed ≡ true → is_unfixed entries u ≡ false

or_left : (a b : Bool) → (not a || b) ≡ true → a ≡ true → b ≡ true
or_left a b h is = ap (λ t. not t || b) (sym is) ∙ h

no_scalar : (f : Form) → is_nullable_form f ≡ true → schema.is_scalar f ≡ false
no_scalar schema.text h = refl
no_scalar (schema.parcelable fs) h = refl
no_scalar (schema.union fs) h = refl
no_scalar schema.truth h = cc
no_scalar schema.byte h = cc
no_scalar schema.char h = cc
no_scalar schema.int h = cc
no_scalar schema.long h = cc
no_scalar schema.nothing h = cc

not_refused : (w : Shape) (r : Resolved) → is_refused (shape_of w r) ≡ false
not_refused shape.One r = refl
not_refused shape.Array r = refl
not_refused shape.List r = refl

args_inward : (S : List Decl) (xs : List tree.Arg) (args : List Arg) → map bare_arg xs ≡ map (λ a. arg_tree S a) args → list_all (λ a. is_in_way a.way) args ≡ true → list_any (λ a. is_outward a.way) xs ≡ false
args_inward S [] args e h = refl
args_inward S (x ∷ xs) [] e h = cc
args_inward S (x ∷ xs) (a ∷ args) e h =
    let here : bare_arg x ≡ arg_tree S a = cc in let rest : map bare_arg xs ≡ map (λ a. arg_tree S a) args = cc in
    let two = and_parts (is_in_way a.way) (list_all (λ a. is_in_way a.way) args) h in
    ap (λ o. is_outward o || list_any (λ a. is_outward a.way) xs) (ap (λ y. y.way) here)
    ∙ ap (λ b. b || list_any (λ a. is_outward a.way) xs) (inward a.way two.0) ∙ args_inward S xs args rest two.1 where
      inward : (w : Direction) → is_in_way w ≡ true → is_outward (Some (way_tree w)) ≡ false
      inward direction.In g = refl
      inward direction.Out g = cc
      inward direction.InOut g = cc

pub no_type : (o : Option TypeTree) → map_option bare_type o ≡ None → o ≡ None
no_type None e = refl
no_type (Some t) e = cc

pub the_type : (o : Option TypeTree) (t : TypeTree) → map_option bare_type o ≡ Some t → (ty : TypeTree) × (o ≡ Some ty) × (bare_type ty ≡ t)
the_type None t e = cc
the_type (Some ty) t e = (ty, refl, let is : bare_type ty ≡ t = cc in is)

module _ (S : List Decl) (H : AllHold S) (sorted : IsStrictlySortedBy (slice_cmp nat_cmp) (map name_of S)) (A : AreApart name_of S) (files : List Source) (are : AreEntries S files (walks S) (declarations files))
    (file scope : ℕ) (s : Source) (in_file : slice_get files file ≡ Some s) where
  abbrev entries : List Entry
  entries = declarations files

  abbrev Typed : AidlType → TypeTree → Type 0
  Typed t ty = IsTyped S H sorted A files are file scope s in_file t ty

  type_of_whole : (t : AidlType) → is_whole_type S t ≡ true → is_type S t ≡ true
  type_of_whole t h = (and_parts (is_type S t) (not t.utf8 || is_string t.base) h).0

  -- where `utf8` stands the base is String
  utf8_text : (t : AidlType) → is_whole_type S t ≡ true → (r : Resolved) → IsBase S H sorted A files are t.base r → t.utf8 ≡ true → is_text_based (shape_of t.shape r) ≡ true
  utf8_text t h r i u = by t.shape where
    text_so : is_string t.base ≡ true
    text_so = or_left t.utf8 (is_string t.base) (and_parts (is_type S t) (not t.utf8 || is_string t.base) h).1 u

    by : (w : Shape) → is_text_based (shape_of w r) ≡ true
    by shape.One = text_base S H sorted A files are t.base r i text_so
    by shape.Array = text_base S H sorted A files are t.base r i text_so
    by shape.List = text_base S H sorted A files are t.base r i text_so

  -- where `nullable` stands the type is no single number or truth value
  nullable_free : (t : AidlType) → is_type S t ≡ true → (r : Resolved) → IsBase S H sorted A files are t.base r → t.nullable ≡ true → is_one_scalar entries (shape_of t.shape r) ≡ false
  nullable_free t h r i n = by t.shape (and_parts (is_meant (form_of S t.base)) (is_well_shaped t.shape t.nullable (form_of S t.base)) h).1 where
    by : (w : Shape) → is_well_shaped w t.nullable (form_of S t.base) ≡ true → is_one_scalar entries (shape_of w r) ≡ false
    by shape.One g = scalar_is S H sorted A files are t.base r i ∙ no_scalar (form_of S t.base) (or_left t.nullable (is_nullable_form (form_of S t.base)) g n)
    by shape.Array g = refl
    by shape.List g = refl

  annotations_fine : (t : AidlType) → is_whole_type S t ≡ true → (ty : TypeTree) (d : Typed t ty) (annots : List Annot) → map bare_annot annots ≡ marks t.nullable t.heap t.utf8 → bad_annotations (stand.Type (shape_of t.shape d.0)) annots ≡ []
  annotations_fine t h ty d annots e = ap (map (λ a. a.offset)) (marks_fine (shape_of t.shape d.0) t.nullable t.heap t.utf8 (utf8_text t h d.0 d.2) annots e)

  nullables_fine : (t : AidlType) → is_whole_type S t ≡ true → (ty : TypeTree) (d : Typed t ty) (no_heap : Bool) → (t.heap ≡ true → no_heap ≡ false) → (annots : List Annot) → map bare_annot annots ≡ marks t.nullable t.heap t.utf8
      → bad_nullables (is_one_scalar entries (shape_of t.shape d.0)) no_heap annots ≡ []
  nullables_fine t h ty d no_heap k annots e =
      ap (map (λ a. a.offset)) (nulls_fine (is_one_scalar entries (shape_of t.shape d.0)) no_heap t.nullable t.heap t.utf8 (nullable_free t (type_of_whole t h) d.0 d.2) k annots e)

  no_heap : {P : Type 0} (t : AidlType) → not t.heap ≡ true → t.heap ≡ true → P
  no_heap t h k = let is : false ≡ true = ap not (sym k) ∙ h in cc

  -- Fields.

  pub field_fine : (fixed : Bool) (f : Field) → is_field_type S f ≡ true → (fixed ≡ true → valid.has_fixed_size S f.ty ≡ true) → (x : tree.Field) → bare_field x ≡ field_tree S f → IsFineUse entries fixed (of_field x (shape_in files file scope x.ty))
  field_fine fixed f h fx x e = subst (λ t. IsFineUse entries fixed (of_field x t)) (sym d.1) (record {
    annotations = annotations_fine f.ty two.0 x.ty d x.annots marks_are;
    nullables = nullables_fine f.ty two.0 x.ty d _ heap_free x.annots marks_are;
    shaped = not_refused f.ty.shape d.0;
    direction = refl;
    oneway = refl;
    constant = refl;
    unfixed = λ yes_so. sized (fx yes_so);
  }) where
    two : (is_whole_type S f.ty ≡ true) × ((not f.ty.heap || may_be_on_heap S f.ty) ≡ true)
    two = and_parts (is_whole_type S f.ty) (not f.ty.heap || may_be_on_heap S f.ty) h

    d : Typed f.ty x.ty
    d = typed_here S H sorted A files are file scope s in_file f.ty (type_of_whole f.ty two.0) x.ty (ap (λ y. y.ty) e)

    marks_are : map bare_annot x.annots ≡ marks f.ty.nullable f.ty.heap f.ty.utf8
    marks_are = ap (λ y. y.annots) e

    heap_free : f.ty.heap ≡ true → (not (is_refused (shape_of f.ty.shape d.0)) && not (is_one_composite entries (shape_of f.ty.shape d.0))) ≡ false
    heap_free on = by f.ty.shape (and_parts f.ty.nullable (is_one f.ty.shape && containment.is_composite (form_of S f.ty.base)) (or_left f.ty.heap (may_be_on_heap S f.ty) two.1 on)).1 where
      by : (w : Shape) → (is_one w && containment.is_composite (form_of S f.ty.base)) ≡ true → (not (is_refused (shape_of w d.0)) && not (is_one_composite entries (shape_of w d.0))) ≡ false
      by shape.One g = ap not (d.3 ∙ g)
      by shape.Array g = cc
      by shape.List g = cc

    sized : valid.has_fixed_size S f.ty ≡ true → is_unfixed entries (of_field x (shape_of f.ty.shape d.0)) ≡ false
    sized g = by f.ty.shape (and_parts (is_one f.ty.shape) (not f.ty.nullable && (schema.is_scalar (form_of S f.ty.base) || valid.is_fixed (decl_of S f.ty.base))) g).0 where
      three : (not f.ty.nullable ≡ true) × ((schema.is_scalar (form_of S f.ty.base) || valid.is_fixed (decl_of S f.ty.base)) ≡ true)
      three = and_parts (not f.ty.nullable) (schema.is_scalar (form_of S f.ty.base) || valid.is_fixed (decl_of S f.ty.base))
          (and_parts (is_one f.ty.shape) (not f.ty.nullable && (schema.is_scalar (form_of S f.ty.base) || valid.is_fixed (decl_of S f.ty.base))) g).1

      flipped : (b : Bool) → not b ≡ true → b ≡ false
      flipped true q = cc
      flipped false q = refl

      no_null : is_nullable x.annots ≡ false
      no_null = nullable_kept x.annots f.ty.nullable f.ty.heap f.ty.utf8 marks_are ∙ flipped f.ty.nullable three.0

      by : (w : Shape) → is_one w ≡ true → is_unfixed entries (of_field x (shape_of w d.0)) ≡ false
      by shape.One q = ap (λ b. b || not (is_fixed_base entries d.0)) no_null ∙ ap not (fixed_base S H sorted A files are f.ty.base d.0 d.2 three.1)
      by shape.Array q = cc
      by shape.List q = cc

  -- Constants.

  pub constant_fine : (fixed : Bool) (c : Constant) → has_value S c ≡ true → (x : tree.Constant) → bare_constant x ≡ constant_tree S c → IsFineUse entries fixed (of_constant x (shape_in files file scope x.ty))
  constant_fine fixed c h x e = subst (λ t. IsFineUse entries fixed (of_constant x t)) (sym d.1) (record {
    annotations = ap (bad_annotations stand.Constant) bare;
    nullables = ap (bad_nullables false false) bare;
    shaped = refl;
    direction = refl;
    oneway = refl;
    constant = ap not (constant_base S H sorted A files are c.ty d.0 d.2 plain);
    unfixed = λ yes_so. refl;
  }) where
    plain : not (is_named c.ty) ≡ true
    plain = (and_parts (not (is_named c.ty)) (is_constant_of S c.ty c.value) h).0

    meant : (b : Base) → not (is_named b) ≡ true → is_type S (record { base = b; shape = shape.One; nullable = false; heap = false; utf8 = false }) ≡ true
    meant base.Boolean n = refl
    meant base.Byte n = refl
    meant base.Char n = refl
    meant base.Int n = refl
    meant base.Long n = refl
    meant base.Text n = refl
    meant (base.Named k) n = cc

    d : Typed (record { base = c.ty; shape = shape.One; nullable = false; heap = false; utf8 = false }) x.ty
    d = typed_here S H sorted A files are file scope s in_file (record { base = c.ty; shape = shape.One; nullable = false; heap = false; utf8 = false }) (meant c.ty plain) x.ty (ap (λ y. y.ty) e)

    bare : x.annots ≡ []
    bare = none_bare x.annots (ap (λ y. y.annots) e)

  -- Arguments.

  pub argument_fine : (fixed : Bool) (a : Arg) → is_passed_type S a.ty ≡ true → has_way S a ≡ true → (x : tree.Arg) → bare_arg x ≡ arg_tree S a → IsFineUse entries fixed (of_argument x (shape_in files file scope x.ty))
  argument_fine fixed a h way x e = subst (λ t. IsFineUse entries fixed (of_argument x t)) (sym d.1) (record {
    annotations = annotations_fine a.ty two.0 x.ty d x.annots marks_are;
    nullables = nullables_fine a.ty two.0 x.ty d _ (no_heap a.ty two.1) x.annots marks_are;
    shaped = not_refused a.ty.shape d.0;
    direction = ap (is_misdirected entries (shape_of a.ty.shape d.0)) (ap (λ y. y.way) e) ∙ directed a.ty.shape way;
    oneway = refl;
    constant = refl;
    unfixed = λ yes_so. refl;
  }) where
    two : (is_whole_type S a.ty ≡ true) × (not a.ty.heap ≡ true)
    two = and_parts (is_whole_type S a.ty) (not a.ty.heap) h

    d : Typed a.ty x.ty
    d = typed_here S H sorted A files are file scope s in_file a.ty (type_of_whole a.ty two.0) x.ty (ap (λ y. y.ty) e)

    marks_are : map bare_annot x.annots ≡ marks a.ty.nullable a.ty.heap a.ty.utf8
    marks_are = ap (λ y. y.annots) e

    directed : (w : Shape) → (is_in_way a.way || (not (is_one w) || containment.is_composite (form_of S a.ty.base))) ≡ true → is_misdirected entries (shape_of w d.0) (Some (way_tree a.way)) ≡ false
    directed shape.Array g = refl
    directed shape.List g = refl
    directed shape.One g = ap (λ b. if b then false else is_outward (Some (way_tree a.way))) d.3 ∙ by (containment.is_composite (form_of S a.ty.base)) a.way g where
      by : (b : Bool) (w : Direction) → (is_in_way w || b) ≡ true → (if b then false else is_outward (Some (way_tree w))) ≡ false
      by true w k = refl
      by false direction.In k = refl
      by false direction.Out k = cc
      by false direction.InOut k = cc

  -- Methods.

  pub method_fine : (fixed : Bool) (m : Method) → is_result_type S m.result ≡ true → (m.oneway ≡ true → (m.result ≡ None) × (list_all (λ a. is_in_way a.way) m.args ≡ true)) → (x : tree.Method) → bare_method x ≡ method_tree S m
      → IsFineUse entries fixed (of_method x (map_option (shape_in files file scope) x.returned))
  method_fine fixed m h way x e = by m.result h (ap (λ y. y.returned) e) (ap (λ y. y.annots) e) where
    way_free : is_bad_oneway false (of_method x (map_option (shape_in files file scope) x.returned)) ≡ false
    way_free = ap (λ b. b && gives_back x) (ap (λ y. y.oneway) e) ∙ go m.oneway refl where
      go : (b : Bool) → m.oneway ≡ b → (b && gives_back x) ≡ false
      go false is = refl
      go true is =
          let w = way is in
          let none_back : x.returned ≡ None = no_type x.returned (ap (λ y. y.returned) e ∙ ap (returned_tree S) w.0) in
          ap (λ o. is_some o || list_any (λ a. is_outward a.way) x.args) none_back ∙ args_inward S x.args m.args (ap (λ y. y.args) e) w.1

    by : (o : Option AidlType) → is_result_type S o ≡ true → map_option bare_type x.returned ≡ returned_tree S o → map bare_annot x.annots ≡ returned_annots o → IsFineUse entries fixed (of_method x (map_option (shape_in files file scope) x.returned))
    by None g r n =
        let bare = none_bare x.annots n in let back = no_type x.returned r in
        let shape_none : map_option (shape_in files file scope) x.returned ≡ None = ap (map_option (shape_in files file scope)) back in
        subst (λ t. is_bad_oneway false (of_method x t) ≡ false → IsFineUse entries fixed (of_method x t)) (sym shape_none) (λ w. record {
          annotations = ap (bad_annotations stand.Void) bare;
          nullables = ap (bad_nullables true true) bare;
          shaped = refl;
          direction = refl;
          oneway = w;
          constant = refl;
          unfixed = λ yes_so. refl;
        }) way_free
    by (Some t) g r n =
        let two = and_parts (is_whole_type S t) (not t.heap) g in
        let ty = the_type x.returned (type_tree t.shape (base_name S t.base)) r in
        let d = typed_here S H sorted A files are file scope s in_file t (type_of_whole t two.0) ty.0 ty.2 in
        let shape_some : map_option (shape_in files file scope) x.returned ≡ Some (shape_of t.shape d.0) = ap (map_option (shape_in files file scope)) ty.1 ∙ ap Some d.1 in
        subst (λ q. is_bad_oneway false (of_method x q) ≡ false → IsFineUse entries fixed (of_method x q)) (sym shape_some) (λ w. record {
          annotations = annotations_fine t two.0 ty.0 d x.annots n;
          nullables = nullables_fine t two.0 ty.0 d _ (no_heap t two.1) x.annots n;
          shaped = not_refused t.shape d.0;
          direction = refl;
          oneway = w;
          constant = refl;
          unfixed = λ yes_so. refl;
        }) way_free
