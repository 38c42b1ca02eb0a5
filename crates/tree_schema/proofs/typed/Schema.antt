-- Rule 3 of a valid schema: the types of a tree that breaks none of the rules on types.
use Rattle.std.proofs.Common.{IsTrue, ◌≡◌, ℕ, Bool, true, false, not, ◌&&◌, ◌||◌, codes, List, [], ◌∷◌, map, flat_map, length, Option, Some, None, slice_get, refl, ap, ◌∙◌, subst, arith}
use Rattle.std.specs.List.{list_any, list_all}
use Rattle.aidl_schema.specs.declared.schema.Decl as schema
use Rattle.aidl_schema.specs.Constants.{is_string}
use Rattle.aidl_schema.specs.Containment.{is_composite}
use Rattle.aidl_schema.specs.Methods.{has_types, has_decl_types, is_whole_type, may_be_on_heap, is_field_type, is_passed_type, is_result_type, has_method_types}
use Rattle.aidl_schema.specs.Types.{form_of, is_nullable_form}
use Rattle.aidl_syntax.specs.declared.tree.TypeTree.{TypeTree}
use Rattle.aidl_syntax.specs.Trees as tree
use Rattle.aidl_syntax.specs.Trees.{Annot, Arg, map_option}
use Rattle.aidl_syntax.specs.Members.{members, body}
use Rattle.aidl_syntax.specs.Members.Member.{field, method}
use Rattle.name_resolution.specs.declared.meaning.BuiltinName.TheVariants as built_in
use Rattle.name_resolution.specs.declared.meaning.Resolved.{Resolved}
use Rattle.name_resolution.specs.declared.meaning.Resolved.TheVariants.{Builtin, ListWord, LeftOut, Declared}
use Rattle.aidl_names.specs.Breaches.{breaches}
use Rattle.declared_names.specs.Declarations.{Entry, declarations}
use Rattle.declared_names.specs.TypeNames.{names_of_type, names_of_returned}
use Rattle.aidl_syntax.specs.Sources.{Source}
use Rattle.type_shapes.specs.declared.shape.Shape.{Shape}
use Rattle.type_shapes.specs.declared.shape.Shape.TheVariants as shape
use Rattle.type_shapes.specs.Backing.{backing_of}
use Rattle.type_shapes.specs.Types.{shape_in}
use Rattle.type_shapes.specs.Types as types
use Rattle.type_uses.specs.declared.annotation.Annotation.TheVariants as row
use Rattle.type_uses.specs.declared.stand.Stand.TheVariants as stand
use Rattle.type_uses.specs.Annotations.{is_text, is_text_based, row_of_name}
use Rattle.type_uses.specs.Bases as bases
use Rattle.type_uses.specs.Bases.{is_refused, is_one_scalar, is_one_composite}
use Rattle.type_uses.specs.Ids.{id_of}
use Rattle.type_uses.specs.Kept.{is_nullable, is_heap, is_utf8}
use Rattle.type_uses.specs.TypeUses.{of_method, of_arg}
use Rattle.type_rules.specs.AnnotationRules.{bad_annotations}
use Rattle.type_rules.specs.MethodRules.{is_oneway_body}
use Rattle.type_rules.specs.TypeRules.{bad_nullables}
use Rattle.type_rules.specs.Unbroken.{AreUnbroken}
use Rattle.tree_schema.specs.Numbers.{Numbered}
use Rattle.tree_schema.specs.Parts.{field_in, arg_in, method_in}
use Rattle.tree_schema.specs.SchemaOf.{schema_of, declared}
use Rattle.tree_schema.specs.Types.{base_of, typed}
use Rattle.tree_schema.specs.Values.{Outcomes}
use Rattle.tree_schema.proofs.lemmas.walked.Lists.{all-from_at}
use Rattle.tree_schema.proofs.walked.Outers.{are_named}
use Rattle.tree_schema.proofs.lemmas.walked.Placed.{Each}
use Rattle.tree_schema.proofs.lemmas.named.Numbers.{sorted-there}
use Rattle.tree_schema.proofs.lemmas.named.Schema.{schema-there}
use Rattle.tree_schema.proofs.typed.Forms.{base-composite, base-meant, base-nullable, element-nullable}
use Rattle.tree_schema.proofs.typed.Members.{fields-hold, methods-hold}
use Rattle.tree_schema.proofs.typed.Shapes.{is_base, is_sound, shape-sound}
use Rattle.tree_schema.proofs.typed.Uses.{IsFine, IsFineMember, is_left, any-parts, no-nullable, heap-nullable, stands-well, members-fine}
use Rattle.aidl_base.proofs.lemmas.Tests.{both}

joined_true : (a b : Bool) → a ≡ true → b ≡ true → (a && b) ≡ true
joined_true true true e h = refl
joined_true true false e h = cc
joined_true false b e h = cc

text_string : (entries : List Entry) (r : Resolved) → is_text r ≡ true → is_string (base_of entries r) ≡ true
text_string entries (Builtin built_in.Text) h = refl
text_string entries (Builtin built_in.Boolean) h = cc
text_string entries (Builtin built_in.Byte) h = cc
text_string entries (Builtin built_in.Char) h = cc
text_string entries (Builtin built_in.Int) h = cc
text_string entries (Builtin built_in.Long) h = cc
text_string entries ListWord h = cc
text_string entries LeftOut h = cc
text_string entries (Declared k) h = cc

utf8_holds : (entries : List Entry) (r : Resolved) (utf8 : Bool) → (utf8 ≡ true → is_text r ≡ true) → (not utf8 || is_string (base_of entries r)) ≡ true
utf8_holds entries r false h = refl
utf8_holds entries r true h = text_string entries r (h refl)

-- whatever the shape, the heap flag is that of the annotations
heap_is : (entries : List Entry) (annots : List Annot) (t : Shape) → (typed entries annots t).heap ≡ is_heap annots
heap_is entries annots (shape.One r) = refl
heap_is entries annots (shape.Array r) = refl
heap_is entries annots (shape.List r) = refl
heap_is entries annots shape.Refused = refl

unfold_utf8 : row_of_name (codes "utf8InCpp") ≡ Some row.Utf8InCpp
unfolding row_of_name
unfold_utf8 = refl

module _ (files : List Source) (outcomes : Outcomes) (named : are_named files ≡ true) (unbroken : breaches files ≡ []) where
  null_holds : (r : Resolved) → is_base (declarations files) r ≡ true → (nullable scalar : Bool) → bases.is_scalar (declarations files) r ≡ scalar → (scalar ≡ true → nullable ≡ false)
      → (not nullable || is_nullable_form (form_of (schema_of files outcomes) (base_of (declarations files) r))) ≡ true
  null_holds r sound false scalar e h = refl
  null_holds r sound true true e h = let no = h refl in cc
  null_holds r sound true false e h = base-nullable files outcomes named unbroken r sound e

  -- a type of the trees is one of the schema
  pub whole-type : (annots : List Annot) (t : Shape) → is_sound (declarations files) t ≡ true → is_refused t ≡ false
      → (is_one_scalar (declarations files) t ≡ true → is_nullable annots ≡ false) → (is_utf8 annots ≡ true → is_text_based t ≡ true)
      → is_whole_type (schema_of files outcomes) (typed (declarations files) annots t) ≡ true
  whole-type annots (shape.One r) sound refused null text =
      rw (base-meant files outcomes named unbroken r sound, null_holds r sound (is_nullable annots) (bases.is_scalar (declarations files) r) refl null, utf8_holds (declarations files) r (is_utf8 annots) text) refl
  whole-type annots (shape.Array r) sound refused null text =
      rw (base-meant files outcomes named unbroken r sound, utf8_holds (declarations files) r (is_utf8 annots) text) refl
  whole-type annots (shape.List r) sound refused null text =
      let two = both (is_base (declarations files) r) (types.is_list_element (declarations files) r) sound in
      rw (base-meant files outcomes named unbroken r two.0, element-nullable files outcomes named unbroken r two.1, utf8_holds (declarations files) r (is_utf8 annots) text) refl
  whole-type annots shape.Refused sound refused null text = cc

  heap_holds : (annots : List Annot) (t : Shape) → is_refused t ≡ false → ((not (is_refused t) && not (is_one_composite (declarations files) t)) ≡ true → is_heap annots ≡ false)
      → (h : Bool) → is_heap annots ≡ h → (not h || may_be_on_heap (schema_of files outcomes) (typed (declarations files) annots t)) ≡ true
  heap_holds annots t refused none false e = refl
  heap_holds annots (shape.One r) refused none true e = by (types.is_composite (declarations files) r) (base-composite files outcomes named unbroken r) none where
    by : (c : Bool) → is_composite (form_of (schema_of files outcomes) (base_of (declarations files) r)) ≡ c
        → ((true && not c) ≡ true → is_heap annots ≡ false) → may_be_on_heap (schema_of files outcomes) (typed (declarations files) annots (shape.One r)) ≡ true
    by true is free = rw (heap-nullable annots e, is) refl
    by false is free = let none_there = free refl in cc
  heap_holds annots (shape.Array r) refused none true e = let none_there = none refl in cc
  heap_holds annots (shape.List r) refused none true e = let none_there = none refl in cc
  heap_holds annots shape.Refused refused none true e = cc

  module _ (file scope : ℕ) (oneway : Bool) where
    text_at : (t : Shape) (annots : List Annot) → bad_annotations (stand.Type t) annots ≡ [] → is_utf8 annots ≡ true → is_text_based t ≡ true
    text_at t annots e h = stands-well (stand.Type t) annots (codes "utf8InCpp") row.Utf8InCpp unfold_utf8 e h

    pub field-typed : (f : tree.Field) (later : Bool) → IsFineMember files file scope oneway (field f) → is_field_type (schema_of files outcomes) (field_in files outcomes file scope later f) ≡ true
    field-typed f later h =
        let t = shape_in files file scope f.ty in
        let sound = shape-sound files file scope f.ty h.1 in
        let fine = h.0.0 in
        let no = no-nullable (is_one_scalar (declarations files) t) (not (is_refused t) && not (is_one_composite (declarations files) t)) f.annots fine.nullables in
        let ty = typed (declarations files) f.annots t in
        let whole = whole-type f.annots t sound fine.shaped no.0 (text_at t f.annots fine.annotations) in
        let heap : (not ty.heap || may_be_on_heap (schema_of files outcomes) ty) ≡ true =
        ap (λ b. not b || may_be_on_heap (schema_of files outcomes) ty) (heap_is (declarations files) f.annots t) ∙ heap_holds f.annots t fine.shaped no.1 (is_heap f.annots) refl in
        joined_true (is_whole_type (schema_of files outcomes) ty) (not ty.heap || may_be_on_heap (schema_of files outcomes) ty) whole heap

    -- the type of an argument or of a result
    passed_type : (annots : List Annot) (t : Shape) → is_sound (declarations files) t ≡ true → is_refused t ≡ false → bad_nullables (is_one_scalar (declarations files) t) (not (is_refused t)) annots ≡ []
        → bad_annotations (stand.Type t) annots ≡ [] → is_passed_type (schema_of files outcomes) (typed (declarations files) annots t) ≡ true
    passed_type annots t sound refused nullables annotations =
        let no = no-nullable (is_one_scalar (declarations files) t) (not (is_refused t)) annots nullables in
        let ty = typed (declarations files) annots t in
        let whole = whole-type annots t sound refused no.0 (text_at t annots annotations) in
        let heap : not ty.heap ≡ true = ap not (heap_is (declarations files) annots t ∙ no.1 (ap not refused)) in
        joined_true (is_whole_type (schema_of files outcomes) ty) (not ty.heap) whole heap

    args_typed : (args : List Arg) → Each (IsFine (declarations files) oneway) (map (of_arg (shape_in files file scope)) args) → list_any (is_left files file scope) (flat_map (λ a. names_of_type a.ty) args) ≡ false
        → list_all (λ a. is_passed_type (schema_of files outcomes) a.ty) (map (arg_in files file scope) args) ≡ true
    args_typed [] h names = refl
    args_typed (a ∷ args) h names =
        let two = any-parts (is_left files file scope) (names_of_type a.ty) (flat_map (λ (b : Arg). names_of_type b.ty) args) names in
        let here = passed_type a.annots (shape_in files file scope a.ty) (shape-sound files file scope a.ty two.0) h.0.shaped h.0.nullables h.0.annotations in
        rw (here, args_typed args h.1 two.1) refl

    result_typed : (m : tree.Method) (o : Option TypeTree) → IsFine (declarations files) oneway (of_method m (map_option (shape_in files file scope) o))
        → list_any (is_left files file scope) (names_of_returned o) ≡ false
        → is_result_type (schema_of files outcomes) (map_option (λ ty. typed (declarations files) m.annots (shape_in files file scope ty)) o) ≡ true
    result_typed m None fine names = refl
    result_typed m (Some ty) fine names = passed_type m.annots (shape_in files file scope ty) (shape-sound files file scope ty names) fine.shaped fine.nullables fine.annotations

    pub method-typed : (way : Bool) (id : ℕ) (m : tree.Method) → IsFineMember files file scope oneway (method m) → has_method_types (schema_of files outcomes) (method_in files file scope way id m) ≡ true
    method-typed way id m h =
        let two = any-parts (is_left files file scope) (names_of_returned m.returned) (flat_map (λ (a : Arg). names_of_type a.ty) m.args) h.1 in
        rw (result_typed m m.returned h.0.0 two.0, args_typed m.args h.0.1 two.1) refl

  module _ (fine : AreUnbroken files) where
    types_at : (x : Numbered) → slice_get (declarations files) x.0 ≡ Some x.1 → has_decl_types (schema_of files outcomes) (declared files outcomes x) ≡ true
    types_at x at =
        let all = members-fine files unbroken fine x.0 x.1 at in
        let oneway = is_oneway_body (body x.1.tree) in
        let P = IsFineMember files x.1.file x.0 oneway in
        let fields = fields-hold files outcomes x.1.file x.0 P (λ f. is_field_type (schema_of files outcomes) f) (field-typed x.1.file x.0 oneway) (backing_of x.1.tree) (body x.1.tree) all in
        let methods = methods-hold files outcomes x.1.file x.0 P (length (members (body x.1.tree))) (λ m. has_method_types (schema_of files outcomes) m) (backing_of x.1.tree) (body x.1.tree)
        (λ m before lt h. method-typed x.1.file x.0 oneway oneway (id_of before m) m h) (omega arith) all in
        rw (fields, methods) refl

    -- Rule 3 of a valid schema.
    pub types-hold : IsTrue (has_types (schema_of files outcomes))
    unfolding has_types
    types-hold = all-from_at (λ d. has_decl_types (schema_of files outcomes) d) (schema_of files outcomes) (λ n d at.
        let x = schema-there files outcomes n d at in
        subst (λ (c : schema.Decl). has_decl_types (schema_of files outcomes) c ≡ true) x.2 (types_at x.0 (sorted-there (declarations files) n x.0 x.1)))
