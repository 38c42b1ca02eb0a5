-- No declaration of the trees that a dump stands for breaks a rule on types.
use Rattle.std.proofs.Common.{◌≡◌, ℕ, ◌+◌, arith, Bool, true, false, not, ◌&&◌, cond, if◌then◌else◌, List, [], ◌∷◌, ◌++◌, map, codes, Some, slice_get, refl, sym, ap, ◌∙◌, subst}
use Rattle.std.specs.List.{list_all, list_any, find, flat_map}
use Rattle.std.specs.Cmp.Lexicographic.{slice_cmp}
use Rattle.std.specs.List.Sorted.{IsStrictlySortedBy}
use Rattle.std.specs.Ordering.{nat_cmp}
use Rattle.aidl_syntax.specs.declared.token.TokenKind.TheVariants as kind
use Rattle.aidl_syntax.specs.declared.tree.TypeTree.{TypeTree}
use Rattle.aidl_syntax.specs.Trees as tree
use Rattle.aidl_syntax.specs.Trees.{Annot, Param}
use Rattle.aidl_syntax.specs.Trees.Members.{none}
use Rattle.aidl_syntax.specs.Trees.Init.{single}
use Rattle.aidl_syntax.specs.Trees.Body.{enum, parcelable, union, interface}
use Rattle.aidl_syntax.specs.Members.{Member, listed, members, body, declared_name}
use Rattle.aidl_syntax.specs.Members.Member.{field, constant, method, enumerator, nested}
use Rattle.aidl_syntax.specs.Sources.{Source}
use Rattle.declared_names.specs.Declarations.{Entry, declarations}
use Rattle.aidl_names.specs.Breaches.{in_order}
use Rattle.type_shapes.specs.Backing.{annots_of, is_backing, is_type}
use Rattle.type_shapes.specs.declared.shape.Shape as types
use Rattle.type_shapes.specs.Types.{is_enum_body, shape_in}
use Rattle.type_uses.specs.Annotations.{stand_of_body}
use Rattle.type_uses.specs.Bases.{is_fixed_entry}
use Rattle.type_uses.specs.Parameters.{literal_of, is_backing_word}
use Rattle.type_uses.specs.TypeUses.{TypeUse, of_members, type_uses, is_field, annotations_of, stand_of, name_place, type_place}
use Rattle.type_rules.specs.AnnotationRules.{bad_annotations, bad_backing, names_backing}
use Rattle.type_rules.specs.FieldRules.{bad_fields, is_union_body, is_unfixed}
use Rattle.type_rules.specs.Filters.{broken_where}
use Rattle.type_rules.specs.IdRules.{bad_ids}
use Rattle.type_rules.specs.MethodRules.{is_oneway_body, is_bad_oneway}
use Rattle.type_rules.specs.TypeRules.{bad_nullables_of, is_bad_constant, is_bad_shape, is_bad_direction}
use Rattle.type_rules.specs.Breaches.{broken_in, unsorted, breaches}
use Rattle.type_rules.specs.Unbroken.{IsUnbroken, AreUnbroken}
use Rattle.type_rules.proofs.lemmas.Nothing.{none_by}
use Rattle.tree_schema.proofs.lemmas.walked.Placed.{Each}
use Rattle.aidl_schema.specs.declared.schema.Decl.{Decl}
use Rattle.aidl_schema.specs.declared.schema.Field.{Field}
use Rattle.aidl_schema.specs.declared.schema.Backing.{Backing}
use Rattle.aidl_schema.specs.declared.schema.Backing.TheVariants as backing
use Rattle.aidl_schema.specs.declared.schema.Kind.{Kind}
use Rattle.aidl_schema.specs.declared.schema.Kind.TheVariants.{Interface, Parcelable, Union, Enum}
use Rattle.aidl_schema.specs.Containment.{fields_of}
use Rattle.aidl_schema.specs.Holds.{AllHold, AreApart}
use Rattle.aidl_schema.specs.Methods.{is_field_type}
use Rattle.aidl_schema.specs.Names.{name_of, may_enclose, methods_of}
use Rattle.aidl_schema.specs.Valid.{is_enum, is_union_whole, are_union_fields, has_initializer_of, has_fixed_size}
use Rattle.api_dump.specs.Pieces.{ident}
use Rattle.api_dump.specs.Declarations.{backing_text}
use Rattle.dump_reading.specs.Bare.{bare_body, bare_param, bare_annot}
use Rattle.dump_reading.specs.DumpTrees.{body_tree, constants_before, nested_trees, backed_tree, token_tree, field_tree, constant_tree, method_tree}
use Rattle.dump_reading.proofs.filed.Numbers.{walks}
use Rattle.dump_reading.proofs.named.Entries.{IsEntry, AreEntries, none_inside, no_nested}
use Rattle.dump_reading.proofs.named.Stand.{each_none}
use Rattle.dump_reading.proofs.named.Members.{bare_member, members_bare, members_written, all_nested, all_mapped}
use Rattle.dump_reading.proofs.settled.Shapes.{body_bare}
use Rattle.dump_reading.proofs.settled.Items.{annots_bare, type_named}
use Rattle.dump_reading.proofs.settled.Members.{is_nested, free_fields, union_fields}
use Rattle.dump_reading.proofs.ruled.Marks.{flags, stand_of_kind, flags_fine, literal_bare}
use Rattle.dump_reading.proofs.ruled.Bases.{fixed_kind, fixed_entry}
use Rattle.dump_reading.proofs.ruled.Uses.{IsFineUse}
use Rattle.dump_reading.proofs.valued.WalkMembers.{is_no_field}
use Rattle.dump_reading.proofs.drafted.Bodies.{all_join}
use Rattle.dump_reading.proofs.ruled.TypeUses.{uses_fine, flat_each, filter_each}
use Rattle.dump_reading.proofs.ruled.Ids.{among, among_uses, methods_written, ids_fine}
use Rattle.dump_reading.proofs.ruled.Fields.{fields_pass}

holds_none : (k : Kind) → may_enclose k ≡ false → is_enum k ≡ true
holds_none (Interface ms) e = cc
holds_none (Parcelable fs) e = cc
holds_none (Union fs) e = cc
holds_none (Enum b es) e = refl

-- E15.

param_named : (b : Backing) (ps : List Param) → map bare_param ps ≡ (backed_tree b).params → names_backing (find is_type ps) ≡ true
unfolding lib.Utf8.encode
param_named b [] e = cc
param_named b (p ∷ ps) e =
    let is : bare_param p ≡ record { offset = 0; name = Some (record { offset = 0; name = ident (codes "type") }); value = single (token_tree (kind.Str (backing_text b))) } = cc in
    ap (λ t. names_backing (cond t (Some p) (find is_type ps))) (type_named p.name (ap (λ x. x.name) is))
    ∙ ap is_backing_word (sym (literal_bare p.value) ∙ ap (λ x. literal_of x.value) is) ∙ by b where
      by : (b : Backing) → is_backing_word (Some (kind.Str (backing_text b))) ≡ true
      by backing.Byte = refl
      by backing.Int = refl
      by backing.Long = refl

backing_named : (b : Backing) (annots more : List Annot) → map bare_annot annots ≡ backed_tree b ∷ more → bad_backing (find is_backing annots) ≡ []
unfolding lib.Utf8.encode
backing_named b [] more e = cc
backing_named b (a ∷ annots) more e =
    let is : bare_annot a ≡ backed_tree b = cc in
    let called_so : is_backing a ≡ true = ap is_backing is in
    ap (λ t. bad_backing (cond t (Some a) (find is_backing annots))) called_so
    ∙ ap (λ t. if not t then a.offset ∷ [] else []) (param_named b a.params (ap (λ x. x.params) is))

backing_fine : (k : Kind) (f v : Bool) (annots : List Annot) → map bare_annot annots ≡ flags k f v → (c : Bool) → (c ≡ true → is_enum k ≡ true) → (if c then bad_backing (find is_backing annots) else []) ≡ []
backing_fine k f v annots e false h = refl
backing_fine (Enum b es) f v annots e true h = backing_named b annots _ e
backing_fine (Interface ms) f v annots e true h = let is = h refl in cc
backing_fine (Parcelable fs) f v annots e true h = let is = h refl in cc
backing_fine (Union fs) f v annots e true h = let is = h refl in cc

-- What a body is, by its kind.

module _ (S : List Decl) where
  stands_by : (k : Kind) (ms : tree.Members) (t : tree.Body) → bare_body t ≡ body_tree S k ms → (stand_of_body t ≡ stand_of_kind k) × (is_oneway_body t ≡ false) × (is_enum_body t ≡ true → is_enum k ≡ true)
  stands_by (Interface xs) ms (interface oneway ns) e = (refl, ap is_oneway_body e, λ h. cc)
  stands_by (Interface xs) ms (parcelable ns) e = cc
  stands_by (Interface xs) ms (union ns) e = cc
  stands_by (Interface xs) ms (enum es) e = cc
  stands_by (Parcelable xs) ms (parcelable ns) e = (refl, refl, λ h. cc)
  stands_by (Parcelable xs) ms (interface oneway ns) e = cc
  stands_by (Parcelable xs) ms (union ns) e = cc
  stands_by (Parcelable xs) ms (enum es) e = cc
  stands_by (Union xs) ms (union ns) e = (refl, refl, λ h. cc)
  stands_by (Union xs) ms (interface oneway ns) e = cc
  stands_by (Union xs) ms (parcelable ns) e = cc
  stands_by (Union xs) ms (enum es) e = cc
  stands_by (Enum b xs) ms (enum es) e = (refl, refl, λ h. refl)
  stands_by (Enum b xs) ms (interface oneway ns) e = cc
  stands_by (Enum b xs) ms (parcelable ns) e = cc
  stands_by (Enum b xs) ms (union ns) e = cc

module _ (S : List Decl) (H : AllHold S) (sorted : IsStrictlySortedBy (slice_cmp nat_cmp) (map name_of S)) (A : AreApart name_of S) (enums : (n : ℕ) (d : Decl) → slice_get S n ≡ Some d → is_enum d.kind ≡ true → d.constants ≡ [])
    (files : List Source) (are : AreEntries S files (walks S) (declarations files)) where
  module _ (file scope : ℕ) (s : Source) (in_file : slice_get files file ≡ Some s) (d : Decl) (last : tree.Members) (inner : list_all is_no_field (listed last) ≡ true) where
    abbrev sh : TypeTree → types.Shape
    sh = shape_in files file scope

    rest_free : list_all is_no_field (map (λ c. constant (constant_tree S c)) d.constants ++ listed last) ≡ true
    rest_free = all_join is_no_field (map (λ c. constant (constant_tree S c)) d.constants) (listed last) (all_mapped S is_no_field (λ c. constant (constant_tree S c)) d.constants (λ k c e. refl)) inner

    none_bad : (t : tree.Body) → list_all is_no_field (members t) ≡ true → (in_union : Bool) → bad_fields (declarations files) in_union false (of_members sh (members t)) ≡ []
    none_bad t h in_union = fields_pass S H sorted A files are file scope s in_file in_union false [] tt (map bare_member (members t)) (by (members t) h) (members t) refl where
      by : (ms : List Member) → list_all is_no_field ms ≡ true → list_all is_no_field (map bare_member ms) ≡ true
      by [] h = refl
      by (field f ∷ ms) h = cc
      by (constant c ∷ ms) h = by ms h
      by (method m ∷ ms) h = by ms h
      by (enumerator e ∷ ms) h = by ms h
      by (nested e ∷ ms) h = by ms h

    enumerators_free : (es : List tree.Enumerator) → list_all is_no_field (map enumerator es) ≡ true
    enumerators_free [] = refl
    enumerators_free (e ∷ es) = enumerators_free es

    first_field : (fs : List Field) (more ms : List Member) → are_union_fields fs ≡ true → map bare_member ms ≡ map (λ f. field (field_tree S f)) fs ++ more → list_any is_field (of_members sh ms) ≡ true
    first_field [] more ms h e = cc
    first_field (f ∷ fs) more [] h e = cc
    first_field (f ∷ fs) more (field x ∷ ms) h e = refl
    first_field (f ∷ fs) more (constant x ∷ ms) h e = cc
    first_field (f ∷ fs) more (method x ∷ ms) h e = cc
    first_field (f ∷ fs) more (enumerator x ∷ ms) h e = cc
    first_field (f ∷ fs) more (nested x ∷ ms) h e = cc

    -- E21
    body_fields : (b : ℕ) (k : Kind) → (may_enclose k ≡ false → (d.constants ≡ []) × (last ≡ none)) → list_all (λ f. is_field_type S f) (fields_of k) ≡ true → list_all (λ f. has_initializer_of S f.ty f.initial) (fields_of k) ≡ true → is_union_whole k ≡ true
        → (t : tree.Body) → bare_body t ≡ body_tree S k (constants_before S d last)
        → ((if is_union_body t && not (list_any is_field (of_members sh (members t))) then b ∷ [] else []) ≡ []) × (bad_fields (declarations files) (is_union_body t) false (of_members sh (members t)) ≡ [])
    body_fields b (Parcelable fs) bare ft fv un (parcelable ms) e =
        (refl, fields_pass S H sorted A files are file scope s in_file false false fs (free_fields S fs ft fv) _ rest_free (listed ms) (sym (members_bare (parcelable ms)) ∙ ap members e ∙ members_written S d (Parcelable fs) last bare))
    body_fields b (Union fs) bare ft fv un (union ms) e =
        let written = sym (members_bare (union ms)) ∙ ap members e ∙ members_written S d (Union fs) last bare in (
          ap (λ t. if not t then b ∷ [] else []) (first_field fs _ (listed ms) un written),
          fields_pass S H sorted A files are file scope s in_file true false fs (union_fields S fs ft fv un) _ rest_free (listed ms) written,
        )
    body_fields b (Interface xs) bare ft fv un (interface oneway ms) e = (refl, interface_fields) where
      interface_fields : bad_fields (declarations files) false false (of_members sh (listed ms)) ≡ []
      interface_fields = fields_pass S H sorted A files are file scope s in_file false false [] tt _ (all_join is_no_field (map (λ m. method (method_tree S m)) xs) _ (all_mapped S is_no_field (λ m. method (method_tree S m)) xs (λ k x q. refl)) rest_free) (listed ms)
          (sym (members_bare (interface oneway ms)) ∙ ap members e ∙ members_written S d (Interface xs) last bare)
    body_fields b (Enum w xs) bare ft fv un (enum es) e = (refl, none_bad (enum es) (enumerators_free es) false)
    body_fields b (Enum w xs) bare ft fv un (parcelable ms) e = cc
    body_fields b (Enum w xs) bare ft fv un (union ms) e = cc
    body_fields b (Enum w xs) bare ft fv un (interface oneway ms) e = cc
    body_fields b (Interface xs) bare ft fv un (parcelable ms) e = cc
    body_fields b (Interface xs) bare ft fv un (union ms) e = cc
    body_fields b (Interface xs) bare ft fv un (enum ys) e = cc
    body_fields b (Parcelable fs) bare ft fv un (interface oneway ms) e = cc
    body_fields b (Parcelable fs) bare ft fv un (union ms) e = cc
    body_fields b (Parcelable fs) bare ft fv un (enum ys) e = cc
    body_fields b (Union fs) bare ft fv un (interface oneway ms) e = cc
    body_fields b (Union fs) bare ft fv un (parcelable ms) e = cc
    body_fields b (Union fs) bare ft fv un (enum ys) e = cc

  broken_none : (fixed : Bool) (test : TypeUse → Bool) (place : TypeUse → ℕ) (us : List TypeUse) → Each (λ u. IsFineUse (declarations files) fixed u) us → ((u : TypeUse) → IsFineUse (declarations files) fixed u → test u ≡ false)
      → broken_where test place us ≡ []
  broken_none fixed test place us each h = ap (map place) (filter_each (λ u. IsFineUse (declarations files) fixed u) test h us each)

  -- the rules, in the entry of a declaration
  entry_unbroken : (w j : ℕ) (e : Entry) → IsEntry S files (walks S) w e → IsUnbroken (declarations files) e (type_uses files j e)
  entry_unbroken w j e h =
      let d = h.declared in let v = H w d h.at in let last = nested_trees S h.levels w in
      let written : bare_body (body e.tree) ≡ body_tree S d.kind (constants_before S d last) = body_bare e.tree ∙ ap body h.written in
      let bare : may_enclose d.kind ≡ false → (d.constants ≡ []) × (last ≡ none) = λ c. (enums w d h.at (holds_none d.kind c), no_nested S H sorted A files h.levels w (none_inside S H sorted A files w d h.at c)) in
      let inner = all_nested S is_nested (λ t. refl) h.levels w in let free = all_nested S is_no_field (λ t. refl) h.levels w in
      let us = type_uses files j e in let t = body e.tree in
      let sized : d.fixed ≡ true → list_all (λ f. has_fixed_size S f.ty) (fields_of d.kind) ≡ true = λ on. (fixed_kind S d v.fixed on).1 in
      let each = uses_fine S H sorted A files are e.file j h.source h.placed d.fixed w d v sized last bare inner t written in
      let by_kind = stands_by S d.kind (constants_before S d last) t written in
      let annots : map bare_annot (annots_of e.tree) ≡ flags d.kind d.fixed d.vintf = annots_bare e.tree ∙ ap annots_of h.written in
      let fields = body_fields e.file j h.source h.placed d last free (declared_name e.tree).offset d.kind bare v.field_types v.initializers v.union t written in
      record {
        annotations = ap (λ xs. xs ++ flat_map (λ u. bad_annotations (stand_of u) (annotations_of u)) us) (ap (λ q. bad_annotations q (annots_of e.tree)) by_kind.0 ∙ ap (map (λ a. a.offset)) (flags_fine d.kind d.fixed d.vintf (λ on. (fixed_kind S d v.fixed on).0) (annots_of e.tree) annots))
            ∙ flat_each (λ u. IsFineUse (declarations files) d.fixed u) (λ u. bad_annotations (stand_of u) (annotations_of u)) (λ u f. f.annotations) us each;
        nullables = flat_each (λ u. IsFineUse (declarations files) d.fixed u) (bad_nullables_of (declarations files)) (λ u f. f.nullables) us each;
        backing = backing_fine d.kind d.fixed d.vintf (annots_of e.tree) annots (is_enum_body t) by_kind.2;
        shapes = broken_none d.fixed is_bad_shape type_place us each (λ u f. f.shaped);
        directions = broken_none d.fixed (is_bad_direction (declarations files)) name_place us each (λ u f. f.direction);
        oneways = ap (λ b. broken_where (is_bad_oneway b) name_place us) by_kind.1 ∙ broken_none d.fixed (is_bad_oneway false) name_place us each (λ u f. f.oneway);
        ids = ap bad_ids (among_uses (shape_in files e.file j) (members t)) ∙ ids_fine S (among (members t)) (methods_of d.kind) (methods_written S d last bare inner t written) v.ids v.small_ids;
        constants = broken_none d.fixed is_bad_constant name_place us each (λ u f. f.constant);
        fields = ap (λ xs. xs ++ bad_fields (declarations files) (is_union_body t) false us) fields.0 ∙ fields.1;
        fixed = by (is_fixed_entry e) (λ on. sym (fixed_entry S H sorted A files are w e h) ∙ on) us each;
      } where
        by : (b : Bool) → (b ≡ true → h.declared.fixed ≡ true) → (us : List TypeUse) → Each (λ u. IsFineUse (declarations files) h.declared.fixed u) us
            → (if b then broken_where (is_unfixed (declarations files)) name_place us else []) ≡ []
        by false on us each = refl
        by true on us each = broken_none h.declared.fixed (is_unfixed (declarations files)) name_place us each (λ u f. f.unfixed (on refl))

  pub all_unbroken : AreUnbroken files
  all_unbroken n e at = let r = are.each n e at in entry_unbroken r.0 n e r.2

  -- so no breach is listed
  pub none_found : unsorted files ≡ []
  unfolding unsorted broken_in
  none_found = each_none (broken_in files) 0 (declarations files) (λ k e at.
      let is : 0 + k ≡ k = omega arith in
      subst (λ (n : ℕ). broken_in files n e ≡ []) (sym is) (none_by (declarations files) e (type_uses files k e) (all_unbroken k e at)))

  pub none_listed : breaches files ≡ []
  none_listed = ap in_order none_found
