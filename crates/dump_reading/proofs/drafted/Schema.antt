-- The schema of the trees that a dump stands for is the one that was dumped.
use Rattle.std.proofs.Common.{◌≡◌, ℕ, zero, suc, ◌+◌, ◌≤◌, ◌<◌, true, false, not, ◌&&◌, ◌||◌, List, [], ◌∷◌, map, length, Option, Some, None, slice_get, IsTrue, refl, sym, ap, ◌∙◌, subst, arith}
use Rattle.std.specs.Cmp.Lexicographic.{slice_cmp}
use Rattle.std.specs.List.Sorted.{IsStrictlySortedBy}
use Rattle.std.specs.Ordering.{nat_cmp}
use Rattle.std.proofs.lemmas.Bool.{and_parts}
use Rattle.std.proofs.lemmas.List.{length-map}
use Rattle.aidl_base.proofs.lemmas.Tests.{all_numbered}
use Rattle.aidl_syntax.specs.Trees as tree
use Rattle.aidl_syntax.specs.Trees.Members.{none}
use Rattle.aidl_syntax.specs.Trees.Body.{enum, parcelable, union, interface}
use Rattle.aidl_syntax.specs.Members.{listed, members, body}
use Rattle.aidl_syntax.specs.Sources.{Source}
use Rattle.declared_names.specs.Declarations.{Entry, declarations}
use Rattle.type_shapes.specs.Backing.{annots_of, backing_of}
use Rattle.type_uses.specs.Kept.{is_fixed, is_vintf}
use Rattle.tree_schema.specs.Checked.{AreOutcomes}
use Rattle.tree_schema.specs.Numbers.{Numbered, bytes_of, number_of}
use Rattle.tree_schema.specs.Numbers as numbers
use Rattle.tree_schema.specs.Parts.{constants_in, enumerator_in}
use Rattle.tree_schema.specs.SchemaOf.{schema_of, declared, backing_in, kind_of, outer_of}
use Rattle.tree_schema.specs.Types.{type_of}
use Rattle.tree_schema.specs.Values.{Outcomes, constant_value, enumerator_value, initial_of}
use Rattle.tree_schema.proofs.lemmas.named.Numbers.{key}
use Rattle.tree_schema.proofs.lemmas.walked.Placed.{Each}
use Rattle.tree_schema.proofs.lemmas.settled.Places.{HasPlacesOnce}
use Rattle.aidl_schema.specs.declared.schema.Decl.{Decl}
use Rattle.aidl_schema.specs.declared.schema.Field.{Field}
use Rattle.aidl_schema.specs.declared.schema.Constant.{Constant}
use Rattle.aidl_schema.specs.declared.schema.Enumerator.{Enumerator}
use Rattle.aidl_schema.specs.declared.schema.Backing.{Backing}
use Rattle.aidl_schema.specs.declared.schema.Backing.TheVariants as backing
use Rattle.aidl_schema.specs.declared.schema.Base.{Base}
use Rattle.aidl_schema.specs.declared.schema.Base.TheVariants as base
use Rattle.aidl_schema.specs.declared.schema.Kind.{Kind}
use Rattle.aidl_schema.specs.declared.schema.Kind.TheVariants.{Interface, Parcelable, Union, Enum}
use Rattle.aidl_schema.specs.declared.schema.Shape.TheVariants as shape
use Rattle.aidl_schema.specs.Constants.{is_string, is_constant_of}
use Rattle.aidl_schema.specs.Containment.{fields_of, is_composite}
use Rattle.aidl_schema.specs.Holds.{AllHold, AreApart}
use Rattle.aidl_schema.specs.Methods.{is_field_type, is_whole_type, may_be_on_heap, has_method_types, last_id}
use Rattle.aidl_schema.specs.Names.{name_of, has_names, enumerators_of, methods_of}
use Rattle.aidl_schema.specs.Same.{is_named}
use Rattle.aidl_schema.specs.Types.{is_type, is_one, form_of}
use Rattle.aidl_schema.specs.Valid.{is_enum, has_bounds, may_be_fixed, is_bounded}
use Rattle.dump_reading.specs.Bare.{bare_annot, bare_body, bare_field, bare_enumerator, bare_method}
use Rattle.dump_reading.specs.DumpTrees.{body_tree, constants_before, field_tree, enumerator_tree, method_tree}
use Rattle.dump_reading.specs.Valued.{kind_at}
use Rattle.dump_reading.proofs.spelled.Fits.{each_passes}
use Rattle.dump_reading.proofs.filed.Numbers.{walks, outer_is}
use Rattle.dump_reading.proofs.named.Entries.{IsEntry, AreEntries, IsOuterOf}
use Rattle.dump_reading.proofs.named.Members.{all_nested}
use Rattle.dump_reading.proofs.settled.Literals.{wanted_backing}
use Rattle.dump_reading.proofs.settled.Items.{annots_bare, enum_entry, some_is}
use Rattle.dump_reading.proofs.settled.Members.{is_nested}
use Rattle.dump_reading.proofs.settled.Given.{there}
use Rattle.dump_reading.proofs.ruled.Marks.{flags, fixed_kept, vintf_kept}
use Rattle.dump_reading.proofs.valued.Values.{constant_value_is, initial_is}
use Rattle.dump_reading.proofs.valued.Entries.{written, last, holds_no, fields_here, constants_here, enumerators_here}
use Rattle.dump_reading.proofs.ruled.Ids.{among, methods_written}
use Rattle.dump_reading.proofs.drafted.Order.{keys_are, placed_entry, number_back}
use Rattle.dump_reading.proofs.drafted.Types.{type_back, one_back, methods_back}

map_itself : {X : Type 0} (xs : List X) → map (λ x. x) xs ≡ xs
map_itself [] = refl
map_itself (x ∷ xs) = ap (λ ys. x ∷ ys) (map_itself xs)

same_places : {X Y : Type 0} (f : X → Y) (xs : List X) (ys : List Y) → length xs ≡ length ys → ((n : ℕ) (x : X) (y : Y) → slice_get xs n ≡ Some x → slice_get ys n ≡ Some y → f x ≡ y) → map f xs ≡ ys
same_places f [] [] l h = refl
same_places f [] (y ∷ ys) l h = cc
same_places f (x ∷ xs) [] l h = cc
same_places f (x ∷ xs) (y ∷ ys) l h =
    let rest : length xs ≡ length ys = omega arith in
    ap (λ z. z ∷ map f xs) (h zero x y refl refl) ∙ ap (λ zs. y ∷ zs) (same_places f xs ys rest (λ n z w a b. h (suc n) z w a b))

backing_back : (b : Backing) → backing_in (wanted_backing b) ≡ b
backing_back backing.Byte = refl
backing_back backing.Int = refl
backing_back backing.Long = refl

-- enumerators by their names and values
enumerators_back : (files : List Source) (outcomes : Outcomes) (file : ℕ) (b : Backing) (xs : List Enumerator) (ys : List tree.Enumerator) → map bare_enumerator ys ≡ map (λ x. enumerator_tree b x) xs
    → map (λ x. x.value) (map (enumerator_in files outcomes file) ys) ≡ map (λ x. x.value) xs → map (enumerator_in files outcomes file) ys ≡ xs
enumerators_back files outcomes file b [] [] e v = refl
enumerators_back files outcomes file b (x ∷ xs) [] e v = cc
enumerators_back files outcomes file b [] (y ∷ ys) e v = cc
enumerators_back files outcomes file b (x ∷ xs) (y ∷ ys) e v =
    let here : bare_enumerator y ≡ enumerator_tree b x = cc in let rest : map bare_enumerator ys ≡ map (λ x. enumerator_tree b x) xs = cc in
    let value : enumerator_value files outcomes file y ≡ x.value = cc in
    let values : map (λ x. x.value) (map (enumerator_in files outcomes file) ys) ≡ map (λ x. x.value) xs = cc in
    ap (λ n. let z : Enumerator = record { name = n; value = enumerator_value files outcomes file y } in z ∷ map (enumerator_in files outcomes file) ys) (ap (λ w. w.name.name) here)
    ∙ ap (λ n. let z : Enumerator = record { name = x.name; value = n } in z ∷ map (enumerator_in files outcomes file) ys) value
    ∙ ap (λ zs. x ∷ zs) (enumerators_back files outcomes file b xs ys rest values)

module _ (S : List Decl) (H : AllHold S) (sorted : IsStrictlySortedBy (slice_cmp nat_cmp) (map name_of S)) (A : AreApart name_of S) (enums : (n : ℕ) (d : Decl) → slice_get S n ≡ Some d → is_enum d.kind ≡ true → d.constants ≡ [])
    (named : has_names S ≡ true) (files : List Source) (are : AreEntries S files (walks S) (declarations files)) (once : Each HasPlacesOnce files) (outcomes : Outcomes) (each : AreOutcomes files outcomes) where
  -- a field's type, which may be on the heap where it is nullable
  field_type : (file scope : ℕ) (s : Source) → slice_get files file ≡ Some s → (f : Field) → is_field_type S f ≡ true → (x : tree.Field) → bare_field x ≡ field_tree S f → type_of files file scope x.annots x.ty ≡ f.ty
  field_type file scope s in_file f h x e =
      let two = and_parts (is_whole_type S f.ty) (not f.ty.heap || may_be_on_heap S f.ty) h in
      type_back S H sorted A named files are file scope s in_file f.ty (and_parts (is_type S f.ty) (not f.ty.utf8 || is_string f.ty.base) two.0).0
      (λ on. (and_parts f.ty.nullable (is_one f.ty.shape && is_composite (form_of S f.ty.base)) (ap (λ b. not b || may_be_on_heap S f.ty) (sym on) ∙ two.1)).0)
      x.ty (ap (λ y. y.ty) e) x.annots (ap (λ y. y.annots) e)

  plain_type : (b : Base) → not (is_named b) ≡ true → is_type S (record { base = b; shape = shape.One; nullable = false; heap = false; utf8 = false }) ≡ true
  plain_type base.Boolean n = refl
  plain_type base.Byte n = refl
  plain_type base.Char n = refl
  plain_type base.Int n = refl
  plain_type base.Long n = refl
  plain_type base.Text n = refl
  plain_type (base.Named k) n = cc

  module _ (w j : ℕ) (e : Entry) (at : slice_get (declarations files) j ≡ Some e) (h : IsEntry S files (walks S) w e) where
    fields_back : fields_of (kind_at files outcomes j e) ≡ fields_of h.declared.kind
    fields_back =
        sym (map_itself (fields_of (kind_at files outcomes j e))) ∙ fields_here S H sorted A enums files are once outcomes each w j e at h (λ f. f) (λ later f t v n x bare st.
        ap (λ i. let z : Field = record { name = i; ty = type_of files e.file j x.annots x.ty; initial = initial_of files outcomes e.file j later x.ty x.initial } in z) (ap (λ y. y.name.name) bare)
        ∙ ap (λ ty. let z : Field = record { name = f.name; ty = ty; initial = initial_of files outcomes e.file j later x.ty x.initial } in z) (field_type e.file j h.source h.placed f t x bare)
        ∙ ap (λ o. let z : Field = record { name = f.name; ty = f.ty; initial = o } in z) (initial_is files outcomes each S H sorted A are once e.file j h.source h.placed later f t v n x bare st))
        ∙ map_itself (fields_of h.declared.kind)

    constants_back : constants_in files outcomes e.file j (members (body e.tree)) ≡ h.declared.constants
    constants_back =
        sym (map_itself (constants_in files outcomes e.file j (members (body e.tree)))) ∙ constants_here S H sorted A enums files are once outcomes each w j e at h (λ c. c) (λ c v x bare st.
        let plain = (and_parts (not (is_named c.ty)) (is_constant_of S c.ty c.value) v).0 in
        ap (λ i. let z : Constant = record { name = i; ty = (type_of files e.file j x.annots x.ty).base; value = constant_value files outcomes e.file x.value } in z) (ap (λ y. y.name.name) bare)
        ∙ ap (λ b. let z : Constant = record { name = c.name; ty = b; value = constant_value files outcomes e.file x.value } in z)
        (one_back S H sorted A named files are e.file j h.source h.placed c.ty (plain_type c.ty plain) x.ty (ap (λ y. y.ty) bare) x.annots)
        ∙ ap (λ q. let z : Constant = record { name = c.name; ty = c.ty; value = q } in z) (constant_value_is files outcomes each S H sorted A are once e.file j h.source h.placed c v x bare st))
        ∙ map_itself h.declared.constants

    -- what it declares
    kind_back : kind_at files outcomes j e ≡ h.declared.kind
    kind_back =
        by h.declared.kind (body e.tree) (written S H sorted A enums files are once outcomes each w j e at h) fields_back
        (λ b xs is. let r = enum_entry S H sorted A files are once w e h b xs is in (r.0, r.1, r.2, r.3))
        (enumerators_here S H sorted A enums files are once outcomes each w j e at h)
        (methods_written S h.declared l (holds_no S H sorted A enums files are once outcomes each w j e at h) (all_nested S is_nested (λ t. refl) h.levels w) (body e.tree) (written S H sorted A enums files are once outcomes each w j e at h))
        (λ k m there. let v = H w h.declared h.at in (each_passes (λ m. has_method_types S m) (methods_of h.declared.kind) v.method_types k m there, v.small_ids k m there)) where
          l : tree.Members
          l = last S H sorted A enums files are once outcomes each w j e at h

          by : (k : Kind) (t : tree.Body) → bare_body t ≡ body_tree S k (constants_before S h.declared l) → fields_of (kind_of files outcomes e.file j (backing_of e.tree) t) ≡ fields_of k
              → ((b : Backing) (xs : List Enumerator) → k ≡ Enum b xs → (ys : List tree.Enumerator) × (t ≡ enum ys) × (map bare_enumerator ys ≡ map (λ x. enumerator_tree b x) xs) × (backing_of e.tree ≡ wanted_backing b))
              → map (λ x. x.value) (enumerators_of (kind_of files outcomes e.file j (backing_of e.tree) t)) ≡ map (λ x. x.value) (enumerators_of k)
              → map bare_method (among (members t)) ≡ map (λ m. method_tree S m) (methods_of k)
              → ((i : ℕ) (m : _) → slice_get (methods_of k) i ≡ Some m → (has_method_types S m ≡ true) × (m.id ≤ last_id)) → kind_of files outcomes e.file j (backing_of e.tree) t ≡ k
          by (Parcelable fs) (parcelable ms) bare f g v m q = ap Parcelable f
          by (Union fs) (union ms) bare f g v m q = ap Union f
          by (Interface xs) (interface oneway ms) bare f g v m q =
              let free : oneway ≡ false = cc in
              ap (λ b. kind_of files outcomes e.file j (backing_of e.tree) (interface b ms)) free ∙ ap Interface (methods_back S H sorted A named files are e.file j h.source h.placed xs q (listed ms) m)
          by (Enum b xs) (enum ys) bare f g v m q =
              let r = g b xs refl in
              let these : map bare_enumerator ys ≡ map (λ x. enumerator_tree b x) xs = cc in
              ap (λ z. Enum z (map (enumerator_in files outcomes e.file) ys)) (ap backing_in r.3 ∙ backing_back b) ∙ ap (Enum b) (enumerators_back files outcomes e.file b xs ys these v)
          by (Enum b xs) (parcelable ms) bare f g v m q = cc
          by (Enum b xs) (union ms) bare f g v m q = cc
          by (Enum b xs) (interface oneway ms) bare f g v m q = cc
          by (Interface xs) (parcelable ms) bare f g v m q = cc
          by (Interface xs) (union ms) bare f g v m q = cc
          by (Interface xs) (enum ys) bare f g v m q = cc
          by (Parcelable fs) (interface oneway ms) bare f g v m q = cc
          by (Parcelable fs) (union ms) bare f g v m q = cc
          by (Parcelable fs) (enum ys) bare f g v m q = cc
          by (Union fs) (interface oneway ms) bare f g v m q = cc
          by (Union fs) (parcelable ms) bare f g v m q = cc
          by (Union fs) (enum ys) bare f g v m q = cc

    outer_back : (o p : Option ℕ) → h.declared.outer ≡ p → IsOuterOf (walks S) o p → outer_of (declarations files) o ≡ p
    outer_back None None is q = refl
    outer_back None (Some m) is q = absurd q
    outer_back (Some i) None is q = absurd q
    outer_back (Some i) (Some m) is q = let r = outer_is S H sorted w m h.declared h.at is in number_back S H sorted A named files are i m r.0 r.1 q

    declared_back : declared files outcomes (j, e) ≡ h.declared
    declared_back =
        let d = h.declared in
        let annots : map bare_annot (annots_of e.tree) ≡ flags d.kind d.fixed d.vintf = annots_bare e.tree ∙ ap annots_of h.written in
        ap (λ n. let z : Decl = record { name = record { 0 = n }; outer = outer_of (declarations files) e.outer; kind = kind_at files outcomes j e; vintf = is_vintf (annots_of e.tree); fixed = is_fixed (annots_of e.tree); constants = constants_in files outcomes e.file j (members (body e.tree)) } in z) h.named
        ∙ ap (λ o. let z : Decl = record { name = d.name; outer = o; kind = kind_at files outcomes j e; vintf = is_vintf (annots_of e.tree); fixed = is_fixed (annots_of e.tree); constants = constants_in files outcomes e.file j (members (body e.tree)) } in z) (outer_back e.outer d.outer refl h.outer)
        ∙ ap (λ k. let z : Decl = record { name = d.name; outer = d.outer; kind = k; vintf = is_vintf (annots_of e.tree); fixed = is_fixed (annots_of e.tree); constants = constants_in files outcomes e.file j (members (body e.tree)) } in z) kind_back
        ∙ ap (λ b. let z : Decl = record { name = d.name; outer = d.outer; kind = d.kind; vintf = b; fixed = is_fixed (annots_of e.tree); constants = constants_in files outcomes e.file j (members (body e.tree)) } in z) (vintf_kept (annots_of e.tree) d.kind d.fixed d.vintf annots)
        ∙ ap (λ b. let z : Decl = record { name = d.name; outer = d.outer; kind = d.kind; vintf = d.vintf; fixed = b; constants = constants_in files outcomes e.file j (members (body e.tree)) } in z) (fixed_kept (annots_of e.tree) d.kind d.fixed d.vintf annots)
        ∙ ap (λ cs. let z : Decl = record { name = d.name; outer = d.outer; kind = d.kind; vintf = d.vintf; fixed = d.fixed; constants = cs } in z) constants_back

  -- SchemaOf of what stands for the dump is the schema
  pub schema_back : schema_of files outcomes ≡ S
  schema_back =
      let es = numbers.sorted (declarations files) in
      let lengths : length es ≡ length S = sym (length-map es key) ∙ ap length (keys_are S H sorted A named files are) ∙ length-map S name_of in
      same_places (declared files outcomes) es S lengths (λ n x d there at.
      let p = placed_entry S H sorted A named files are n d at x there in
      declared_back n x.0 x.1 p.0 p.2 ∙ some_is p.2.declared d (sym p.2.at ∙ at))

  -- no declaration of it breaks E22 or E23
  pub bounds_back : has_bounds S ≡ true → (n : ℕ) → n < length (schema_of files outcomes) → IsTrue (is_bounded (schema_of files outcomes) n)
  unfolding has_bounds
  bounds_back bounds n lt =
      let within : n < length S = subst (λ xs. n < length xs) schema_back lt in
      let d = there S n within in
      let both = all_numbered (λ n d. may_be_fixed S d && is_bounded S n) 0 S n d.0 bounds d.1 in
      let on : 0 + n ≡ n = omega arith in
      subst (λ (xs : List Decl). is_bounded xs n ≡ true) (sym schema_back) (ap (is_bounded S) (sym on) ∙ (and_parts (may_be_fixed S d.0) (is_bounded S (0 + n)) both).1)
