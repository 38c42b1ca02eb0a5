-- The values in each declaration of the trees that a dump stands for are those of its declaration in the schema.
use Rattle.std.proofs.Common.{encode_utf8_all, ◌≡◌, ℕ, true, false, List, [], ◌∷◌, map, None, Some, slice_get, refl, sym, ap, ◌∙◌, subst}
use Rattle.std.specs.List.{list_all}
use Rattle.std.specs.Ordering.{nat_cmp}
use Rattle.std.specs.Cmp.Lexicographic.{slice_cmp}
use Rattle.std.specs.List.Sorted.{IsStrictlySortedBy}
use Rattle.std.proofs.lemmas.Bool.{and_parts}
use Rattle.aidl_base.specs.Identifiers.{is_identifier}
use Rattle.aidl_syntax.specs.Trees as tree
use Rattle.aidl_syntax.specs.Trees.Members.{none}
use Rattle.aidl_syntax.specs.Trees.Body.{enum, parcelable, union, interface}
use Rattle.aidl_syntax.specs.Members.{members, body}
use Rattle.aidl_syntax.specs.Sources.{Source}
use Rattle.declared_names.specs.Declarations.{Entry, declarations}
use Rattle.const_values.specs.declared.wanted.Wanted.{Wanted}
use Rattle.type_shapes.specs.Backing.{backing_of}
use Rattle.const_items.specs.Items.{of_entry, of_body}
use Rattle.tree_schema.specs.Checked.{AreOutcomes}
use Rattle.tree_schema.specs.Parts.{listed_constants, constants_in, enumerator_in, bytes_of, put}
use Rattle.tree_schema.specs.SchemaOf.{kind_of}
use Rattle.tree_schema.specs.Values.{Outcomes, enumerator_value}
use Rattle.tree_schema.proofs.lemmas.walked.Placed.{Each, placed-by}
use Rattle.tree_schema.proofs.lemmas.settled.Places.{HasPlacesOnce, items-stand}
use Rattle.tree_schema.proofs.lemmas.settled.Settled.{Stands}
use Rattle.aidl_schema.specs.declared.schema.Decl.{Decl}
use Rattle.aidl_schema.specs.declared.schema.Constant.{Constant}
use Rattle.aidl_schema.specs.declared.schema.Enumerator.{Enumerator}
use Rattle.aidl_schema.specs.declared.schema.Backing.{Backing}
use Rattle.aidl_schema.specs.declared.schema.Kind.{Kind}
use Rattle.aidl_schema.specs.declared.schema.Kind.TheVariants.{Interface, Parcelable, Union, Enum}
use Rattle.aidl_schema.specs.Containment.{fields_of}
use Rattle.aidl_schema.specs.Holds.{AllHold, AreApart}
use Rattle.aidl_schema.specs.Names.{name_of, may_enclose, enumerators_of, are_ascending, constant_names}
use Rattle.aidl_schema.specs.Valid.{is_enum}
use Rattle.dump_reading.specs.Bare.{bare_body}
use Rattle.dump_reading.specs.DumpTrees.{body_tree, constants_before, nested_trees}
use Rattle.dump_reading.specs.Declared.{IsDeclaration}
use Rattle.dump_reading.specs.Valued.{HasValues, kind_at}
use Rattle.dump_reading.proofs.filed.Numbers.{walks}
use Rattle.dump_reading.proofs.named.Entries.{IsEntry, AreEntries, none_inside, no_nested}
use Rattle.dump_reading.proofs.named.Members.{map_twice, all_nested}
use Rattle.dump_reading.proofs.named.Resolved.{text_is}
use Rattle.dump_reading.proofs.named.Declared.{declaration}
use Rattle.dump_reading.proofs.settled.Shapes.{body_bare}
use Rattle.dump_reading.proofs.settled.Items.{AreEnumerated, enum_items}
use Rattle.dump_reading.proofs.settled.Members.{enum_or, holds_none}
use Rattle.dump_reading.proofs.valued.Values.{constant_value_is, initial_is, enumerators_value}
use Rattle.dump_reading.proofs.filed.InPlace.{stays}
use Rattle.dump_reading.proofs.valued.WalkMembers.{is_no_field, is_no_constant, OfFields, OfConstants}
use Rattle.dump_reading.proofs.drafted.Bodies.{fields_of_body, constants_of_body}

-- names are the bytes that they are written with
names_are : (cs : List Constant) → list_all is_identifier (map (λ c. c.name.0) cs) ≡ true → map bytes_of cs ≡ map (λ c. c.name.0) cs
names_are [] h = refl
names_are (c ∷ cs) h =
    let two = and_parts (is_identifier c.name.0) (list_all is_identifier (map (λ c. c.name.0) cs)) h in
    ap (λ t. t ∷ map bytes_of cs) (text_is c.name two.0) ∙ ap (λ ts. c.name.0 ∷ ts) (names_are cs two.1)

no_enumerator : (k : Kind) → is_enum k ≡ false → enumerators_of k ≡ []
no_enumerator (Interface xs) h = refl
no_enumerator (Parcelable xs) h = refl
no_enumerator (Union xs) h = refl
no_enumerator (Enum b xs) h = cc

module _ (S : List Decl) (H : AllHold S) (sorted : IsStrictlySortedBy (slice_cmp nat_cmp) (map name_of S)) (A : AreApart name_of S) (enums : (n : ℕ) (d : Decl) → slice_get S n ≡ Some d → is_enum d.kind ≡ true → d.constants ≡ [])
    (files : List Source) (are : AreEntries S files (walks S) (declarations files)) (once : Each HasPlacesOnce files) (outcomes : Outcomes) (each : AreOutcomes files outcomes) where
  module _ (w j : ℕ) (e : Entry) (at : slice_get (declarations files) j ≡ Some e) (h : IsEntry S files (walks S) w e) where
    abbrev pub last : tree.Members
    last = nested_trees S h.levels w

    pub written : bare_body (body e.tree) ≡ body_tree S h.declared.kind (constants_before S h.declared last)
    written = body_bare e.tree ∙ ap body h.written

    pub holds_no : may_enclose h.declared.kind ≡ false → (h.declared.constants ≡ []) × (last ≡ none)
    holds_no c = (enums w h.declared h.at (holds_none S H sorted A files are once h.declared.kind c), no_nested S H sorted A files h.levels w (none_inside S H sorted A files w h.declared h.at c))

    pub stands : Each (Stands files) (of_entry files j e)
    stands = items-stand files once j e at

    pub fields_here : {X : Type 0} (g : _ → X) → OfFields S files outcomes e.file j (Stands files) g → map g (fields_of (kind_at files outcomes j e)) ≡ map g (fields_of h.declared.kind)
    fields_here g one =
        let v = H w h.declared h.at in
        fields_of_body S files outcomes e.file j (Stands files) h.declared last (all_nested S is_no_field (λ t. refl) h.levels w) (all_nested S is_no_constant (λ t. refl) h.levels w) (backing_of e.tree) g one h.declared.kind holds_no
        v.field_types v.initializers v.union (body e.tree) written stands

    listed_here : {X : Type 0} (g : Constant → X) → OfConstants S files outcomes e.file j (Stands files) g → map g (listed_constants files outcomes e.file j (members (body e.tree))) ≡ map g h.declared.constants
    listed_here g one =
        let v = H w h.declared h.at in
        constants_of_body S files outcomes e.file j (Stands files) h.declared last (all_nested S is_no_field (λ t. refl) h.levels w) (all_nested S is_no_constant (λ t. refl) h.levels w) (backing_of e.tree) g one h.declared.kind holds_no
        v.values (body e.tree) written stands

    -- they stand in the order of their names
    ordered : constants_in files outcomes e.file j (members (body e.tree)) ≡ listed_constants files outcomes e.file j (members (body e.tree))
    ordered =
        let cs = listed_constants files outcomes e.file j (members (body e.tree)) in let v = H w h.declared h.at in
        let names : map bytes_of cs ≡ constant_names h.declared = listed_here bytes_of (λ c hv x bare st. ap (λ y. encode_utf8_all y.name.name.0) bare) ∙ names_are h.declared.constants v.constant_identifiers in
        placed-by bytes_of put (λ x. refl) (λ y more x. refl) [] cs ∙ stays bytes_of cs (ap are_ascending names ∙ v.sorted)

    pub constants_here : {X : Type 0} (g : Constant → X) → OfConstants S files outcomes e.file j (Stands files) g → map g (constants_in files outcomes e.file j (members (body e.tree))) ≡ map g h.declared.constants
    constants_here g one = ap (map g) ordered ∙ listed_here g one

    -- the values of enumerators
    enum_values : (b : Backing) (xs : List Enumerator) (k : Kind) → k ≡ Enum b xs → (u : Wanted) (t : tree.Body) → bare_body t ≡ body_tree S k (constants_before S h.declared last) → AreEnumerated b xs (of_body files e.file j u t)
        → Each (Stands files) (of_body files e.file j u t) → map (λ x. x.value) (enumerators_of (kind_of files outcomes e.file j u t)) ≡ map (λ x. x.value) xs
    enum_values b xs k is u (enum ys) bare g st =
        map_twice (λ x. x.value) (enumerator_in files outcomes e.file) (λ y. enumerator_value files outcomes e.file y) (λ y. refl) ys ∙ enumerators_value files outcomes each e.file j u None b xs ys g st
    enum_values b xs k is u (parcelable ms) bare g st = let turned : bare_body (parcelable ms) ≡ body_tree S (Enum b xs) (constants_before S h.declared last) = bare ∙ ap (λ q. body_tree S q (constants_before S h.declared last)) is in cc
    enum_values b xs k is u (union ms) bare g st = let turned : bare_body (union ms) ≡ body_tree S (Enum b xs) (constants_before S h.declared last) = bare ∙ ap (λ q. body_tree S q (constants_before S h.declared last)) is in cc
    enum_values b xs k is u (interface oneway ms) bare g st = let turned : bare_body (interface oneway ms) ≡ body_tree S (Enum b xs) (constants_before S h.declared last) = bare ∙ ap (λ q. body_tree S q (constants_before S h.declared last)) is in cc

    no_values : (k : Kind) → is_enum k ≡ false → (u : Wanted) (t : tree.Body) → bare_body t ≡ body_tree S k (constants_before S h.declared last) → enumerators_of (kind_of files outcomes e.file j u t) ≡ enumerators_of k
    no_values k other u (parcelable ms) bare = sym (no_enumerator k other)
    no_values k other u (union ms) bare = sym (no_enumerator k other)
    no_values k other u (interface oneway ms) bare = sym (no_enumerator k other)
    no_values (Interface xs) other u (enum ys) bare = cc
    no_values (Parcelable xs) other u (enum ys) bare = cc
    no_values (Union xs) other u (enum ys) bare = cc
    no_values (Enum b xs) other u (enum ys) bare = cc

    pub enumerators_here : map (λ x. x.value) (enumerators_of (kind_at files outcomes j e)) ≡ map (λ x. x.value) (enumerators_of h.declared.kind)
    enumerators_here =
        enum_or S H sorted A files are once h.declared.kind (map (λ x. x.value) (enumerators_of (kind_at files outcomes j e)) ≡ map (λ x. x.value) (enumerators_of h.declared.kind))
        (λ b xs is. enum_values b xs h.declared.kind is (backing_of e.tree) (body e.tree) written (enum_items S H sorted A files are once w j e h b xs is) stands ∙ sym (ap (λ k. map (λ x. x.value) (enumerators_of k)) is))
        (λ other. ap (map (λ x. x.value)) (no_values h.declared.kind other (backing_of e.tree) (body e.tree) written))

    values_here : HasValues files outcomes j e h.declared
    values_here = record {
      constants = constants_here (λ c. c.value) (λ c hv x bare st. constant_value_is files outcomes each S H sorted A are once e.file j h.source h.placed c hv x bare st);
      initials = fields_here (λ f. f.initial) (λ later f t v n x bare st. initial_is files outcomes each S H sorted A are once e.file j h.source h.placed later f t v n x bare st);
      enumerators = enumerators_here;
    }

  pub has_values : (j : ℕ) (e : Entry) → slice_get (declarations files) j ≡ Some e → (n : ℕ) × (is : IsDeclaration S files n e) × HasValues files outcomes j e is.declared
  has_values j e at =
      let r = are.each j e at in let is = declaration S H sorted A files are r.0 e r.2 in
      let option : Some r.2.declared ≡ Some is.declared = sym r.2.at ∙ is.at in
      let same : r.2.declared ≡ is.declared = cc in
      (r.0, is, subst (λ d. HasValues files outcomes j e d) same (values_here r.0 j e at r.2))
