-- Rule 8 of a valid schema: what `@FixedSize` stands on in a tree that breaks neither E13 nor E24; E22 and E23 are asked of the schema.
use Rattle.std.proofs.Common.{IsTrue, ◌≡◌, ◌<◌, ℕ, Bool, true, false, not, ◌&&◌, ◌||◌, if◌then◌else◌, codes, List, [], flat_map, length, Option, Some, None, slice_get, refl, sym, ap, ◌∙◌, subst}
use Rattle.std.specs.List.{list_all}
use Rattle.std.proofs.lemmas.Option.{slice_get_within}
use Rattle.aidl_base.proofs.lemmas.Tests.{both, neither}
use Rattle.aidl_schema.proofs.lemmas.Places.{both_empty}
use Rattle.aidl_schema.specs.declared.schema.Decl as schema
use Rattle.aidl_schema.specs.Containment.{fields_of}
use Rattle.aidl_schema.specs.Same.{decl_of}
use Rattle.aidl_schema.specs.Types.{form_of, is_scalar}
use Rattle.aidl_schema.specs.Valid.{has_bounds, has_fixed_size, may_be_fixed, is_bounded, is_parcelable_or_union}
use Rattle.aidl_schema.specs.Valid as valid
use Rattle.aidl_syntax.specs.Trees as tree
use Rattle.aidl_syntax.specs.Trees.{Body}
use Rattle.aidl_syntax.specs.Trees.Body.{parcelable, union, enum, interface}
use Rattle.aidl_syntax.specs.Members.{Member, members, body}
use Rattle.name_resolution.specs.declared.meaning.Resolved.{Resolved}
use Rattle.name_resolution.specs.declared.meaning.Resolved.TheVariants.{Builtin, ListWord, LeftOut, Declared}
use Rattle.aidl_names.specs.Breaches.{breaches}
use Rattle.declared_names.specs.Declarations.{Entry, declarations}
use Rattle.aidl_syntax.specs.Sources.{Source}
use Rattle.const_values.specs.declared.wanted.Wanted.{Wanted}
use Rattle.type_shapes.specs.declared.shape.Shape.{Shape}
use Rattle.type_shapes.specs.declared.shape.Shape.TheVariants as shape
use Rattle.type_shapes.specs.Backing.{annots_of, backing_of}
use Rattle.type_shapes.specs.Types.{shape_in}
use Rattle.type_shapes.specs.Types as types
use Rattle.type_uses.specs.declared.annotation.Annotation.TheVariants as row
use Rattle.type_uses.specs.Annotations.{may_stand, stand_of_body, row_of_name}
use Rattle.type_uses.specs.Bases as bases
use Rattle.type_uses.specs.Bases.{is_fixed_base, is_fixed_entry, is_fixed_number, is_refused}
use Rattle.type_uses.specs.Kept.{is_nullable}
use Rattle.type_uses.specs.TypeUses.{of_member, type_uses, annotations_of, stand_of, name_place}
use Rattle.type_rules.specs.AnnotationRules.{bad_annotations}
use Rattle.type_rules.specs.FieldRules.{is_unfixed}
use Rattle.type_rules.specs.FieldRules as rules
use Rattle.type_rules.specs.Filters.{broken_where}
use Rattle.type_rules.specs.MethodRules.{is_oneway_body}
use Rattle.type_rules.specs.Unbroken.{AreUnbroken}
use Rattle.tree_schema.specs.Numbers.{Numbered}
use Rattle.tree_schema.specs.SchemaOf.{schema_of, declared, kind_of}
use Rattle.tree_schema.specs.Types.{base_of, typed}
use Rattle.tree_schema.specs.Values.{Outcomes}
use Rattle.tree_schema.proofs.walked.Outers.{are_named}
use Rattle.tree_schema.proofs.lemmas.walked.Placed.{Each}
use Rattle.tree_schema.proofs.lemmas.named.Numbers.{sorted-there}
use Rattle.tree_schema.proofs.lemmas.named.Schema.{schema-there}
use Rattle.tree_schema.proofs.lemmas.named.Members.{numbered-from_at}
use Rattle.tree_schema.proofs.typed.Forms.{base-scalar, decl-there}
use Rattle.tree_schema.proofs.typed.Members.{fields-hold}
use Rattle.tree_schema.proofs.typed.Uses.{IsFineMember, each-both, each-flat, each-from_at, where-passes, stands-well, members-fine}

unfold_fixed : row_of_name (codes "FixedSize") ≡ Some row.FixedSize
unfolding row_of_name
unfold_fixed = refl

or_true : (b : Bool) → (b || true) ≡ true
or_true true = refl
or_true false = refl

fixed_kind : (files : List Source) (outcomes : Outcomes) (file number : ℕ) (w : Wanted) (b : Body) → may_stand row.FixedSize (stand_of_body b) ≡ true
    → is_parcelable_or_union (kind_of files outcomes file number w b) ≡ true
fixed_kind files outcomes file number w (parcelable ms) h = refl
fixed_kind files outcomes file number w (union ms) h = refl
fixed_kind files outcomes file number w (enum es) h = cc
fixed_kind files outcomes file number w (interface oneway ms) h = cc

module _ (files : List Source) (outcomes : Outcomes) (named : are_named files ≡ true) (unbroken : breaches files ≡ []) where
  number_fixed : (k : ℕ) → is_fixed_number (declarations files) k ≡ true → valid.is_fixed (decl_of (schema_of files outcomes) (base_of (declarations files) (Declared k))) ≡ true
  number_fixed k h = by (slice_get (declarations files) k) refl h where
    by : (o : Option Entry) → slice_get (declarations files) k ≡ o → elim o as (λ _. Bool) [ None ↦ false | Some e ↦ is_fixed_entry e ] ≡ true
        → valid.is_fixed (decl_of (schema_of files outcomes) (base_of (declarations files) (Declared k))) ≡ true
    by None at g = cc
    by (Some e) at g = ap valid.is_fixed (decl-there files outcomes named unbroken k e at) ∙ g

  scalar_fixed : (r : Resolved) → bases.is_scalar (declarations files) r ≡ true
      → (is_scalar (form_of (schema_of files outcomes) (base_of (declarations files) r)) || valid.is_fixed (decl_of (schema_of files outcomes) (base_of (declarations files) r))) ≡ true
  scalar_fixed r h = rw (base-scalar files outcomes named unbroken r h) refl

  base_fixed : (r : Resolved) → is_fixed_base (declarations files) r ≡ true
      → (is_scalar (form_of (schema_of files outcomes) (base_of (declarations files) r)) || valid.is_fixed (decl_of (schema_of files outcomes) (base_of (declarations files) r))) ≡ true
  base_fixed (Builtin b) h = scalar_fixed (Builtin b) h
  base_fixed ListWord h = cc
  base_fixed LeftOut h = cc
  base_fixed (Declared k) h = by (bases.is_scalar (declarations files) (Declared k)) refl h where
    by : (b : Bool) → bases.is_scalar (declarations files) (Declared k) ≡ b → (b || (types.is_composite (declarations files) (Declared k) && is_fixed_number (declarations files) k)) ≡ true
        → (is_scalar (form_of (schema_of files outcomes) (base_of (declarations files) (Declared k))) || valid.is_fixed (decl_of (schema_of files outcomes) (base_of (declarations files) (Declared k)))) ≡ true
    by true e g = scalar_fixed (Declared k) e
    by false e g =
        let fixed = number_fixed k (both (types.is_composite (declarations files) (Declared k)) (is_fixed_number (declarations files) k) g).1 in
        rw fixed (or_true (is_scalar (form_of (schema_of files outcomes) (base_of (declarations files) (Declared k)))))

  -- a member whose fields have a fixed size
  abbrev IsFixedMember : ℕ → ℕ → Bool → Member → Type 0
  IsFixedMember file scope oneway m = IsFineMember files file scope oneway m × Each (λ u. is_unfixed (declarations files) u ≡ false) (of_member (shape_in files file scope) m)

  type_fixed : (f : tree.Field) (t : Shape) → is_refused t ≡ false → (not (is_refused t) && (is_nullable f.annots || not (rules.has_fixed_size (declarations files) t))) ≡ false
      → has_fixed_size (schema_of files outcomes) (typed (declarations files) f.annots t) ≡ true
  type_fixed f (shape.One r) refused h =
      let two = neither (is_nullable f.annots) (not (is_fixed_base (declarations files) r)) h in
      let base : is_fixed_base (declarations files) r ≡ true = unflipped (is_fixed_base (declarations files) r) two.1 in
      rw (two.0, base_fixed r base) refl where
        unflipped : (b : Bool) → not b ≡ false → b ≡ true
        unflipped true e = refl
        unflipped false e = cc
  type_fixed f (shape.Array r) refused h = let two = neither (is_nullable f.annots) true h in cc
  type_fixed f (shape.List r) refused h = let two = neither (is_nullable f.annots) true h in cc
  type_fixed f shape.Refused refused h = cc

  module _ (fine : AreUnbroken files) where
    fixed_at : (x : Numbered) → slice_get (declarations files) x.0 ≡ Some x.1 → is_fixed_entry x.1 ≡ true
        → (is_parcelable_or_union (declared files outcomes x).kind && list_all (λ f. has_fixed_size (schema_of files outcomes) f.ty) (fields_of (declared files outcomes x).kind)) ≡ true
    fixed_at x at h =
        let all = fine x.0 x.1 at in
        let uses = type_uses files x.0 x.1 in
        let own = both_empty (bad_annotations (stand_of_body (body x.1.tree)) (annots_of x.1.tree)) (flat_map (λ u. bad_annotations (stand_of u) (annotations_of u)) uses) all.annotations in
        let stands = stands-well (stand_of_body (body x.1.tree)) (annots_of x.1.tree) (codes "FixedSize") row.FixedSize unfold_fixed own.0 h in
        let kind = fixed_kind files outcomes x.1.file x.0 (backing_of x.1.tree) (body x.1.tree) stands in
        let none : broken_where (is_unfixed (declarations files)) name_place uses ≡ [] =
        ap (λ b. if b then broken_where (is_unfixed (declarations files)) name_place uses else []) (sym h) ∙ all.fixed in
        let each = each-from_at (λ u. is_unfixed (declarations files) u ≡ false) uses (λ n u there. where-passes (is_unfixed (declarations files)) name_place uses n u none there) in
        let oneway = is_oneway_body (body x.1.tree) in
        let whole = each-both (IsFineMember files x.1.file x.0 oneway) (λ m. Each (λ u. is_unfixed (declarations files) u ≡ false) (of_member (shape_in files x.1.file x.0) m)) (members (body x.1.tree))
        (members-fine files unbroken fine x.0 x.1 at) (each-flat (λ u. is_unfixed (declarations files) u ≡ false) (of_member (shape_in files x.1.file x.0)) (members (body x.1.tree)) each) in
        let fields = fields-hold files outcomes x.1.file x.0 (IsFixedMember x.1.file x.0 oneway) (λ f. has_fixed_size (schema_of files outcomes) f.ty)
        (λ f later g. type_fixed f (shape_in files x.1.file x.0 f.ty) g.0.0.0.shaped g.1.0) (backing_of x.1.tree) (body x.1.tree) whole in
        rw (kind, fields) refl

    may_at : (x : Numbered) → slice_get (declarations files) x.0 ≡ Some x.1 → may_be_fixed (schema_of files outcomes) (declared files outcomes x) ≡ true
    may_at x at = by (is_fixed_entry x.1) (fixed_at x at) where
      by : (b : Bool) → (b ≡ true → (is_parcelable_or_union (declared files outcomes x).kind && list_all (λ f. has_fixed_size (schema_of files outcomes) f.ty) (fields_of (declared files outcomes x).kind)) ≡ true)
          → (not b || (is_parcelable_or_union (declared files outcomes x).kind && list_all (λ f. has_fixed_size (schema_of files outcomes) f.ty) (fields_of (declared files outcomes x).kind))) ≡ true
      by true h = h refl
      by false h = refl

    -- Rule 8 of a valid schema, where no declaration of it breaks E22 or E23.
    pub bounds-hold : ((n : ℕ) → n < length (schema_of files outcomes) → is_bounded (schema_of files outcomes) n ≡ true) → IsTrue (has_bounds (schema_of files outcomes))
    unfolding has_bounds
    bounds-hold bounded = numbered-from_at (λ n d. may_be_fixed (schema_of files outcomes) d && is_bounded (schema_of files outcomes) n) (schema_of files outcomes) (λ n d at.
        let x = schema-there files outcomes n d at in
        let may = subst (λ (c : schema.Decl). may_be_fixed (schema_of files outcomes) c ≡ true) x.2 (may_at x.0 (sorted-there (declarations files) n x.0 x.1)) in
        rw (may, bounded n (slice_get_within (schema_of files outcomes) n d at)) refl)
