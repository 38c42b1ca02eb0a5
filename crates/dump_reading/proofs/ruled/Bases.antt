-- What the types of a dump are in its trees, and what holds of their bases.
use Rattle.std.proofs.Common.{◌≡◌, ℕ, Bool, true, false, not, ◌&&◌, ◌||◌, List, [], ◌∷◌, map, codes, Option, Some, None, slice_get, refl, sym, ap, ◌∙◌}
use Rattle.std.specs.List.{list_all}
use Rattle.std.specs.Cmp.Lexicographic.{slice_cmp}
use Rattle.std.specs.List.Sorted.{IsStrictlySortedBy}
use Rattle.std.specs.Ordering.{nat_cmp}
use Rattle.std.proofs.lemmas.Bool.{and_parts}
use Rattle.aidl_base.specs.declared.name.Ident.{Ident}
use Rattle.aidl_syntax.specs.declared.tree.TypeTree.{TypeTree}
use Rattle.name_resolution.specs.declared.meaning.BuiltinName.TheVariants as built_in
use Rattle.name_resolution.specs.declared.meaning.Resolved.{Resolved}
use Rattle.name_resolution.specs.declared.meaning.Resolved.TheVariants.{Builtin, Declared}
use Rattle.aidl_syntax.specs.Sources.{Source}
use Rattle.declared_names.specs.Declarations.{Entry, declarations}
use Rattle.name_resolution.specs.Resolution.{meaning_of_word, own_meaning, first_declared, candidates, or_else, meaning_in_file, resolved}
use Rattle.type_shapes.specs.declared.shape.Shape.TheVariants as typed
use Rattle.type_shapes.specs.Backing.{annots_of}
use Rattle.type_shapes.specs.Types.{is_composite, shape_in}
use Rattle.type_uses.specs.Annotations.{is_text}
use Rattle.type_uses.specs.Bases.{is_scalar, is_fixed_entry, is_fixed_number, is_fixed_base}
use Rattle.type_rules.specs.TypeRules.{is_constant_type}
use Rattle.aidl_schema.specs.declared.schema.Decl.{Decl}
use Rattle.aidl_schema.specs.declared.schema.AidlType.{AidlType}
use Rattle.aidl_schema.specs.declared.schema.Kind.{Kind}
use Rattle.aidl_schema.specs.declared.schema.Kind.TheVariants.{Interface, Parcelable, Union, Enum}
use Rattle.aidl_schema.specs.declared.schema.Backing.TheVariants as backing
use Rattle.aidl_schema.specs.declared.schema.Base.{Base}
use Rattle.aidl_schema.specs.declared.schema.Base.TheVariants as base
use Rattle.aidl_schema.specs.Constants.{is_string}
use Rattle.aidl_schema.specs.Containment as containment
use Rattle.aidl_schema.specs.Containment.{fields_of}
use Rattle.aidl_schema.specs.Holds.{AllHold, AreApart}
use Rattle.aidl_schema.specs.Names.{name_of}
use Rattle.aidl_schema.specs.Same.{is_named, decl_of}
use Rattle.aidl_schema.specs.Types as schema
use Rattle.aidl_schema.specs.Types.{form_of, form_of_decl, form_of_kind, is_meant, is_well_shaped, is_type, is_nullable_form}
use Rattle.aidl_schema.specs.Valid as valid
use Rattle.aidl_schema.specs.Valid.{is_parcelable_or_union, may_be_fixed, has_fixed_size}
use Rattle.api_dump.specs.Pieces.{ident}
use Rattle.api_dump.specs.Types.{base_name, declared_name}
use Rattle.dump_reading.specs.Bare.{bare_type}
use Rattle.dump_reading.specs.DumpTrees.{type_tree}
use Rattle.dump_reading.proofs.filed.Numbers.{walks}
use Rattle.dump_reading.proofs.named.Entries.{IsEntry, AreEntries}
use Rattle.dump_reading.proofs.named.Resolved.{number_is, named_resolved}
use Rattle.dump_reading.proofs.settled.Shapes.{is_enum_kind, is_composite_kind, enum_number, shape_of, base_means, shape_is}
use Rattle.dump_reading.proofs.settled.Items.{annots_bare, some_is}
use Rattle.dump_reading.proofs.ruled.Marks.{fixed_kept}

scalar_kind : (k : Kind) → is_enum_kind k ≡ schema.is_scalar (form_of_kind k)
scalar_kind (Interface ms) = refl
scalar_kind (Parcelable fs) = refl
scalar_kind (Union fs) = refl
scalar_kind (Enum backing.Byte es) = refl
scalar_kind (Enum backing.Int es) = refl
scalar_kind (Enum backing.Long es) = refl

composite_kind : (k : Kind) → is_parcelable_or_union k ≡ is_composite_kind k
composite_kind (Interface ms) = refl
composite_kind (Parcelable fs) = refl
composite_kind (Union fs) = refl
composite_kind (Enum b es) = refl

pub fixed_kind : (S : List Decl) (d : Decl) → may_be_fixed S d ≡ true → d.fixed ≡ true → (is_parcelable_or_union d.kind ≡ true) × (list_all (λ f. has_fixed_size S f.ty) (fields_of d.kind) ≡ true)
fixed_kind S d h f =
    and_parts (is_parcelable_or_union d.kind) (list_all (λ f. has_fixed_size S f.ty) (fields_of d.kind))
    (ap (λ b. not b || (is_parcelable_or_union d.kind && list_all (λ f. has_fixed_size S f.ty) (fields_of d.kind))) (sym f) ∙ h)

module _ (S : List Decl) (H : AllHold S) (sorted : IsStrictlySortedBy (slice_cmp nat_cmp) (map name_of S)) (A : AreApart name_of S) (files : List Source) (are : AreEntries S files (walks S) (declarations files)) where
  -- what the name of a base means
  abbrev pub IsBase : Base → Resolved → Type 0
  IsBase base.Boolean r = r ≡ Builtin built_in.Boolean
  IsBase base.Byte r = r ≡ Builtin built_in.Byte
  IsBase base.Char r = r ≡ Builtin built_in.Char
  IsBase base.Int r = r ≡ Builtin built_in.Int
  IsBase base.Long r = r ≡ Builtin built_in.Long
  IsBase base.Text r = r ≡ Builtin built_in.Text
  IsBase (base.Named n) r = (d : Decl) × (at : slice_get S n ≡ Some d) × (r ≡ Declared (number_is S H sorted A files are n d at).0)

  pub scalar_is : (b : Base) (r : Resolved) → IsBase b r → is_scalar (declarations files) r ≡ schema.is_scalar (form_of S b)
  scalar_is base.Boolean r i = ap (is_scalar (declarations files)) i
  scalar_is base.Byte r i = ap (is_scalar (declarations files)) i
  scalar_is base.Char r i = ap (is_scalar (declarations files)) i
  scalar_is base.Int r i = ap (is_scalar (declarations files)) i
  scalar_is base.Long r i = ap (is_scalar (declarations files)) i
  scalar_is base.Text r i = ap (is_scalar (declarations files)) i
  scalar_is (base.Named n) r i = ap (is_scalar (declarations files)) i.2 ∙ (enum_number S H sorted A files are n i.0 i.1).1 ∙ scalar_kind i.0.kind ∙ ap schema.is_scalar (sym (ap form_of_decl i.1))

  pub text_base : (b : Base) (r : Resolved) → IsBase b r → is_string b ≡ true → is_text r ≡ true
  text_base base.Boolean r i h = cc
  text_base base.Byte r i h = cc
  text_base base.Char r i h = cc
  text_base base.Int r i h = cc
  text_base base.Long r i h = cc
  text_base base.Text r i h = ap is_text i
  text_base (base.Named n) r i h = cc

  pub constant_base : (b : Base) (r : Resolved) → IsBase b r → not (is_named b) ≡ true → is_constant_type (typed.One r) ≡ true
  constant_base base.Boolean r i h = ap (λ x. is_constant_type (typed.One x)) i
  constant_base base.Byte r i h = ap (λ x. is_constant_type (typed.One x)) i
  constant_base base.Char r i h = ap (λ x. is_constant_type (typed.One x)) i
  constant_base base.Int r i h = ap (λ x. is_constant_type (typed.One x)) i
  constant_base base.Long r i h = ap (λ x. is_constant_type (typed.One x)) i
  constant_base base.Text r i h = ap (λ x. is_constant_type (typed.One x)) i
  constant_base (base.Named n) r i h = cc

  -- a declaration has `@FixedSize` where it is fixed
  pub fixed_entry : (n : ℕ) (e : Entry) (h : IsEntry S files (walks S) n e) → is_fixed_entry e ≡ h.declared.fixed
  fixed_entry n e h = fixed_kept (annots_of e.tree) h.declared.kind h.declared.fixed h.declared.vintf (annots_bare e.tree ∙ ap annots_of h.written)

  pub fixed_base : (b : Base) (r : Resolved) → IsBase b r → (schema.is_scalar (form_of S b) || valid.is_fixed (decl_of S b)) ≡ true → is_fixed_base (declarations files) r ≡ true
  fixed_base base.Boolean r i h = ap (is_fixed_base (declarations files)) i
  fixed_base base.Byte r i h = ap (is_fixed_base (declarations files)) i
  fixed_base base.Char r i h = ap (is_fixed_base (declarations files)) i
  fixed_base base.Int r i h = ap (is_fixed_base (declarations files)) i
  fixed_base base.Long r i h = ap (is_fixed_base (declarations files)) i
  fixed_base base.Text r i h = cc
  fixed_base (base.Named n) r i h = ap (is_fixed_base es) i.2 ∙ by (schema.is_scalar (form_of S (base.Named n))) refl h where
    es : List Entry
    es = declarations files

    k : ℕ
    k = (number_is S H sorted A files are n i.0 i.1).0

    or_true : (a : Bool) → (a || true) ≡ true
    or_true true = refl
    or_true false = refl

    by : (t : Bool) → schema.is_scalar (form_of S (base.Named n)) ≡ t → (t || valid.is_fixed (slice_get S n)) ≡ true → (is_scalar (declarations files) (Declared k) || (is_composite (declarations files) (Declared k) && is_fixed_number (declarations files) k)) ≡ true
    by true s f = ap (λ b. b || (is_composite (declarations files) (Declared k) && is_fixed_number (declarations files) k)) (scalar_is (base.Named n) (Declared k) (i.0, i.1, refl) ∙ s)
    by false s f =
        let num = number_is S H sorted A files are n i.0 i.1 in
        let d_fixed : i.0.fixed ≡ true = ap valid.is_fixed (sym i.1) ∙ f in
        let decl_is : num.5.declared ≡ i.0 = some_is num.5.declared i.0 (sym num.5.at ∙ i.1) in
        let composite : is_composite (declarations files) (Declared k) ≡ true = (enum_number S H sorted A files are n i.0 i.1).0 ∙ sym (composite_kind i.0.kind) ∙ (fixed_kind S i.0 (H n i.0 i.1).fixed d_fixed).0 in
        let number : is_fixed_number (declarations files) k ≡ true = ap (λ o. elim o as (λ _. Bool) [ None ↦ false | Some e ↦ is_fixed_entry e ]) num.4 ∙ fixed_entry n num.3 num.5 ∙ ap (λ x. x.fixed) decl_is ∙ d_fixed in
        ap (λ b. is_scalar (declarations files) (Declared k) || (b && is_fixed_number (declarations files) k)) composite ∙ ap (λ b. is_scalar (declarations files) (Declared k) || b) number ∙ or_true (is_scalar (declarations files) (Declared k))

  module _ (file scope : ℕ) (s : Source) (in_file : slice_get files file ≡ Some s) where
    base_is : (b : Base) → is_meant (form_of S b) ≡ true → (r : Resolved) → resolved files file scope (base_name S b) ≡ Some r → IsBase b r
    unfolding meaning_of_word lib.Utf8.encode
    base_is b m r known = by b m known where
      of_word : (is : List Ident) (x : Resolved) → own_meaning is ≡ Some x → resolved files file scope is ≡ Some r → r ≡ x
      of_word is x e known =
          let es = declarations files in
          some_is r x (sym known ∙ (ap (λ o. elim o as (λ _. Option Resolved) [ None ↦ None | Some f ↦ meaning_in_file es f scope is ]) in_file ∙ ap (λ o. or_else o (first_declared es (candidates es s scope is))) e))

      of_number : (n : ℕ) (o : Option Decl) → slice_get S n ≡ o → is_meant (form_of_decl o) ≡ true → resolved files file scope (declared_name o) ≡ Some r → IsBase (base.Named n) r
      of_number n None at m known = cc
      of_number n (Some d) at m known = (d, at, some_is r (Declared (number_is S H sorted A files are n d at).0) (sym known ∙ named_resolved S H sorted A files are file scope s in_file n d at))

      by : (b : Base) → is_meant (form_of S b) ≡ true → resolved files file scope (base_name S b) ≡ Some r → IsBase b r
      by base.Boolean m known = of_word (ident (codes "boolean") ∷ []) (Builtin built_in.Boolean) refl known
      by base.Byte m known = of_word (ident (codes "byte") ∷ []) (Builtin built_in.Byte) refl known
      by base.Char m known = of_word (ident (codes "char") ∷ []) (Builtin built_in.Char) refl known
      by base.Int m known = of_word (ident (codes "int") ∷ []) (Builtin built_in.Int) refl known
      by base.Long m known = of_word (ident (codes "long") ∷ []) (Builtin built_in.Long) refl known
      by base.Text m known = of_word (ident (codes "String") ∷ []) (Builtin built_in.Text) refl known
      by (base.Named n) m known = of_number n (slice_get S n) refl m known

    -- what is written for a type
    abbrev pub IsTyped : AidlType → TypeTree → Type 0
    IsTyped t ty = (r : Resolved) × (shape_in files file scope ty ≡ shape_of t.shape r) × IsBase t.base r × (is_composite (declarations files) r ≡ containment.is_composite (form_of S t.base))

    pub typed_here : (t : AidlType) → is_type S t ≡ true → (ty : TypeTree) → bare_type ty ≡ type_tree t.shape (base_name S t.base) → IsTyped t ty
    typed_here t h ty e =
        let two = and_parts (is_meant (form_of S t.base)) (is_well_shaped t.shape t.nullable (form_of S t.base)) h in
        let m = base_means S H sorted A files are file scope s in_file t.base two.0 in
        (m.0, shape_is S H sorted A files are file scope s in_file t.base m.0 m.1 m.2 t.shape (λ is. sym (ap (λ w. is_well_shaped w t.nullable (form_of S t.base)) is) ∙ two.1) ty e, base_is t.base two.0 m.0 m.1, m.2.composite)
