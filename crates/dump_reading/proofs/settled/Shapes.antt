-- What types mean in the trees that a dump stands for, and which values are wanted of them.
use Rattle.std.proofs.Common.{◌≡◌, ℕ, Bool, true, false, not, if◌then◌else◌, List, [], ◌∷◌, codes, Option, Some, None, slice_get, refl, sym, ap, ◌∙◌}
use Rattle.std.specs.Cmp.Lexicographic.{slice_cmp}
use Rattle.std.specs.List.Sorted.{IsStrictlySortedBy}
use Rattle.std.specs.Ordering.{nat_cmp}
use Rattle.std.proofs.Common.{map}
use Rattle.aidl_base.specs.declared.name.Ident.{Ident}
use Rattle.aidl_syntax.specs.declared.tree.DottedTree.{DottedTree}
use Rattle.aidl_syntax.specs.declared.tree.TypeTree.{TypeTree}
use Rattle.aidl_syntax.specs.Trees as tree
use Rattle.aidl_syntax.specs.Trees.{map_option}
use Rattle.aidl_syntax.specs.Trees.Decl.{decl}
use Rattle.aidl_syntax.specs.Trees.Body.{enum, parcelable, union, interface}
use Rattle.aidl_syntax.specs.Members.{body}
use Rattle.name_resolution.specs.declared.meaning.BuiltinName.{BuiltinName}
use Rattle.name_resolution.specs.declared.meaning.BuiltinName.TheVariants as built_in
use Rattle.name_resolution.specs.declared.meaning.Resolved.{Resolved}
use Rattle.name_resolution.specs.declared.meaning.Resolved.TheVariants.{Builtin, ListWord, Declared}
use Rattle.aidl_syntax.specs.Sources.{Source}
use Rattle.declared_names.specs.Declarations.{Entry, declarations}
use Rattle.name_resolution.specs.Resolution.{meaning_of_word, own_meaning, first_declared, candidates, or_else, meaning_in_file, resolved}
use Rattle.type_shapes.specs.declared.shape.Shape as types
use Rattle.type_shapes.specs.declared.shape.Shape.TheVariants as typed
use Rattle.type_shapes.specs.Types.{Meaning, list_with, meaning_in, is_composite_body, is_composite_number, is_composite, is_list_element, list_of, plain, shaped_as, wanted_of, is_enum_body, is_enum, shape_in}
use Rattle.aidl_schema.specs.declared.schema.Decl.{Decl}
use Rattle.aidl_schema.specs.declared.schema.Kind.{Kind}
use Rattle.aidl_schema.specs.declared.schema.Kind.TheVariants.{Interface, Parcelable, Union, Enum}
use Rattle.aidl_schema.specs.declared.schema.Backing.TheVariants as backing
use Rattle.aidl_schema.specs.declared.schema.Base.{Base}
use Rattle.aidl_schema.specs.declared.schema.Base.TheVariants as base
use Rattle.aidl_schema.specs.declared.schema.Shape.{Shape}
use Rattle.aidl_schema.specs.declared.schema.Shape.TheVariants as shape
use Rattle.aidl_schema.specs.Containment as schema
use Rattle.aidl_schema.specs.Holds.{AllHold, AreApart}
use Rattle.aidl_schema.specs.Names.{name_of}
use Rattle.aidl_schema.specs.Same.{is_named}
use Rattle.aidl_schema.specs.Types.{form_of, form_of_decl, form_of_kind, is_meant, is_nullable_form}
use Rattle.api_dump.specs.Pieces.{ident}
use Rattle.api_dump.specs.Types.{base_name, declared_name}
use Rattle.dump_reading.specs.Bare.{bare_body, bare_decl, bare_type, bare_dotted}
use Rattle.dump_reading.specs.DumpTrees.{body_tree, nested_trees, constants_before, type_tree}
use Rattle.dump_reading.proofs.filed.Numbers.{walks}
use Rattle.dump_reading.proofs.named.Entries.{AreEntries}
use Rattle.dump_reading.proofs.named.Resolved.{number_is, named_resolved}
use Rattle.dump_reading.proofs.settled.Literals.{wanted_base}

abbrev pub is_enum_kind : Kind → Bool
is_enum_kind (Enum b es) = true
is_enum_kind _ = false

abbrev pub is_composite_kind : Kind → Bool
is_composite_kind (Parcelable fs) = true
is_composite_kind (Union fs) = true
is_composite_kind _ = false

-- what a body is, by its kind
pub bodies_are : (S : List Decl) (k : Kind) (ms : tree.Members) (b : tree.Body) → bare_body b ≡ body_tree S k ms → (is_composite_body b ≡ is_composite_kind k) × (is_enum_body b ≡ is_enum_kind k)
bodies_are S (Interface xs) ms (interface oneway ns) e = (refl, refl)
bodies_are S (Interface xs) ms (parcelable ns) e = cc
bodies_are S (Interface xs) ms (union ns) e = cc
bodies_are S (Interface xs) ms (enum es) e = cc
bodies_are S (Parcelable xs) ms (parcelable ns) e = (refl, refl)
bodies_are S (Parcelable xs) ms (interface oneway ns) e = cc
bodies_are S (Parcelable xs) ms (union ns) e = cc
bodies_are S (Parcelable xs) ms (enum es) e = cc
bodies_are S (Union xs) ms (union ns) e = (refl, refl)
bodies_are S (Union xs) ms (interface oneway ns) e = cc
bodies_are S (Union xs) ms (parcelable ns) e = cc
bodies_are S (Union xs) ms (enum es) e = cc
bodies_are S (Enum b xs) ms (enum es) e = (refl, refl)
bodies_are S (Enum b xs) ms (interface oneway ns) e = cc
bodies_are S (Enum b xs) ms (parcelable ns) e = cc
bodies_are S (Enum b xs) ms (union ns) e = cc

kind_form : (k : Kind) → is_composite_kind k ≡ schema.is_composite (form_of_kind k)
kind_form (Interface ms) = refl
kind_form (Parcelable fs) = refl
kind_form (Union fs) = refl
kind_form (Enum backing.Byte es) = refl
kind_form (Enum backing.Int es) = refl
kind_form (Enum backing.Long es) = refl

nullable_kind : (k : Kind) → is_nullable_form (form_of_kind k) ≡ true → is_composite_kind k ≡ true
nullable_kind (Interface ms) h = cc
nullable_kind (Parcelable fs) h = refl
nullable_kind (Union fs) h = refl
nullable_kind (Enum backing.Byte es) h = cc
nullable_kind (Enum backing.Int es) h = cc
nullable_kind (Enum backing.Long es) h = cc

pub body_bare : (t : tree.Decl) → bare_body (body t) ≡ body (bare_decl t)
body_bare (decl o annots n b) = refl

-- what a base's name means
pub record Means (S : List Decl) (entries : List Entry) (b : Base) (r : Resolved) : Type 0 where
  pub word : (meaning : Meaning) (t : TypeTree) → shaped_as entries meaning t (Some r) ≡ plain r t.element t.array
  pub composite : is_composite entries r ≡ schema.is_composite (form_of S b)
  pub element : is_nullable_form (form_of S b) ≡ true → is_list_element entries r ≡ true
  pub wants : not (is_named b) ≡ true → wanted_of entries r ≡ wanted_base b

-- the shape of a type of trees
abbrev pub shape_of : Shape → Resolved → types.Shape
shape_of shape.One r = typed.One r
shape_of shape.Array r = typed.Array r
shape_of shape.List r = typed.List r

module _ (S : List Decl) (H : AllHold S) (sorted : IsStrictlySortedBy (slice_cmp nat_cmp) (map name_of S)) (A : AreApart name_of S) (files : List Source) (are : AreEntries S files (walks S) (declarations files)) where
  builtin : (b : Base) (n : BuiltinName) → schema.is_composite (form_of S b) ≡ false → (is_nullable_form (form_of S b) ≡ true → is_list_element (declarations files) (Builtin n) ≡ true) → wanted_of (declarations files) (Builtin n) ≡ wanted_base b → Means S (declarations files) b (Builtin n)
  builtin b n c e w = record { word = λ meaning t. refl; composite = sym c; element = e; wants = λ h. w }

  pub enum_number : (n : ℕ) (d : Decl) (at : slice_get S n ≡ Some d) → (is_composite_number (declarations files) (number_is S H sorted A files are n d at).0 ≡ is_composite_kind d.kind) × (is_enum (declarations files) (number_is S H sorted A files are n d at).0 ≡ is_enum_kind d.kind)
  enum_number n d at =
      let k = number_is S H sorted A files are n d at in let e = k.3 in let c = k.5.declared in
      let same_decl : Some c ≡ Some d = sym k.5.at ∙ at in
      let decl_is : c ≡ d = cc in
      let b = bodies_are S c.kind (constants_before S c (nested_trees S k.5.levels n)) (body e.tree) (body_bare e.tree ∙ ap body k.5.written) in (
        ap (λ o. elim o as (λ _. Bool) [ None ↦ false | Some x ↦ is_composite_body (body x.tree) ]) k.4 ∙ b.0 ∙ ap (λ x. is_composite_kind x.kind) decl_is,
        ap (λ o. elim o as (λ _. Bool) [ None ↦ false | Some x ↦ is_enum_body (body x.tree) ]) k.4 ∙ b.1 ∙ ap (λ x. is_enum_kind x.kind) decl_is,
      )

  pub base_means : (file scope : ℕ) (s : Source) → slice_get files file ≡ Some s → (b : Base) → is_meant (form_of S b) ≡ true → (r : Resolved) × (resolved files file scope (base_name S b) ≡ Some r) × Means S (declarations files) b r
  unfolding meaning_of_word lib.Utf8.encode
  base_means file scope s in_file b m = by b m where
    of_word : (is : List Ident) (r : Resolved) → own_meaning is ≡ Some r → resolved files file scope is ≡ Some r
    of_word is r e =
        let es = declarations files in
        ap (λ o. elim o as (λ _. Option Resolved) [ None ↦ None | Some f ↦ meaning_in_file es f scope is ]) in_file ∙ ap (λ o. or_else o (first_declared es (candidates es s scope is))) e

    of_number : (n : ℕ) (o : Option Decl) → slice_get S n ≡ o → is_meant (form_of_decl o) ≡ true → (r : Resolved) × (resolved files file scope (declared_name o) ≡ Some r) × Means S (declarations files) (base.Named n) r
    of_number n None at m = cc
    of_number n (Some d) at m =
        let k = number_is S H sorted A files are n d at in let two = enum_number n d at in
        let form : form_of S (base.Named n) ≡ form_of_kind d.kind = ap form_of_decl at in (
          Declared k.0,
          named_resolved S H sorted A files are file scope s in_file n d at,
          record {
            word = λ meaning t. refl;
            composite = two.0 ∙ kind_form d.kind ∙ ap schema.is_composite (sym form);
            element = λ h. two.0 ∙ nullable_kind d.kind (ap is_nullable_form (sym form) ∙ h);
            wants = λ h. cc;
          },
        )

    by : (b : Base) → is_meant (form_of S b) ≡ true → (r : Resolved) × (resolved files file scope (base_name S b) ≡ Some r) × Means S (declarations files) b r
    by base.Boolean m = (Builtin built_in.Boolean, of_word (ident (codes "boolean") ∷ []) (Builtin built_in.Boolean) refl, builtin base.Boolean built_in.Boolean refl (λ h. cc) refl)
    by base.Byte m = (Builtin built_in.Byte, of_word (ident (codes "byte") ∷ []) (Builtin built_in.Byte) refl, builtin base.Byte built_in.Byte refl (λ h. cc) refl)
    by base.Char m = (Builtin built_in.Char, of_word (ident (codes "char") ∷ []) (Builtin built_in.Char) refl, builtin base.Char built_in.Char refl (λ h. cc) refl)
    by base.Int m = (Builtin built_in.Int, of_word (ident (codes "int") ∷ []) (Builtin built_in.Int) refl, builtin base.Int built_in.Int refl (λ h. cc) refl)
    by base.Long m = (Builtin built_in.Long, of_word (ident (codes "long") ∷ []) (Builtin built_in.Long) refl, builtin base.Long built_in.Long refl (λ h. cc) refl)
    by base.Text m = (Builtin built_in.Text, of_word (ident (codes "String") ∷ []) (Builtin built_in.Text) refl, builtin base.Text built_in.Text refl (λ h. refl) refl)
    by (base.Named n) m = of_number n (slice_get S n) refl m

  no_parts : (o : Option DottedTree) → map_option bare_dotted o ≡ None → o ≡ None
  no_parts None e = refl
  no_parts (Some d) e = cc

  part_is : (o : Option DottedTree) (d : DottedTree) → map_option bare_dotted o ≡ Some d → (x : DottedTree) × (o ≡ Some x) × (x.name ≡ d.name)
  part_is None d e = cc
  part_is (Some x) d e = (x, refl, let is : bare_dotted x ≡ d = cc in ap (λ z. z.name) is)

  -- the shape of a type that is written
  pub shape_is : (file scope : ℕ) (s : Source) → slice_get files file ≡ Some s → (b : Base) (r : Resolved) → resolved files file scope (base_name S b) ≡ Some r → Means S (declarations files) b r
      → (w : Shape) → (w ≡ shape.List → is_nullable_form (form_of S b) ≡ true) → (t : TypeTree) → bare_type t ≡ type_tree w (base_name S b) → shape_in files file scope t ≡ shape_of w r
  unfolding meaning_of_word lib.Utf8.encode
  shape_is file scope s in_file b r known means w nullable t e = by w nullable e where
    single : (is : List Ident) (x : Resolved) → t.name.name.0 ≡ is → resolved files file scope is ≡ Some x → shape_in files file scope t ≡ shaped_as (declarations files) (meaning_in files file scope) t (Some x)
    single is x n k = ap (shaped_as (declarations files) (meaning_in files file scope) t) (ap (resolved files file scope) n ∙ k)

    by : (w : Shape) → (w ≡ shape.List → is_nullable_form (form_of S b) ≡ true) → bare_type t ≡ type_tree w (base_name S b) → shape_in files file scope t ≡ shape_of w r
    by shape.One n e =
        single (base_name S b) r (ap (λ (x : TypeTree). x.name.name.0) e) known ∙ means.word (meaning_in files file scope) t
        ∙ ap (λ o. plain r o t.array) (no_parts t.element (ap (λ (x : TypeTree). x.element) e)) ∙ ap (plain r None) (ap (λ (x : TypeTree). x.array) e)
    by shape.Array n e =
        single (base_name S b) r (ap (λ (x : TypeTree). x.name.name.0) e) known ∙ means.word (meaning_in files file scope) t
        ∙ ap (λ o. plain r o t.array) (no_parts t.element (ap (λ (x : TypeTree). x.element) e)) ∙ ap (plain r None) (ap (λ (x : TypeTree). x.array) e)
    by shape.List n e =
        let es = declarations files in let m = meaning_in files file scope in
        let el = part_is t.element _ (ap (λ (x : TypeTree). x.element) e) in
        let list_known : resolved files file scope (ident (codes "List") ∷ []) ≡ Some ListWord = ap (λ o. elim o as (λ _. Option Resolved) [ None ↦ None | Some f ↦ meaning_in_file es f scope (ident (codes "List") ∷ []) ]) in_file in
        single (ident (codes "List") ∷ []) ListWord (ap (λ (x : TypeTree). x.name.name.0) e) list_known
        ∙ ap (λ o. list_with es m o t.array) el.1 ∙ ap (λ b. list_with es m (Some el.0) b) (ap (λ (x : TypeTree). x.array) e)
        ∙ ap (list_of es) (ap (λ (i : _). resolved files file scope i.0) el.2 ∙ known) ∙ ap (λ b. if b then typed.List r else typed.Refused) (means.element (n refl))
