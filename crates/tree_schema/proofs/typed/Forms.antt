-- What a base means in the schema is what its declaration is in the trees.
use Rattle.std.proofs.Common.{◌≡◌, ℕ, Bool, true, false, not, List, [], Option, Some, None, slice_get, refl, ap, ◌∙◌}
use Rattle.aidl_base.proofs.lemmas.Tests.{flipped}
use Rattle.aidl_syntax.specs.Trees.{Body}
use Rattle.aidl_syntax.specs.Trees.Body.{parcelable, union, enum, interface}
use Rattle.aidl_syntax.specs.Members.{body}
use Rattle.name_resolution.specs.declared.meaning.BuiltinName.TheVariants as built_in
use Rattle.name_resolution.specs.declared.meaning.Resolved.{Resolved}
use Rattle.name_resolution.specs.declared.meaning.Resolved.TheVariants.{Builtin, ListWord, LeftOut, Declared}
use Rattle.aidl_names.specs.Breaches.{breaches}
use Rattle.declared_names.specs.Declarations.{Entry, declarations}
use Rattle.aidl_names.specs.Rules.{is_interface_body}
use Rattle.aidl_syntax.specs.Sources.{Source}
use Rattle.const_values.specs.declared.wanted.Wanted.{Wanted}
use Rattle.const_values.specs.declared.wanted.Wanted.TheVariants as wanted
use Rattle.type_shapes.specs.Backing.{backing_of}
use Rattle.type_shapes.specs.Types as tree
use Rattle.type_uses.specs.Bases as bases
use Rattle.aidl_schema.specs.Containment.{is_composite}
use Rattle.aidl_schema.specs.Types.{Form, form_of, form_of_kind, is_meant, is_nullable_form, is_scalar}
use Rattle.aidl_schema.specs.Types as form
use Rattle.aidl_schema.specs.Same.{decl_of}
use Rattle.tree_schema.specs.Numbers.{number_of}
use Rattle.tree_schema.specs.SchemaOf.{schema_of, declared, kind_of}
use Rattle.tree_schema.specs.Types.{base_of, base_of_number}
use Rattle.tree_schema.specs.Values.{Outcomes}
use Rattle.tree_schema.proofs.walked.Outers.{are_named}
use Rattle.tree_schema.proofs.lemmas.named.Numbers.{number-there}
use Rattle.tree_schema.proofs.lemmas.named.Schema.{number-stands}
use Rattle.tree_schema.proofs.typed.Shapes.{is_base, is_base_entry}

module _ (files : List Source) (outcomes : Outcomes) (file number : ℕ) where
  enum_scalar : (w : Wanted) (b : Body) → tree.is_enum_body b ≡ true → is_scalar (form_of_kind (kind_of files outcomes file number w b)) ≡ true
  enum_scalar wanted.Int (enum es) h = refl
  enum_scalar wanted.Long (enum es) h = refl
  enum_scalar wanted.Byte (enum es) h = refl
  enum_scalar wanted.Boolean (enum es) h = refl
  enum_scalar wanted.Character (enum es) h = refl
  enum_scalar wanted.Text (enum es) h = refl
  enum_scalar (wanted.Enum n) (enum es) h = refl
  enum_scalar wanted.Nothing (enum es) h = refl
  enum_scalar w (parcelable ms) h = cc
  enum_scalar w (union ms) h = cc
  enum_scalar w (interface oneway ms) h = cc

  scalar_plain : (f : Form) → is_scalar f ≡ true → is_composite f ≡ false
  scalar_plain form.truth h = refl
  scalar_plain form.byte h = refl
  scalar_plain form.char h = refl
  scalar_plain form.int h = refl
  scalar_plain form.long h = refl
  scalar_plain form.text h = cc
  scalar_plain (form.parcelable fs) h = cc
  scalar_plain (form.union fs) h = cc
  scalar_plain form.nothing h = cc

  scalar_meant : (f : Form) → is_scalar f ≡ true → is_meant f ≡ true
  scalar_meant form.truth h = refl
  scalar_meant form.byte h = refl
  scalar_meant form.char h = refl
  scalar_meant form.int h = refl
  scalar_meant form.long h = refl
  scalar_meant form.text h = cc
  scalar_meant (form.parcelable fs) h = cc
  scalar_meant (form.union fs) h = cc
  scalar_meant form.nothing h = cc

  pub kind-composite : (w : Wanted) (b : Body) → is_composite (form_of_kind (kind_of files outcomes file number w b)) ≡ tree.is_composite_body b
  kind-composite w (parcelable ms) = refl
  kind-composite w (union ms) = refl
  kind-composite w (interface oneway ms) = refl
  kind-composite w (enum es) = scalar_plain (form_of_kind (kind_of files outcomes file number w (enum es))) (enum_scalar w (enum es) refl)

  pub kind-scalar : (w : Wanted) (b : Body) → tree.is_enum_body b ≡ true → is_scalar (form_of_kind (kind_of files outcomes file number w b)) ≡ true
  kind-scalar w b h = enum_scalar w b h

  pub kind-meant : (w : Wanted) (b : Body) → is_interface_body b ≡ false → is_meant (form_of_kind (kind_of files outcomes file number w b)) ≡ true
  kind-meant w (parcelable ms) h = refl
  kind-meant w (union ms) h = refl
  kind-meant w (interface oneway ms) h = cc
  kind-meant w (enum es) h = scalar_meant (form_of_kind (kind_of files outcomes file number w (enum es))) (enum_scalar w (enum es) refl)

pub composite-nullable : (f : Form) → is_composite f ≡ true → is_nullable_form f ≡ true
composite-nullable (form.parcelable fs) h = refl
composite-nullable (form.union fs) h = refl
composite-nullable form.truth h = cc
composite-nullable form.byte h = cc
composite-nullable form.char h = cc
composite-nullable form.int h = cc
composite-nullable form.long h = cc
composite-nullable form.text h = cc
composite-nullable form.nothing h = cc

module _ (files : List Source) (outcomes : Outcomes) (named : are_named files ≡ true) (unbroken : breaches files ≡ []) where
  -- what an entry with a number means as a type
  abbrev pub form_at : ℕ → Entry → Form
  form_at k e = form_of_kind (kind_of files outcomes e.file k (backing_of e.tree) (body e.tree))

  -- a declaration means what it declares
  pub form-there : (k : ℕ) (e : Entry) → slice_get (declarations files) k ≡ Some e → form_of (schema_of files outcomes) (base_of (declarations files) (Declared k)) ≡ form_at k e
  form-there k e at =
      let stands = number-stands files outcomes named unbroken k e at in
      rw (stands.1, stands.2) refl

  -- the declaration that its base names
  pub decl-there : (k : ℕ) (e : Entry) → slice_get (declarations files) k ≡ Some e → decl_of (schema_of files outcomes) (base_of (declarations files) (Declared k)) ≡ Some (declared files outcomes (k, e))
  decl-there k e at =
      let stands = number-stands files outcomes named unbroken k e at in
      rw (stands.1, stands.2) refl

  no_number : (k : ℕ) → slice_get (declarations files) k ≡ None → (o : Option ℕ) → number_of (declarations files) k ≡ o → is_composite (form_of (schema_of files outcomes) (base_of_number o)) ≡ false
  no_number k none None q = refl
  no_number k none (Some n) q = let there = number-there (declarations files) k n q in let at = there.2 in cc

  -- a parcelable or a union is one in the schema
  pub base-composite : (r : Resolved) → is_composite (form_of (schema_of files outcomes) (base_of (declarations files) r)) ≡ tree.is_composite (declarations files) r
  base-composite (Builtin built_in.Boolean) = refl
  base-composite (Builtin built_in.Byte) = refl
  base-composite (Builtin built_in.Char) = refl
  base-composite (Builtin built_in.Int) = refl
  base-composite (Builtin built_in.Long) = refl
  base-composite (Builtin built_in.Text) = refl
  base-composite ListWord = refl
  base-composite LeftOut = refl
  base-composite (Declared k) = by (slice_get (declarations files) k) refl where
    by : (o : Option Entry) → slice_get (declarations files) k ≡ o → is_composite (form_of (schema_of files outcomes) (base_of (declarations files) (Declared k)))
        ≡ elim o as (λ _. Bool) [ None ↦ false | Some e ↦ tree.is_composite_body (body e.tree) ]
    by None at = no_number k at (number_of (declarations files) k) refl
    by (Some e) at = ap is_composite (form-there k e at) ∙ kind-composite files outcomes e.file k (backing_of e.tree) (body e.tree)

  -- what may be used as a type means something
  pub base-meant : (r : Resolved) → is_base (declarations files) r ≡ true → is_meant (form_of (schema_of files outcomes) (base_of (declarations files) r)) ≡ true
  base-meant (Builtin built_in.Boolean) h = refl
  base-meant (Builtin built_in.Byte) h = refl
  base-meant (Builtin built_in.Char) h = refl
  base-meant (Builtin built_in.Int) h = refl
  base-meant (Builtin built_in.Long) h = refl
  base-meant (Builtin built_in.Text) h = refl
  base-meant ListWord h = cc
  base-meant LeftOut h = cc
  base-meant (Declared k) h = by (slice_get (declarations files) k) refl h where
    by : (o : Option Entry) → slice_get (declarations files) k ≡ o → is_base_entry o ≡ true → is_meant (form_of (schema_of files outcomes) (base_of (declarations files) (Declared k))) ≡ true
    by None at g = cc
    by (Some e) at g = ap is_meant (form-there k e at) ∙ kind-meant files outcomes e.file k (backing_of e.tree) (body e.tree) (flipped (is_interface_body (body e.tree)) g)

  -- a primitive or an enum is a number or a truth value
  pub base-scalar : (r : Resolved) → bases.is_scalar (declarations files) r ≡ true → is_scalar (form_of (schema_of files outcomes) (base_of (declarations files) r)) ≡ true
  base-scalar (Builtin built_in.Boolean) h = refl
  base-scalar (Builtin built_in.Byte) h = refl
  base-scalar (Builtin built_in.Char) h = refl
  base-scalar (Builtin built_in.Int) h = refl
  base-scalar (Builtin built_in.Long) h = refl
  base-scalar (Builtin built_in.Text) h = cc
  base-scalar ListWord h = cc
  base-scalar LeftOut h = cc
  base-scalar (Declared k) h = by (slice_get (declarations files) k) refl h where
    by : (o : Option Entry) → slice_get (declarations files) k ≡ o → elim o as (λ _. Bool) [ None ↦ false | Some e ↦ tree.is_enum_body (body e.tree) ] ≡ true
        → is_scalar (form_of (schema_of files outcomes) (base_of (declarations files) (Declared k))) ≡ true
    by None at g = cc
    by (Some e) at g = ap is_scalar (form-there k e at) ∙ kind-scalar files outcomes e.file k (backing_of e.tree) (body e.tree) g

  -- what may be a type and is no primitive and no enum may be null
  pub base-nullable : (r : Resolved) → is_base (declarations files) r ≡ true → bases.is_scalar (declarations files) r ≡ false → is_nullable_form (form_of (schema_of files outcomes) (base_of (declarations files) r)) ≡ true
  base-nullable (Builtin built_in.Boolean) h g = cc
  base-nullable (Builtin built_in.Byte) h g = cc
  base-nullable (Builtin built_in.Char) h g = cc
  base-nullable (Builtin built_in.Int) h g = cc
  base-nullable (Builtin built_in.Long) h g = cc
  base-nullable (Builtin built_in.Text) h g = refl
  base-nullable ListWord h g = cc
  base-nullable LeftOut h g = cc
  base-nullable (Declared k) h g = by (slice_get (declarations files) k) refl h g where
    body_nullable : (e : Entry) → slice_get (declarations files) k ≡ Some e → (b : Body) → body e.tree ≡ b → not (is_interface_body b) ≡ true → tree.is_enum_body b ≡ false → tree.is_composite_body b ≡ true
    body_nullable e at (parcelable ms) q i n = refl
    body_nullable e at (union ms) q i n = refl
    body_nullable e at (enum es) q i n = cc
    body_nullable e at (interface oneway ms) q i n = cc

    by : (o : Option Entry) → slice_get (declarations files) k ≡ o → is_base_entry o ≡ true → elim o as (λ _. Bool) [ None ↦ false | Some e ↦ tree.is_enum_body (body e.tree) ] ≡ false
        → is_nullable_form (form_of (schema_of files outcomes) (base_of (declarations files) (Declared k))) ≡ true
    by None at i n = cc
    by (Some e) at i n =
        let composite = body_nullable e at (body e.tree) refl i n in
        let kind = kind-composite files outcomes e.file k (backing_of e.tree) (body e.tree) ∙ composite in
        ap is_nullable_form (form-there k e at) ∙ composite-nullable (form_at k e) kind

  -- what may be the element of a list may be null
  pub element-nullable : (r : Resolved) → tree.is_list_element (declarations files) r ≡ true → is_nullable_form (form_of (schema_of files outcomes) (base_of (declarations files) r)) ≡ true
  element-nullable (Builtin built_in.Boolean) h = cc
  element-nullable (Builtin built_in.Byte) h = cc
  element-nullable (Builtin built_in.Char) h = cc
  element-nullable (Builtin built_in.Int) h = cc
  element-nullable (Builtin built_in.Long) h = cc
  element-nullable (Builtin built_in.Text) h = refl
  element-nullable ListWord h = cc
  element-nullable LeftOut h = cc
  element-nullable (Declared k) h = composite-nullable (form_of (schema_of files outcomes) (base_of (declarations files) (Declared k))) (base-composite (Declared k) ∙ h)
