-- Rule 5 of a valid schema: the constants of a tree whose items have values that fit.
use Rattle.std.proofs.Common.{IsTrue, ◌≡◌, ℕ, Bool, true, false, not, ◌&&◌, ◌||◌, List, [], ◌∷◌, ◌++◌, map, Some, slice_get, refl, ap, ◌∙◌, subst}
use Rattle.std.specs.List.{list_all}
use Rattle.aidl_base.specs.declared.constant.Const.{Const, out-Const}
use Rattle.aidl_base.specs.declared.constant.Const.TheOpen.{Const-F}
use Rattle.aidl_schema.specs.declared.schema.Constant as made
use Rattle.aidl_schema.specs.declared.schema.Decl as schema
use Rattle.aidl_schema.specs.Constants.{is_single}
use Rattle.aidl_schema.specs.Same.{is_named}
use Rattle.aidl_schema.specs.Valid.{has_constants, has_value}
use Rattle.aidl_syntax.specs.Trees.{Annot, offset_of, Body, Enumerator}
use Rattle.aidl_syntax.specs.Trees.Body.{parcelable, union, enum, interface}
use Rattle.aidl_syntax.specs.Members.{Member, members, listed, body}
use Rattle.aidl_syntax.specs.Members.Member.{field, constant, method, enumerator, nested}
use Rattle.name_resolution.specs.declared.meaning.BuiltinName.{BuiltinName}
use Rattle.name_resolution.specs.declared.meaning.BuiltinName.TheVariants as built_in
use Rattle.name_resolution.specs.declared.meaning.Resolved.TheVariants.{Builtin, ListWord, LeftOut, Declared}
use Rattle.aidl_names.specs.Breaches.{breaches}
use Rattle.declared_names.specs.Declarations.{Entry, declarations}
use Rattle.aidl_syntax.specs.Sources.{Source}
use Rattle.const_values.specs.declared.wanted.Wanted.{Wanted}
use Rattle.type_shapes.specs.declared.shape.Shape.{Shape}
use Rattle.type_shapes.specs.declared.shape.Shape.TheVariants as shape
use Rattle.type_shapes.specs.Backing.{backing_of}
use Rattle.const_items.specs.Items.{of_entry, of_body, of_members, of_field, of_constant}
use Rattle.type_shapes.specs.Types.{wanted_of_builtin, wanted_one, shape_in}
use Rattle.type_rules.specs.TypeRules.{is_constant_type}
use Rattle.type_rules.specs.MethodRules.{is_oneway_body}
use Rattle.type_rules.specs.Unbroken.{AreUnbroken}
use Rattle.tree_schema.specs.Numbers.{Numbered}
use Rattle.tree_schema.specs.Parts.{listed_constants, bytes_of}
use Rattle.tree_schema.specs.SchemaOf.{schema_of, declared}
use Rattle.tree_schema.specs.Types.{base_of_builtin, typed}
use Rattle.tree_schema.specs.Values.{Outcomes, or_zero, value_at}
use Rattle.tree_schema.proofs.lemmas.walked.Lists.{all-from_at}
use Rattle.tree_schema.proofs.lemmas.walked.Placed.{Each, all-all}
use Rattle.tree_schema.proofs.named.MemberWeights.{constants-are}
use Rattle.tree_schema.proofs.lemmas.named.Numbers.{sorted-there}
use Rattle.tree_schema.proofs.lemmas.named.Schema.{schema-there}
use Rattle.tree_schema.proofs.typed.Uses.{IsFineMember, members-fine}
use Rattle.tree_schema.proofs.settled.Plain.{fits}
use Rattle.tree_schema.proofs.lemmas.settled.Settled.{AreSettled, Stands, value-there}

-- a value that fits a built-in type is one of the base
pub builtin-single : (S : List schema.Decl) (b : BuiltinName) (level : Const-F Const) → fits (wanted_of_builtin b) level ≡ true → is_single S (base_of_builtin b) level ≡ true
builtin-single S built_in.Boolean (Const-F.Truth b) h = refl
builtin-single S built_in.Boolean (Const-F.Number z) h = cc
builtin-single S built_in.Boolean (Const-F.Text x) h = cc
builtin-single S built_in.Boolean (Const-F.Members cs) h = cc
builtin-single S built_in.Byte (Const-F.Truth b) h = cc
builtin-single S built_in.Byte (Const-F.Number z) h = h
builtin-single S built_in.Byte (Const-F.Text x) h = cc
builtin-single S built_in.Byte (Const-F.Members cs) h = cc
builtin-single S built_in.Char (Const-F.Truth b) h = cc
builtin-single S built_in.Char (Const-F.Number z) h = h
builtin-single S built_in.Char (Const-F.Text x) h = cc
builtin-single S built_in.Char (Const-F.Members cs) h = cc
builtin-single S built_in.Int (Const-F.Truth b) h = cc
builtin-single S built_in.Int (Const-F.Number z) h = h
builtin-single S built_in.Int (Const-F.Text x) h = cc
builtin-single S built_in.Int (Const-F.Members cs) h = cc
builtin-single S built_in.Long (Const-F.Truth b) h = cc
builtin-single S built_in.Long (Const-F.Number z) h = h
builtin-single S built_in.Long (Const-F.Text x) h = cc
builtin-single S built_in.Long (Const-F.Members cs) h = cc
builtin-single S built_in.Text (Const-F.Truth b) h = cc
builtin-single S built_in.Text (Const-F.Number z) h = cc
builtin-single S built_in.Text (Const-F.Text x) h = h
builtin-single S built_in.Text (Const-F.Members cs) h = cc

unnamed : (b : BuiltinName) → not (is_named (base_of_builtin b)) ≡ true
unnamed built_in.Boolean = refl
unnamed built_in.Byte = refl
unnamed built_in.Char = refl
unnamed built_in.Int = refl
unnamed built_in.Long = refl
unnamed built_in.Text = refl

constant_fits : (S : List schema.Decl) (entries : List Entry) (annots : List Annot) (t : Shape) (level : Const-F Const) → not (is_constant_type t) ≡ false → fits (wanted_one entries t) level ≡ true
    → (not (is_named (typed entries annots t).base) && is_single S (typed entries annots t).base level) ≡ true
constant_fits S entries annots (shape.One (Builtin b)) level h f = rw (unnamed b, builtin-single S b level f) refl
constant_fits S entries annots (shape.One ListWord) level h f = cc
constant_fits S entries annots (shape.One LeftOut) level h f = cc
constant_fits S entries annots (shape.One (Declared k)) level h f = cc
constant_fits S entries annots (shape.Array r) level h f = cc
constant_fits S entries annots (shape.List r) level h f = cc
constant_fits S entries annots shape.Refused level h f = cc

pub each-parts : {X : Type 0} (P : X → Type 0) (xs ys : List X) → Each P (xs ++ ys) → Each P xs × Each P ys
each-parts P [] ys h = (tt, h)
each-parts P (x ∷ xs) ys h = let two = each-parts P xs ys h.1 in ((h.0, two.0), two.1)

no_constants : (S : List schema.Decl) (files : List Source) (outcomes : Outcomes) (file scope : ℕ) (es : List Enumerator)
    → list_all (λ c. has_value S c) (listed_constants files outcomes file scope (map enumerator es)) ≡ true
no_constants S files outcomes file scope [] = refl
no_constants S files outcomes file scope (e ∷ es) = no_constants S files outcomes file scope es

module _ (files : List Source) (outcomes : Outcomes) (all : AreSettled files outcomes) where
  members_fit : (file scope : ℕ) (oneway in_union later : Bool) (ms : List Member) → Each (IsFineMember files file scope oneway) ms → Each (Stands files) (of_members files file scope in_union later ms)
      → list_all (λ c. has_value (schema_of files outcomes) c) (listed_constants files outcomes file scope ms) ≡ true
  members_fit file scope oneway in_union later [] f h = refl
  members_fit file scope oneway in_union later (field g ∷ ms) f h =
      members_fit file scope oneway in_union (later || in_union) ms f.1 (each-parts (Stands files) (of_field files file scope later g) (of_members files file scope in_union (later || in_union) ms) h).1
  members_fit file scope oneway in_union later (method m ∷ ms) f h = members_fit file scope oneway in_union later ms f.1 h
  members_fit file scope oneway in_union later (enumerator e ∷ ms) f h = members_fit file scope oneway in_union later ms f.1 h
  members_fit file scope oneway in_union later (nested d ∷ ms) f h = members_fit file scope oneway in_union later ms f.1 h
  members_fit file scope oneway in_union later (constant c ∷ ms) f h =
      let S = schema_of files outcomes in
      let t = shape_in files file scope c.ty in
      let v = value-there files outcomes all (of_constant files file scope c) h.0 in
      let base = (typed (declarations files) c.annots t).base in
      let is : out-Const (or_zero (value_at files outcomes file (offset_of c.value))) ≡ out-Const v.0 = ap (λ o. out-Const (or_zero o)) v.1 in
      let fine = constant_fits S (declarations files) c.annots t (out-Const v.0) f.0.0.0.constant v.2 in
      let here : (not (is_named base) && is_single S base (out-Const (or_zero (value_at files outcomes file (offset_of c.value))))) ≡ true = ap (λ l. not (is_named base) && is_single S base l) is ∙ fine in
      rw (here, members_fit file scope oneway in_union later ms f.1 h.1) refl

  body_fits : (file scope : ℕ) (oneway : Bool) (w : Wanted) (b : Body) → Each (IsFineMember files file scope oneway) (members b) → Each (Stands files) (of_body files file scope w b)
      → list_all (λ c. has_value (schema_of files outcomes) c) (listed_constants files outcomes file scope (members b)) ≡ true
  body_fits file scope oneway w (parcelable ms) f h = members_fit file scope oneway false false (listed ms) f h
  body_fits file scope oneway w (union ms) f h = members_fit file scope oneway true false (listed ms) f h
  body_fits file scope oneway w (interface way ms) f h = members_fit file scope oneway false false (listed ms) f h
  body_fits file scope oneway w (enum es) f h = no_constants (schema_of files outcomes) files outcomes file scope es

  module _ (unbroken : breaches files ≡ []) (fine : AreUnbroken files) (stands : (k : ℕ) (e : Entry) → slice_get (declarations files) k ≡ Some e → Each (Stands files) (of_entry files k e)) where
    constants_at : (x : Numbered) → slice_get (declarations files) x.0 ≡ Some x.1 → list_all (λ c. has_value (schema_of files outcomes) c) (declared files outcomes x).constants ≡ true
    constants_at x at =
        let ms = members (body x.1.tree) in
        let listed_fit = body_fits x.1.file x.0 (is_oneway_body (body x.1.tree)) (backing_of x.1.tree) (body x.1.tree) (members-fine files unbroken fine x.0 x.1 at) (stands x.0 x.1 at) in
        ap (list_all (λ c. has_value (schema_of files outcomes) c)) (constants-are files outcomes x.1.file x.0 ms)
        ∙ all-all bytes_of (λ (c : made.Constant). has_value (schema_of files outcomes) c) (listed_constants files outcomes x.1.file x.0 ms) listed_fit

    -- Rule 5 of a valid schema.
    pub constants-hold : IsTrue (has_constants (schema_of files outcomes))
    unfolding has_constants
    constants-hold = all-from_at (λ d. list_all (λ c. has_value (schema_of files outcomes) c) d.constants) (schema_of files outcomes) (λ n d at.
        let x = schema-there files outcomes n d at in
        subst (λ (c : schema.Decl). list_all (λ c. has_value (schema_of files outcomes) c) c.constants ≡ true) x.2 (constants_at x.0 (sorted-there (declarations files) n x.0 x.1)))
