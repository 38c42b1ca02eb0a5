-- Rule 7 of a valid schema: the enumerators of a tree whose items have values that fit.
use Rattle.std.proofs.Common.{IsTrue, ◌≡◌, ℕ, pos, Bool, true, false, not, ◌&&◌, ◌||◌, if◌then◌else◌, List, [], ◌∷◌, map, fold, Option, Some, None, slice_get, refl, ap, ◌∙◌, subst}
use Rattle.std.specs.List.{list_all, find}
use Rattle.aidl_base.specs.declared.constant.Const.{Const, out-Const}
use Rattle.aidl_base.specs.declared.constant.Const.TheOpen.{Const-F}
use Rattle.aidl_schema.specs.declared.schema.Enumerator as made
use Rattle.aidl_schema.specs.declared.schema.Decl as schema
use Rattle.aidl_schema.specs.declared.schema.Kind.TheVariants.{Enum}
use Rattle.aidl_schema.specs.Constants.{in_range}
use Rattle.aidl_schema.specs.Types.{form_of_kind}
use Rattle.aidl_schema.specs.Valid.{has_enums, is_enum_whole, is_enum, has_no_constant}
use Rattle.aidl_syntax.specs.declared.token.TokenKind.{TokenKind}
use Rattle.aidl_syntax.specs.declared.token.TokenKind.TheVariants as token
use Rattle.aidl_syntax.specs.Trees.{Annot, Param, Init, Expr, Body, Enumerator, Decl}
use Rattle.aidl_syntax.specs.Trees.Body.{parcelable, union, enum, interface}
use Rattle.aidl_syntax.specs.Trees.Expr.{literal, name, group, unary, binary}
use Rattle.aidl_syntax.specs.Trees.Init.{single, braces}
use Rattle.aidl_syntax.specs.Members.{members, body}
use Rattle.aidl_syntax.specs.Members.Member.{enumerator}
use Rattle.declared_names.specs.Declarations.{Entry, declarations}
use Rattle.aidl_syntax.specs.Sources.{Source}
use Rattle.const_values.specs.declared.wanted.Wanted.{Wanted}
use Rattle.const_values.specs.declared.wanted.Wanted.TheVariants as wanted
use Rattle.type_shapes.specs.Backing.{annots_of, backing_of, backing_by, backing_of_param, backing_of_init, backing_of_expr, backing_of_token, is_type, is_backing}
use Rattle.const_items.specs.Items.{of_entry, of_body, of_enumerator, of_enumerators, place_of}
use Rattle.tree_schema.specs.Parts.{enumerator_in, listed_constants, constants_in, put}
use Rattle.tree_schema.specs.SchemaOf.{schema_of, kind_of, backing_in}
use Rattle.tree_schema.specs.Values.{Outcomes, whole, or_zero, value_at}
use Rattle.tree_schema.proofs.lemmas.walked.Lists.{all-from_at}
use Rattle.tree_schema.proofs.lemmas.walked.Placed.{Each}
use Rattle.tree_schema.proofs.lemmas.named.Numbers.{sorted-there}
use Rattle.tree_schema.proofs.lemmas.named.Schema.{schema-there}
use Rattle.tree_schema.proofs.settled.Plain.{fits}
use Rattle.tree_schema.proofs.lemmas.settled.Settled.{AreSettled, Stands, value-there}

-- byte, int or long
abbrev pub is_integer : Wanted → Bool
is_integer wanted.Byte = true
is_integer wanted.Int = true
is_integer wanted.Long = true
is_integer _ = false

word_integer : (a b : Bool) → is_integer (if a then wanted.Int else (if b then wanted.Long else wanted.Byte)) ≡ true
word_integer true b = refl
word_integer false true = refl
word_integer false false = refl

token_integer : (k : TokenKind) → is_integer (backing_of_token k) ≡ true
token_integer (token.Str x) = word_integer _ _
token_integer (token.Number bits hexadecimal long) = refl
token_integer (token.Name x) = refl
token_integer (token.Word w) = refl
token_integer (token.Character c) = refl
token_integer (token.Mark s) = refl

expr_integer : (e : Expr) → is_integer (backing_of_expr e) ≡ true
expr_integer (literal offset t) = token_integer t.kind
expr_integer (name offset d) = refl
expr_integer (group offset a) = refl
expr_integer (unary offset op a) = refl
expr_integer (binary offset op a b) = refl

param_integer : (p : Option Param) → is_integer (backing_of_param p) ≡ true
param_integer None = refl
param_integer (Some p) = by p.value where
  by : (i : Init) → is_integer (backing_of_init i) ≡ true
  by (single e) = expr_integer e
  by (braces offset es) = refl

annot_integer : (a : Option Annot) → is_integer (backing_by a) ≡ true
annot_integer None = refl
annot_integer (Some a) = param_integer (find is_type a.params)

-- a backing is byte, int or long
pub backing-integer : (d : Decl) → is_integer (backing_of d) ≡ true
backing-integer d = annot_integer (find is_backing (annots_of d))

level_in_range : (w : Wanted) (es : List made.Enumerator) → is_integer w ≡ true → (c : Const) → fits w (out-Const c) ≡ true → in_range (form_of_kind (Enum (backing_in w) es)) (whole c) ≡ true
level_in_range w es h c f = by w (out-Const c) h f where
  by : (v : Wanted) (level : Const-F Const) → is_integer v ≡ true → fits v level ≡ true
      → in_range (form_of_kind (Enum (backing_in v) es)) (elim level [ Const-F.Truth b ↦ pos 0 | Const-F.Number z ↦ z | Const-F.Text x ↦ pos 0 | Const-F.Members cs ↦ pos 0 ]) ≡ true
  by wanted.Byte (Const-F.Number z) i g = g
  by wanted.Int (Const-F.Number z) i g = g
  by wanted.Long (Const-F.Number z) i g = g
  by wanted.Byte (Const-F.Truth b) i g = cc
  by wanted.Byte (Const-F.Text x) i g = cc
  by wanted.Byte (Const-F.Members cs) i g = cc
  by wanted.Int (Const-F.Truth b) i g = cc
  by wanted.Int (Const-F.Text x) i g = cc
  by wanted.Int (Const-F.Members cs) i g = cc
  by wanted.Long (Const-F.Truth b) i g = cc
  by wanted.Long (Const-F.Text x) i g = cc
  by wanted.Long (Const-F.Members cs) i g = cc
  by wanted.Boolean level i g = cc
  by wanted.Character level i g = cc
  by wanted.Text level i g = cc
  by (wanted.Enum k) level i g = cc
  by wanted.Nothing level i g = cc

-- an enum has an enumerator
abbrev pub has_enumerator : Body → Bool
has_enumerator (parcelable ms) = true
has_enumerator (union ms) = true
has_enumerator (enum []) = false
has_enumerator (enum (e ∷ es)) = true
has_enumerator (interface oneway ms) = true

no_constants : (files : List Source) (outcomes : Outcomes) (file scope : ℕ) (es : List Enumerator) → listed_constants files outcomes file scope (map enumerator es) ≡ []
no_constants files outcomes file scope [] = refl
no_constants files outcomes file scope (e ∷ es) = no_constants files outcomes file scope es

module _ (files : List Source) (outcomes : Outcomes) (all : AreSettled files outcomes) where
  enumerators_fit : (file scope : ℕ) (w : Wanted) (of : List made.Enumerator) → is_integer w ≡ true → (before : Option ℕ) (es : List Enumerator) → Each (Stands files) (of_enumerators file scope w before es)
      → list_all (λ x. in_range (form_of_kind (Enum (backing_in w) of)) x.value) (map (enumerator_in files outcomes file) es) ≡ true
  enumerators_fit file scope w of i before [] h = refl
  enumerators_fit file scope w of i before (e ∷ es) h =
      let v = value-there files outcomes all (of_enumerator file scope w before e) h.0 in
      let is : whole (or_zero (value_at files outcomes file (place_of e))) ≡ whole v.0 = ap (λ o. whole (or_zero o)) v.1 in
      let here : in_range (form_of_kind (Enum (backing_in w) of)) (whole (or_zero (value_at files outcomes file (place_of e)))) ≡ true =
      ap (in_range (form_of_kind (Enum (backing_in w) of))) is ∙ level_in_range w of i v.0 v.2 in
      rw (here, enumerators_fit file scope w of i (Some (place_of e)) es h.1) refl

  body_whole : (file scope : ℕ) (w : Wanted) (b : Body) → is_integer w ≡ true → has_enumerator b ≡ true → Each (Stands files) (of_body files file scope w b)
      → (is_enum_whole (kind_of files outcomes file scope w b) && (not (is_enum (kind_of files outcomes file scope w b)) || has_no_constant (constants_in files outcomes file scope (members b)))) ≡ true
  body_whole file scope w (parcelable ms) i f h = refl
  body_whole file scope w (union ms) i f h = refl
  body_whole file scope w (interface oneway ms) i f h = refl
  body_whole file scope w (enum []) i f h = cc
  body_whole file scope w (enum (e ∷ es)) i f h =
      let values = enumerators_fit file scope w (map (enumerator_in files outcomes file) (e ∷ es)) i None (e ∷ es) h in
      let none : constants_in files outcomes file scope (map enumerator (e ∷ es)) ≡ [] = ap (fold put []) (no_constants files outcomes file scope (e ∷ es)) in
      rw (values, none) refl

  module _ (stands : (k : ℕ) (e : Entry) → slice_get (declarations files) k ≡ Some e → Each (Stands files) (of_entry files k e))
      (filled : (k : ℕ) (e : Entry) → slice_get (declarations files) k ≡ Some e → has_enumerator (body e.tree) ≡ true) where
    -- Rule 7 of a valid schema.
    pub enums-hold : IsTrue (has_enums (schema_of files outcomes))
    unfolding has_enums
    enums-hold = all-from_at (λ d. is_enum_whole d.kind && (not (is_enum d.kind) || has_no_constant d.constants)) (schema_of files outcomes) (λ n d at.
        let x = schema-there files outcomes n d at in
        let there = sorted-there (declarations files) n x.0 x.1 in
        let here = body_whole x.0.1.file x.0.0 (backing_of x.0.1.tree) (body x.0.1.tree) (backing-integer x.0.1.tree) (filled x.0.0 x.0.1 there) (stands x.0.0 x.0.1 there) in
        subst (λ (c : schema.Decl). (is_enum_whole c.kind && (not (is_enum c.kind) || has_no_constant c.constants)) ≡ true) x.2 here)
