-- Walks through a tree in the order of the file, and what a tree has of places, names and literals.
use Rattle.std.specs.Prelude.{ℕ, List, [], ◌∷◌, ◌++◌, Option, Some, None}
use Rattle.aidl_base.specs.declared.name.Ident.{Ident}
use Rattle.aidl_syntax.specs.declared.token.Token.{Token}
use Rattle.aidl_syntax.specs.declared.tree.NameTree.{NameTree}
use Rattle.aidl_syntax.specs.declared.tree.DottedTree.{DottedTree}
use Rattle.aidl_syntax.specs.declared.tree.TypeTree.{TypeTree}
use Rattle.aidl_syntax.specs.Trees.{Expr, offset_of, Init, Param, Annot, Field, Constant, Enumerator, Arg, Method}
use Rattle.aidl_syntax.specs.Trees.{Decl, Body, Members, File}
use Rattle.aidl_syntax.specs.Trees.Expr.{literal, name, group, unary, binary}
use Rattle.aidl_syntax.specs.Trees.Init.{single, braces}
use Rattle.aidl_syntax.specs.Trees.Decl.{decl}
use Rattle.aidl_syntax.specs.Trees.Body.{parcelable, union, enum, interface}
use Rattle.aidl_syntax.specs.Trees.Members.{none, field, constant, method, nested}

-- What a walk collects at each kind of leaf: a name, a dotted name, an expression, the number of a method, and where a
-- part begins by `@` or `{`.
pub record Walk (A : Type 0) : Type 0 where
  pub named : NameTree → List A
  pub dotted : DottedTree → List A
  pub valued : Expr → List A
  pub numbered : Token → List A
  pub marked : ℕ → List A

abbrev pub of_option : {A B : Type 0} → (A → List B) → Option A → List B
of_option f None = []
of_option f (Some x) = f x

abbrev pub of_each : {A B : Type 0} → (A → List B) → List A → List B
of_each f [] = []
of_each f (x ∷ xs) = f x ++ of_each f xs

abbrev pub in_type : {A : Type 0} → Walk A → TypeTree → List A
in_type w t = w.dotted t.name ++ of_option w.dotted t.element

abbrev pub in_init : {A : Type 0} → Walk A → Init → List A
in_init w (single e) = w.valued e
in_init w (braces o es) = w.marked o ++ of_each w.valued es

abbrev pub in_param : {A : Type 0} → Walk A → Param → List A
in_param w p = of_option w.named p.name ++ in_init w p.value

abbrev pub in_annot : {A : Type 0} → Walk A → Annot → List A
in_annot w a = w.marked a.offset ++ (w.named a.name ++ of_each (in_param w) a.params)

abbrev pub in_annots : {A : Type 0} → Walk A → List Annot → List A
in_annots w annots = of_each (in_annot w) annots

abbrev pub in_field : {A : Type 0} → Walk A → Field → List A
in_field w f = in_annots w f.annots ++ (in_type w f.ty ++ (w.named f.name ++ of_option (in_init w) f.initial))

abbrev pub in_constant : {A : Type 0} → Walk A → Constant → List A
in_constant w c = in_annots w c.annots ++ (in_type w c.ty ++ (w.named c.name ++ w.valued c.value))

abbrev pub in_enumerator : {A : Type 0} → Walk A → Enumerator → List A
in_enumerator w e = w.named e.name ++ of_option w.valued e.value

abbrev pub in_arg : {A : Type 0} → Walk A → Arg → List A
in_arg w a = in_annots w a.annots ++ (in_type w a.ty ++ w.named a.name)

abbrev pub in_method : {A : Type 0} → Walk A → Method → List A
in_method w m = in_annots w m.annots ++ (of_option (in_type w) m.returned
    ++ (w.named m.name ++ (of_each (in_arg w) m.args ++ of_option w.numbered m.id)))

abbrev mutual
  pub in_decl : {A : Type 0} → Walk A → Decl → List A
  in_decl w (decl o annots n body) = in_annots w annots ++ (w.named n ++ in_body w body)

  pub in_body : {A : Type 0} → Walk A → Body → List A
  in_body w (parcelable ms) = in_members w ms
  in_body w (union ms) = in_members w ms
  in_body w (enum es) = of_each (in_enumerator w) es
  in_body w (interface oneway ms) = in_members w ms

  pub in_members : {A : Type 0} → Walk A → Members → List A
  in_members w none = []
  in_members w (field f ms) = in_field w f ++ in_members w ms
  in_members w (constant c ms) = in_constant w c ++ in_members w ms
  in_members w (method m ms) = in_method w m ++ in_members w ms
  in_members w (nested d ms) = in_decl w d ++ in_members w ms

abbrev pub in_file : {A : Type 0} → Walk A → File → List A
in_file w f = of_option w.dotted f.package ++ (of_each w.dotted f.imports ++ in_decl w f.declared)

-- an expression to its leaves
abbrev pub in_expr : {A : Type 0} → (Token → List A) → (DottedTree → List A) → Expr → List A
in_expr value dotted (literal o t) = value t
in_expr value dotted (name o d) = dotted d
in_expr value dotted (group o a) = in_expr value dotted a
in_expr value dotted (unary o op a) = in_expr value dotted a
in_expr value dotted (binary o op a b) = in_expr value dotted a ++ in_expr value dotted b

-- The walks.

-- the places: of each name, of each dotted name, of each expression that stands in no other, of the number of a method,
-- and of each annotation and brace list
abbrev pub placing : Walk ℕ
placing = record {
  named = λ n. n.offset ∷ [];
  dotted = λ d. d.offset ∷ [];
  valued = λ e. offset_of e ∷ [];
  numbered = λ t. t.offset ∷ [];
  marked = λ o. o ∷ [];
}

-- the identifiers, with each part of each dotted name
abbrev pub naming : Walk Ident
naming = record {
  named = λ n. n.name ∷ [];
  dotted = λ d. d.name.0;
  valued = in_expr (λ t. []) (λ d. d.name.0);
  numbered = λ t. [];
  marked = λ o. [];
}

-- the dotted names
abbrev pub joining : Walk DottedTree
joining = record {
  named = λ n. [];
  dotted = λ d. d ∷ [];
  valued = in_expr (λ t. []) (λ d. d ∷ []);
  numbered = λ t. [];
  marked = λ o. [];
}

-- the literals, and the numbers of methods
abbrev pub counting : Walk Token
counting = record {
  named = λ n. [];
  dotted = λ d. [];
  valued = in_expr (λ t. t ∷ []) (λ d. []);
  numbered = λ t. t ∷ [];
  marked = λ o. [];
}

unfoldable pub places_of : File → List ℕ
places_of = in_file placing

unfoldable pub names_of : File → List Ident
names_of = in_file naming

unfoldable pub dotted_of : File → List DottedTree
dotted_of = in_file joining

unfoldable pub literals_of : File → List Token
literals_of = in_file counting
