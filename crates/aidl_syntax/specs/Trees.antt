-- Trees without where their parts lie in memory, and how a tree is seen so. Equal trees are trees that are seen equal.
use Rattle.std.specs.Prelude.{ℕ, Bool, List, [], ◌∷◌, map, Option, Some, None}
use Rattle.aidl_syntax.specs.declared.token.Symbol.{Symbol}
use Rattle.aidl_syntax.specs.declared.token.Token.{Token}
use Rattle.aidl_syntax.specs.declared.tree.NameTree.{NameTree}
use Rattle.aidl_syntax.specs.declared.tree.DottedTree.{DottedTree}
use Rattle.aidl_syntax.specs.declared.tree.TypeTree.{TypeTree}
use Rattle.aidl_syntax.specs.declared.tree.WayTree.{WayTree}
use Rattle.aidl_syntax.specs.declared.tree.ExprKind.{ExprKind-F}
use Rattle.aidl_syntax.specs.declared.tree.ExprTree.{ExprTree, ExprTree-F, fold-ExprTree}
use Rattle.aidl_syntax.specs.declared.tree.InitTree.{InitTree}
use Rattle.aidl_syntax.specs.declared.tree.InitTree.TheVariants as inits
use Rattle.aidl_syntax.specs.declared.tree.ParamTree.{ParamTree}
use Rattle.aidl_syntax.specs.declared.tree.AnnotTree.{AnnotTree}
use Rattle.aidl_syntax.specs.declared.tree.FieldTree.{FieldTree}
use Rattle.aidl_syntax.specs.declared.tree.ConstantTree.{ConstantTree}
use Rattle.aidl_syntax.specs.declared.tree.EnumeratorTree.{EnumeratorTree}
use Rattle.aidl_syntax.specs.declared.tree.ArgTree.{ArgTree}
use Rattle.aidl_syntax.specs.declared.tree.MethodTree.{MethodTree}
use Rattle.aidl_syntax.specs.declared.tree.MemberTree.{MemberTree, MemberTree-F, fold-MemberTree}
use Rattle.aidl_syntax.specs.declared.tree.BodyTree.{BodyTree, BodyTree-F, fold-BodyTree}
use Rattle.aidl_syntax.specs.declared.tree.DeclTree.{DeclTree, DeclTree-F, fold-DeclTree}
use Rattle.aidl_syntax.specs.declared.tree.FileTree.{FileTree}

-- expressions, each with its offset
pub data Expr : Type 0 where
  literal : ℕ → Token → Expr
  name : ℕ → DottedTree → Expr
  group : ℕ → Expr → Expr
  unary : ℕ → Symbol → Expr → Expr
  binary : ℕ → Symbol → Expr → Expr → Expr

abbrev pub offset_of : Expr → ℕ
offset_of (literal offset t) = offset
offset_of (name offset d) = offset
offset_of (group offset a) = offset
offset_of (unary offset op a) = offset
offset_of (binary offset op a b) = offset

pub data Init : Type 0 where
  single : Expr → Init
  braces : ℕ → List Expr → Init

pub record Param : Type 0 where
  pub offset : ℕ
  pub name : Option NameTree
  pub value : Init

pub record Annot : Type 0 where
  pub offset : ℕ
  pub name : NameTree
  pub params : List Param

pub record Field : Type 0 where
  pub offset : ℕ
  pub annots : List Annot
  pub ty : TypeTree
  pub name : NameTree
  pub initial : Option Init

pub record Constant : Type 0 where
  pub offset : ℕ
  pub annots : List Annot
  pub ty : TypeTree
  pub name : NameTree
  pub value : Expr

pub record Enumerator : Type 0 where
  pub offset : ℕ
  pub name : NameTree
  pub value : Option Expr

pub record Arg : Type 0 where
  pub offset : ℕ
  pub annots : List Annot
  pub way : Option WayTree
  pub ty : TypeTree
  pub name : NameTree

pub record Method : Type 0 where
  pub offset : ℕ
  pub annots : List Annot
  pub oneway : Bool
  pub returned : Option TypeTree
  pub name : NameTree
  pub args : List Arg
  pub id : Option Token

mutual
  pub data Decl : Type 0 where
    decl : ℕ → List Annot → NameTree → Body → Decl

  pub data Body : Type 0 where
    parcelable : Members → Body
    union : Members → Body
    enum : List Enumerator → Body
    interface : Bool → Members → Body

  pub data Members : Type 0 where
    none : Members
    field : Field → Members → Members
    constant : Constant → Members → Members
    method : Method → Members → Members
    nested : Decl → Members → Members

pub record File : Type 0 where
  pub offset : ℕ
  pub «package» : Option DottedTree
  pub imports : List DottedTree
  pub declared : Decl

-- How trees are seen.

abbrev pub kind_step : ExprKind-F (ℕ → Expr) Expr → ℕ → Expr
kind_step (ExprKind-F.Literal t) offset = literal offset t
kind_step (ExprKind-F.Name d) offset = name offset d
kind_step (ExprKind-F.Group a) offset = group offset a.value
kind_step (ExprKind-F.Unary op a) offset = unary offset op a.value
kind_step (ExprKind-F.Binary op a b) offset = binary offset op a.value b.value

abbrev pub expr_step : ExprTree-F (ℕ → Expr) Expr → Expr
expr_step t = t.kind t.offset

abbrev pub expr_of : ExprTree → Expr
expr_of = fold-ExprTree (ℕ → Expr) Expr kind_step expr_step

abbrev pub exprs_of : List ExprTree → List Expr
exprs_of es = map expr_of es

abbrev pub init_of : InitTree → Init
init_of (inits.Single e) = single (expr_of e)
init_of (inits.Braces offset es) = braces offset (exprs_of es)

abbrev pub map_option : {A B : Type 0} → (A → B) → Option A → Option B
map_option f None = None
map_option f (Some x) = Some (f x)

abbrev pub param_of : ParamTree → Param
param_of p = record { offset = p.offset; name = p.name; value = init_of p.value }

abbrev pub annot_of : AnnotTree → Annot
annot_of a = record { offset = a.offset; name = a.name; params = map param_of a.params }

abbrev pub annots_of : List AnnotTree → List Annot
annots_of annots = map annot_of annots

abbrev pub field_of : FieldTree → Field
field_of f = record {
  offset = f.offset;
  annots = annots_of f.annots;
  ty = f.ty;
  name = f.name;
  initial = map_option init_of f.initial;
}

abbrev pub constant_of : ConstantTree → Constant
constant_of c =
    record { offset = c.offset; annots = annots_of c.annots; ty = c.ty; name = c.name; value = expr_of c.value }

abbrev pub enumerator_of : EnumeratorTree → Enumerator
enumerator_of e = record { offset = e.offset; name = e.name; value = map_option expr_of e.value }

abbrev pub arg_of : ArgTree → Arg
arg_of a = record { offset = a.offset; annots = annots_of a.annots; way = a.way; ty = a.ty; name = a.name }

abbrev pub method_of : MethodTree → Method
method_of m = record {
  offset = m.offset;
  annots = annots_of m.annots;
  oneway = m.oneway;
  returned = m.result;
  name = m.name;
  args = map arg_of m.args;
  id = m.id;
}

-- a member, before other members
abbrev pub member_step : MemberTree-F Body (Members → Members) Decl → Members → Members
member_step (MemberTree-F.Field f) ms = field (field_of f) ms
member_step (MemberTree-F.Constant c) ms = constant (constant_of c) ms
member_step (MemberTree-F.Method m) ms = method (method_of m) ms
member_step (MemberTree-F.Nested d) ms = nested d ms

-- members, before other members
abbrev pub ahead_of : List (Members → Members) → Members → Members
ahead_of [] ms = ms
ahead_of (m ∷ more) ms = m (ahead_of more ms)

abbrev pub body_step : BodyTree-F Body (Members → Members) Decl → Body
body_step (BodyTree-F.Parcelable ms) = parcelable (ahead_of ms none)
body_step (BodyTree-F.Union ms) = union (ahead_of ms none)
body_step (BodyTree-F.Enum es) = enum (map enumerator_of es)
body_step (BodyTree-F.Interface oneway ms) = interface oneway (ahead_of ms none)

abbrev pub decl_step : DeclTree-F Body (Members → Members) Decl → Decl
decl_step d = decl d.offset (annots_of d.annots) d.name d.body

abbrev pub decl_of : DeclTree → Decl
decl_of = fold-DeclTree Body (Members → Members) Decl body_step member_step decl_step

abbrev pub body_of : BodyTree → Body
body_of = fold-BodyTree Body (Members → Members) Decl body_step member_step decl_step

abbrev pub member_of : MemberTree → Members → Members
member_of = fold-MemberTree Body (Members → Members) Decl body_step member_step decl_step

abbrev pub members_of : List MemberTree → Members
members_of ms = ahead_of (map member_of ms) none

abbrev pub file_of : FileTree → File
file_of f = record { offset = f.offset; «package» = f.package; imports = f.imports; declared = decl_of f.decl }
