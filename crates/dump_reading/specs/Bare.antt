-- Trees without their offsets.
use Rattle.std.specs.Prelude.{List, map}
use Rattle.aidl_syntax.specs.declared.token.Token.{Token}
use Rattle.aidl_syntax.specs.declared.tree.NameTree.{NameTree}
use Rattle.aidl_syntax.specs.declared.tree.DottedTree.{DottedTree}
use Rattle.aidl_syntax.specs.declared.tree.TypeTree.{TypeTree}
use Rattle.aidl_syntax.specs.Trees.{Expr, Init, Param, Annot, Field, Constant, Enumerator, Arg, Method, Decl, Body}
use Rattle.aidl_syntax.specs.Trees.{Members, File, map_option}
use Rattle.aidl_syntax.specs.Trees.Expr.{literal, group, unary, binary, name}
use Rattle.aidl_syntax.specs.Trees.Init.{single, braces}
use Rattle.aidl_syntax.specs.Trees.Decl.{decl}
use Rattle.aidl_syntax.specs.Trees.Body.{enum, parcelable, union, interface}
use Rattle.aidl_syntax.specs.Trees.Members.{none, field, constant, method, nested}

abbrev pub bare_token : Token → Token
bare_token t = record { kind = t.kind; offset = 0 }

abbrev pub bare_name : NameTree → NameTree
bare_name n = record { offset = 0; name = n.name }

abbrev pub bare_dotted : DottedTree → DottedTree
bare_dotted d = record { offset = 0; name = d.name }

abbrev pub bare_type : TypeTree → TypeTree
bare_type t =
    record { offset = 0; name = bare_dotted t.name; element = map_option bare_dotted t.element; array = t.array }

abbrev pub bare_expr : Expr → Expr
bare_expr (literal o t) = literal 0 (bare_token t)
bare_expr (name o d) = name 0 (bare_dotted d)
bare_expr (group o a) = group 0 (bare_expr a)
bare_expr (unary o op a) = unary 0 op (bare_expr a)
bare_expr (binary o op a b) = binary 0 op (bare_expr a) (bare_expr b)

abbrev pub bare_init : Init → Init
bare_init (single e) = single (bare_expr e)
bare_init (braces o es) = braces 0 (map bare_expr es)

abbrev pub bare_param : Param → Param
bare_param p = record { offset = 0; name = map_option bare_name p.name; value = bare_init p.value }

abbrev pub bare_annot : Annot → Annot
bare_annot a = record { offset = 0; name = bare_name a.name; params = map bare_param a.params }

abbrev pub bare_annots : List Annot → List Annot
bare_annots annots = map bare_annot annots

abbrev pub bare_field : Field → Field
bare_field f = record {
  offset = 0;
  annots = bare_annots f.annots;
  ty = bare_type f.ty;
  name = bare_name f.name;
  initial = map_option bare_init f.initial;
}

abbrev pub bare_constant : Constant → Constant
bare_constant c = record {
  offset = 0;
  annots = bare_annots c.annots;
  ty = bare_type c.ty;
  name = bare_name c.name;
  value = bare_expr c.value;
}

abbrev pub bare_enumerator : Enumerator → Enumerator
bare_enumerator e = record { offset = 0; name = bare_name e.name; value = map_option bare_expr e.value }

abbrev pub bare_arg : Arg → Arg
bare_arg a =
    record { offset = 0; annots = bare_annots a.annots; way = a.way; ty = bare_type a.ty; name = bare_name a.name }

abbrev pub bare_method : Method → Method
bare_method m = record {
  offset = 0;
  annots = bare_annots m.annots;
  oneway = m.oneway;
  returned = map_option
      bare_type m.returned;
  name = bare_name m.name;
  args = map bare_arg m.args;
  id = map_option bare_token m.id;
}

abbrev mutual
  pub bare_decl : Decl → Decl
  bare_decl (decl o annots n body) = decl 0 (bare_annots annots) (bare_name n) (bare_body body)

  pub bare_body : Body → Body
  bare_body (parcelable ms) = parcelable (bare_members ms)
  bare_body (union ms) = union (bare_members ms)
  bare_body (enum es) = enum (map bare_enumerator es)
  bare_body (interface oneway ms) = interface oneway (bare_members ms)

  pub bare_members : Members → Members
  bare_members none = none
  bare_members (field f ms) = field (bare_field f) (bare_members ms)
  bare_members (constant c ms) = constant (bare_constant c) (bare_members ms)
  bare_members (method m ms) = method (bare_method m) (bare_members ms)
  bare_members (nested d ms) = nested (bare_decl d) (bare_members ms)

abbrev pub bare_file : File → File
bare_file f = record {
  offset = 0;
  «package» = map_option bare_dotted f.«package»;
  imports = map bare_dotted f.imports;
  declared = bare_decl f.declared;
}
