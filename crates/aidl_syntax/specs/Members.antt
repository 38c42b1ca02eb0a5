-- The members of a declaration as one list, in the order of the file (AOSP, "AIDL language": what stands in a body).
use Rattle.std.specs.Prelude.{List, [], ◌∷◌, map}
use Rattle.aidl_syntax.specs.declared.tree.NameTree.{NameTree}
use Rattle.aidl_syntax.specs.Trees.{Field, Constant, Enumerator, Method, Decl, Body, Members}
use Rattle.aidl_syntax.specs.Trees.Decl.{decl}
use Rattle.aidl_syntax.specs.Trees.Body.{parcelable, union, enum, interface}
use Rattle.aidl_syntax.specs.Trees.Members.{none, field as with_field, constant as with_constant}
use Rattle.aidl_syntax.specs.Trees.Members.{method as with_method, nested as with_nested}

-- fields, constants, methods, enumerators and nested declarations
pub data Member : Type 0 where
  field : Field → Member
  constant : Constant → Member
  method : Method → Member
  enumerator : Enumerator → Member
  nested : Decl → Member

-- members in braces, as a list
abbrev pub listed : Members → List Member
listed none = []
listed (with_field f ms) = field f ∷ listed ms
listed (with_constant c ms) = constant c ∷ listed ms
listed (with_method m ms) = method m ∷ listed ms
listed (with_nested d ms) = nested d ∷ listed ms

-- the members of a body, the enumerators of an enum among them
abbrev pub members : Body → List Member
members (parcelable ms) = listed ms
members (union ms) = listed ms
members (enum es) = map enumerator es
members (interface oneway ms) = listed ms

-- the name of a declaration, and what it declares
abbrev pub declared_name : Decl → NameTree
declared_name (decl offset annots name body) = name

abbrev pub body : Decl → Body
body (decl offset annots name inner) = inner

-- the name of a member
abbrev pub member_name : Member → NameTree
member_name (field f) = f.name
member_name (constant c) = c.name
member_name (method m) = m.name
member_name (enumerator e) = e.name
member_name (nested d) = declared_name d
