-- What the files of a dump stand for: the tree of each declaration of a schema, its offsets 0 (own).
use Rattle.std.specs.Prelude.{ℕ, zero, suc, ℤ, pos, negsuc, Bool, true, false, if◌then◌else◌, List, [], ◌∷◌, ◌++◌}
use Rattle.std.specs.Prelude.{length, map, Option, Some, None, codes, slice_get}
use Rattle.std.specs.List.{find}
use Rattle.std.specs.Ordering.{int_eq}
use Rattle.aidl_base.specs.declared.name.Ident.{Ident}
use Rattle.aidl_base.specs.declared.constant.Const.{Const, out-Const}
use Rattle.aidl_base.specs.declared.constant.Const.TheOpen.{Const-F}
use Rattle.aidl_base.specs.declared.reserved.Reserved.TheVariants as word
use Rattle.aidl_syntax.specs.declared.token.Symbol.TheVariants as mark
use Rattle.aidl_syntax.specs.declared.token.TokenKind.{TokenKind}
use Rattle.aidl_syntax.specs.declared.token.TokenKind.TheVariants as kind
use Rattle.aidl_syntax.specs.declared.tree.NameTree.{NameTree}
use Rattle.aidl_syntax.specs.declared.tree.DottedTree.{DottedTree}
use Rattle.aidl_syntax.specs.declared.tree.TypeTree.{TypeTree}
use Rattle.aidl_syntax.specs.declared.tree.WayTree.{WayTree}
use Rattle.aidl_syntax.specs.declared.tree.WayTree.TheVariants as ways
use Rattle.aidl_syntax.specs.Trees as tree
use Rattle.aidl_syntax.specs.Trees.{map_option}
use Rattle.aidl_syntax.specs.Trees.Expr.{literal, unary, name as expr_name}
use Rattle.aidl_syntax.specs.Trees.Init.{single, braces}
use Rattle.aidl_syntax.specs.Trees.Decl.{decl}
use Rattle.aidl_syntax.specs.Trees.Body.{enum, parcelable, union, interface}
use Rattle.aidl_syntax.specs.Trees.Members.{none, field, constant, method, nested}
use Rattle.aidl_schema.specs.declared.schema.Decl.{Decl}
use Rattle.aidl_schema.specs.declared.schema.Field.{Field}
use Rattle.aidl_schema.specs.declared.schema.Constant.{Constant}
use Rattle.aidl_schema.specs.declared.schema.Enumerator.{Enumerator}
use Rattle.aidl_schema.specs.declared.schema.Arg.{Arg}
use Rattle.aidl_schema.specs.declared.schema.Method.{Method}
use Rattle.aidl_schema.specs.declared.schema.Direction.{Direction}
use Rattle.aidl_schema.specs.declared.schema.Direction.TheVariants as direction
use Rattle.aidl_schema.specs.declared.schema.Kind.{Kind}
use Rattle.aidl_schema.specs.declared.schema.Kind.TheVariants.{Interface, Parcelable, Union, Enum}
use Rattle.aidl_schema.specs.declared.schema.Backing.{Backing}
use Rattle.aidl_schema.specs.declared.schema.Backing.TheVariants as backing
use Rattle.aidl_schema.specs.declared.schema.Base.{Base}
use Rattle.aidl_schema.specs.declared.schema.Base.TheVariants as base
use Rattle.aidl_schema.specs.declared.schema.Shape.{Shape}
use Rattle.aidl_schema.specs.declared.schema.Shape.TheVariants as shape
use Rattle.aidl_schema.specs.declared.schema.AidlType.{AidlType}
use Rattle.aidl_schema.specs.Types.{is_one}
use Rattle.aidl_schema.specs.Names.{enumerators_of, last_part, without_last}
use Rattle.api_dump.specs.Pieces.{ident}
use Rattle.api_dump.specs.Types.{base_name}
use Rattle.api_dump.specs.Values.{character_of, truth}
use Rattle.api_dump.specs.Declarations.{backing_text, inside}

abbrev pub name_tree : Ident → NameTree
name_tree i = record { offset = 0; name = i }

abbrev pub dotted_tree : List Ident → DottedTree
dotted_tree is = record { offset = 0; name = record { 0 = is } }

-- `NAME`, `NAME[]` or `List<NAME>`
abbrev pub type_tree : Shape → List Ident → TypeTree
type_tree shape.One is = record { offset = 0; name = dotted_tree is; element = None; array = false }
type_tree shape.Array is = record { offset = 0; name = dotted_tree is; element = None; array = true }
type_tree shape.List is = record {
  offset = 0;
  name = dotted_tree (ident (codes "List") ∷ []);
  element = Some (dotted_tree is);
  array = false;
}

-- Values.

abbrev pub token_tree : TokenKind → tree.Expr
token_tree k = literal 0 (record { kind = k; offset = 0 })

abbrev pub decimal_tree : Bool → ℤ → tree.Expr
decimal_tree long (pos n) = token_tree (kind.Number n false long)
decimal_tree long (negsuc n) = unary 0 mark.Minus (token_tree (kind.Number (suc n) false long))

abbrev pub long_tree : ℤ → tree.Expr
long_tree n = if int_eq n (negsuc 9223372036854775807) then token_tree (kind.Number 9223372036854775808 true false)
    else decimal_tree true n

abbrev pub backing_tree : Backing → ℤ → tree.Expr
backing_tree backing.Byte n = decimal_tree false n
backing_tree backing.Int n = decimal_tree false n
backing_tree backing.Long n = long_tree n

abbrev pub name_where : Option Enumerator → List Ident
name_where None = []
name_where (Some e) = e.name ∷ []

-- the parts of the name of an enum's value
abbrev pub named_parts : Option Decl → ℤ → List Ident
named_parts None n = []
named_parts (Some d) n = d.name.0 ++ name_where (find (λ e. int_eq e.value n) (enumerators_of d.kind))

abbrev pub number_tree : List Decl → Base → ℤ → tree.Expr
number_tree S base.Char n = token_tree (kind.Character (character_of n))
number_tree S base.Long n = long_tree n
number_tree S (base.Named k) n = expr_name 0 (dotted_tree (named_parts (slice_get S k) n))
number_tree S _ n = decimal_tree false n

abbrev pub single_tree : List Decl → Base → Const-F Const → tree.Expr
single_tree S b (Const-F.Truth x) = token_tree (kind.Word (truth x))
single_tree S b (Const-F.Number n) = number_tree S b n
single_tree S b (Const-F.Text x) = token_tree (kind.Str x)
single_tree S b (Const-F.Members cs) = token_tree (kind.Str [])

abbrev pub value_tree : List Decl → Base → Const → tree.Expr
value_tree S b c = single_tree S b (out-Const c)

abbrev pub brace_trees : List Decl → Base → Const-F Const → List tree.Expr
brace_trees S b (Const-F.Members cs) = map (λ c. value_tree S b c) cs
brace_trees S b _ = []

abbrev pub initial_tree : List Decl → AidlType → Const → tree.Init
initial_tree S t c = if is_one t.shape then single (value_tree S t.base c)
    else braces 0 (brace_trees S t.base (out-Const c))

-- Annotations.

abbrev pub plain_tree : List ℕ → tree.Annot
plain_tree text = record { offset = 0; name = name_tree (ident text); params = [] }

abbrev pub flag_trees : List ℕ → Bool → List tree.Annot
flag_trees text false = []
flag_trees text true = plain_tree text ∷ []

-- `@nullable(heap=true)`
abbrev pub heap_tree : tree.Annot
heap_tree = record {
  offset = 0;
  name = name_tree (ident (codes "nullable"));
  params = record {
    offset = 0;
    name = Some (name_tree (ident (codes "heap")));
    value = single (token_tree (kind.Word word.True));
  } ∷ [];
}

abbrev pub nullable_trees : Bool → Bool → List tree.Annot
nullable_trees false heap = []
nullable_trees true false = plain_tree (codes "nullable") ∷ []
nullable_trees true true = heap_tree ∷ []

abbrev pub mark_trees : AidlType → List tree.Annot
mark_trees t = nullable_trees t.nullable t.heap ++ flag_trees (codes "utf8InCpp") t.utf8

-- `@Backing(type="B")`
abbrev pub backed_tree : Backing → tree.Annot
backed_tree b = record {
  offset = 0;
  name = name_tree (ident (codes "Backing"));
  params = record {
    offset = 0;
    name = Some (name_tree (ident (codes "type")));
    value = single (token_tree (kind.Str (backing_text b)));
  } ∷ [];
}

abbrev pub backing_trees : Kind → List tree.Annot
backing_trees (Enum b es) = backed_tree b ∷ []
backing_trees _ = []

abbrev pub annotation_trees : Decl → List tree.Annot
annotation_trees d = backing_trees d.kind
    ++ (flag_trees (codes "FixedSize") d.fixed ++ flag_trees (codes "VintfStability") d.vintf)

-- Members.

abbrev pub field_tree : List Decl → Field → tree.Field
field_tree S f = record {
  offset = 0;
  annots = mark_trees f.ty;
  ty = type_tree f.ty.shape (base_name S f.ty.base);
  name = name_tree f.name;
  initial = map_option (λ c. initial_tree S f.ty c) f.initial;
}

abbrev pub constant_tree : List Decl → Constant → tree.Constant
constant_tree S c = record {
  offset = 0;
  annots = [];
  ty = type_tree shape.One (base_name S c.ty);
  name = name_tree c.name;
  value = value_tree S c.ty c.value;
}

abbrev pub enumerator_tree : Backing → Enumerator → tree.Enumerator
enumerator_tree b e = record { offset = 0; name = name_tree e.name; value = Some (backing_tree b e.value) }

abbrev pub way_tree : Direction → WayTree
way_tree direction.In = ways.In
way_tree direction.Out = ways.Out
way_tree direction.InOut = ways.InOut

abbrev pub arg_tree : List Decl → Arg → tree.Arg
arg_tree S a = record {
  offset = 0;
  annots = mark_trees a.ty;
  way = Some (way_tree a.way);
  ty = type_tree a.ty.shape (base_name S a.ty.base);
  name = name_tree a.name;
}

abbrev pub returned_annots : Option AidlType → List tree.Annot
returned_annots None = []
returned_annots (Some t) = mark_trees t

abbrev pub returned_tree : List Decl → Option AidlType → Option TypeTree
returned_tree S None = None
returned_tree S (Some t) = Some (type_tree t.shape (base_name S t.base))

abbrev pub method_tree : List Decl → Method → tree.Method
method_tree S m = record {
  offset = 0;
  annots = returned_annots m.result;
  oneway = m.oneway;
  returned = returned_tree S m.result;
  name = name_tree m.name;
  args = map (λ a. arg_tree S a) m.args;
  id = Some (record { kind = kind.Number m.id false false; offset = 0 });
}

-- Declarations.

-- items before other members
abbrev pub each_before : {X : Type 0} → (X → tree.Members → tree.Members) → List X → tree.Members → tree.Members
each_before add [] ms = ms
each_before add (x ∷ xs) ms = add x (each_before add xs ms)

-- the constants, before what stands last
abbrev pub constants_before : List Decl → Decl → tree.Members → tree.Members
constants_before S d last = each_before (λ c ms. constant (constant_tree S c) ms) d.constants last

abbrev pub body_tree : List Decl → Kind → tree.Members → tree.Body
body_tree S (Interface methods) ms = interface false (each_before (λ m ms. method (method_tree S m) ms) methods ms)
body_tree S (Parcelable fs) ms = parcelable (each_before (λ f ms. field (field_tree S f) ms) fs ms)
body_tree S (Union fs) ms = union (each_before (λ f ms. field (field_tree S f) ms) fs ms)
body_tree S (Enum b es) ms = enum (map (λ e. enumerator_tree b e) es)

-- a declaration, with the declarations that stand last in it
abbrev pub decl_tree : List Decl → Decl → tree.Members → tree.Decl
decl_tree S d last = decl 0 (annotation_trees d) (name_tree (ident (last_part d.name.0)))
    (body_tree S d.kind (constants_before S d last))

abbrev pub decl_before : List Decl → Option Decl → tree.Members → tree.Members → tree.Members
decl_before S None last ms = ms
decl_before S (Some d) last ms = nested (decl_tree S d last) ms

-- the declarations inside one, with so many levels of further ones in them
abbrev pub nested_trees : List Decl → ℕ → ℕ → tree.Members
nested_trees S zero n = none
nested_trees S (suc levels) n =
    each_before (λ m ms. decl_before S (slice_get S m) (nested_trees S levels m) ms) (inside S n) none

abbrev pub package_tree : List Ident → Option DottedTree
package_tree [] = None
package_tree (i ∷ is) = Some (dotted_tree (i ∷ is))

-- the file of a top-level declaration
abbrev pub file_tree : List Decl → ℕ × Decl → tree.File
file_tree S x = record {
  offset = 0;
  «package» = package_tree (without_last x.1.name.0);
  imports = [];
  declared = decl_tree S x.1 (nested_trees S (length S) x.0);
}
