-- Smallest schemas on either side of each rule of validity, computed.
use Rattle.std.proofs.Common.{◌≡◌, ℕ, true, false, List, [], ◌∷◌, Option, Some, None, pos, refl, replicate}
use Rattle.std.specs.Prelude.{codes}
use Rattle.aidl_base.specs.declared.constant.Const.{Const, out-Const}
use Rattle.aidl_base.specs.declared.constant.Const.TheOpen.{Const-F}
use Rattle.aidl_base.specs.declared.name.Ident.{Ident}
use Rattle.aidl_base.specs.Reserved.{reserved_of}
use Rattle.aidl_schema.specs.declared.schema.Arg.{Arg}
use Rattle.aidl_schema.specs.declared.schema.Constant.{Constant}
use Rattle.aidl_schema.specs.declared.schema.Decl.{Decl}
use Rattle.aidl_schema.specs.declared.schema.Direction.{Direction}
use Rattle.aidl_schema.specs.declared.schema.Direction.TheVariants.{In, Out, InOut}
use Rattle.aidl_schema.specs.declared.schema.Enumerator.{Enumerator}
use Rattle.aidl_schema.specs.declared.schema.Field.{Field}
use Rattle.aidl_schema.specs.declared.schema.Method.{Method}
use Rattle.aidl_schema.specs.declared.schema.Kind.{Kind}
use Rattle.aidl_schema.specs.declared.schema.Kind.TheVariants.{Interface, Parcelable, Union, Enum}
use Rattle.aidl_schema.specs.declared.schema.Backing.TheVariants as backing
use Rattle.aidl_schema.specs.declared.schema.Base.{Base}
use Rattle.aidl_schema.specs.declared.schema.Base.TheVariants as base
use Rattle.aidl_schema.specs.declared.schema.Shape.TheVariants as shape
use Rattle.aidl_schema.specs.declared.schema.AidlType.{AidlType}
use Rattle.aidl_schema.specs.Containment.{reaches_within}
use Rattle.aidl_schema.specs.Sizes.{depth_within, nodes_within}
use Rattle.aidl_schema.specs.Valid.{IsValid, has_names, has_members, has_types, has_methods, has_constants, has_initializers, has_enums, has_bounds, is_within_limits, one_of}

abbrev ident : List ℕ → Ident
ident x = record { 0 = x }

-- a declaration with this name, of one part or of two
abbrev decl : List Ident → Option ℕ → Kind → Decl
decl parts outer k = record { name = record { 0 = parts }; outer = outer; kind = k; vintf = false; fixed = false; constants = [] }

abbrev top : List ℕ → Kind → Decl
top name k = decl (ident name ∷ []) None k

abbrev plain : Base → AidlType
plain b = record { base = b; shape = shape.One; nullable = false; heap = false; utf8 = false }

abbrev array : Base → AidlType
array b = record { base = b; shape = shape.Array; nullable = false; heap = false; utf8 = false }

abbrev field : List ℕ → AidlType → Field
field name t = record { name = ident name; ty = t; initial = None }

abbrev starting : List ℕ → AidlType → Const → Field
starting name t c = record { name = ident name; ty = t; initial = Some c }

abbrev arg : List ℕ → Direction → AidlType → Arg
arg name way t = record { name = ident name; way = way; ty = t }

abbrev method : List ℕ → ℕ → List Arg → Method
method name id args = record { name = ident name; id = id; oneway = false; result = None; args = args }

abbrev one_way : Option AidlType → List Arg → Method
one_way result args = record { name = ident (codes "f"); id = 0; oneway = true; result = result; args = args }

abbrev value : List ℕ → ℕ → Enumerator
value name n = record { name = ident name; value = pos n }

abbrev constant : List ℕ → Base → Const → Constant
constant name b c = record { name = ident name; ty = b; value = c }

abbrev with_constants : List Constant → Decl
with_constants cs = record { name = record { 0 = ident (codes "P") ∷ [] }; outer = None; kind = Parcelable []; vintf = false; fixed = false; constants = cs }

abbrev fixed : List ℕ → Kind → Decl
fixed name k = record { name = record { 0 = ident name ∷ [] }; outer = None; kind = k; vintf = false; fixed = true; constants = [] }

abbrev only : Kind → List Decl
only k = top (codes "P") k ∷ []

-- A schema that keeps every rule: enum E { ON }, interface I { void f(in int x); parcelable R { int n; } }, union U { E e; }.
abbrev kept : List Decl
kept = top (codes "E") (Enum backing.Byte (value (codes "ON") 127 ∷ []))
    ∷ top (codes "I") (Interface (method (codes "f") 16777114 (arg (codes "x") In (plain base.Int) ∷ []) ∷ []))
    ∷ decl (ident (codes "I") ∷ ident (codes "R") ∷ []) (Some 1) (Parcelable (field (codes "n") (plain base.Int) ∷ []))
    ∷ top (codes "U") (Union (field (codes "e") (one_of 0) ∷ []))
    ∷ []

whole : IsValid kept
unfolding has_names has_members has_types has_methods has_constants has_initializers has_enums has_bounds is_within_limits reaches_within depth_within nodes_within reserved_of
whole = record {
  names = refl;
  members = refl;
  types = refl;
  methods = refl;
  constants = refl;
  initializers = refl;
  enums = refl;
  bounds = refl;
  limits = refl;
}

-- Rule 1. No name; twins; not sorted; a reserved word; the name of a type.
nameless : has_names (decl [] None (Parcelable []) ∷ []) ≡ false
unfolding has_names reserved_of
nameless = refl

twins : has_names (top (codes "P") (Parcelable []) ∷ top (codes "P") (Parcelable []) ∷ []) ≡ false
unfolding has_names reserved_of
twins = refl

in_order : has_names (top (codes "P") (Parcelable []) ∷ top (codes "Q") (Parcelable []) ∷ []) ≡ true
unfolding has_names reserved_of
in_order = refl

not_in_order : has_names (top (codes "Q") (Parcelable []) ∷ top (codes "P") (Parcelable []) ∷ []) ≡ false
unfolding has_names reserved_of
not_in_order = refl

reserved_name : has_names (top (codes "in") (Parcelable []) ∷ []) ≡ false
unfolding has_names reserved_of
reserved_name = refl

type_name : has_names (top (codes "Map") (Parcelable []) ∷ []) ≡ false
unfolding has_names reserved_of
type_name = refl

-- `outer` inside an enum, and one of another name.
in_enum : has_names (top (codes "E") (Enum backing.Byte []) ∷ decl (ident (codes "E") ∷ ident (codes "R") ∷ []) (Some 0) (Parcelable []) ∷ []) ≡ false
unfolding has_names reserved_of
in_enum = refl

in_another : has_names (top (codes "E") (Union []) ∷ decl (ident (codes "F") ∷ ident (codes "R") ∷ []) (Some 0) (Parcelable []) ∷ []) ≡ false
unfolding has_names reserved_of
in_another = refl

-- Rule 2. Twin fields, twin methods, twin enumerators, a field named as a nested declaration, twin arguments, no identifier.
twin_fields : has_members (only (Parcelable (field (codes "a") (plain base.Int) ∷ field (codes "a") (plain base.Int) ∷ []))) ≡ false
unfolding has_members reserved_of
twin_fields = refl

twin_methods : has_members (only (Interface (method (codes "f") 0 [] ∷ method (codes "f") 1 [] ∷ []))) ≡ false
unfolding has_members reserved_of
twin_methods = refl

twin_enumerators : has_members (only (Enum backing.Int (value (codes "A") 0 ∷ value (codes "A") 1 ∷ []))) ≡ false
unfolding has_members reserved_of
twin_enumerators = refl

twin_nested : has_members (top (codes "P") (Parcelable (field (codes "R") (plain base.Int) ∷ [])) ∷ decl (ident (codes "P") ∷ ident (codes "R") ∷ []) (Some 0) (Parcelable []) ∷ []) ≡ false
unfolding has_members reserved_of
twin_nested = refl

twin_arguments : has_members (only (Interface (method (codes "f") 0 (arg (codes "x") In (plain base.Int) ∷ arg (codes "x") In (plain base.Int) ∷ []) ∷ []))) ≡ false
unfolding has_members reserved_of
twin_arguments = refl

no_identifier : has_members (only (Parcelable (field (codes "1") (plain base.Int) ∷ []))) ≡ false
unfolding has_members reserved_of
no_identifier = refl

sorted_constants : (c : Const) → has_members (with_constants (constant (codes "A") base.Int c ∷ constant (codes "B") base.Int c ∷ []) ∷ []) ≡ true
unfolding has_members reserved_of
sorted_constants c = refl

unsorted_constants : (c : Const) → has_members (with_constants (constant (codes "B") base.Int c ∷ constant (codes "A") base.Int c ∷ []) ∷ []) ≡ false
unfolding has_members reserved_of
unsorted_constants c = refl

-- Rule 3. A type of no declaration, an interface as a type, `heap` on an array, `utf8` on an int.
unknown : has_types (only (Parcelable (field (codes "a") (one_of 7) ∷ []))) ≡ false
unfolding has_types
unknown = refl

interface_type : has_types (top (codes "I") (Interface []) ∷ top (codes "P") (Parcelable (field (codes "a") (one_of 0) ∷ [])) ∷ []) ≡ false
unfolding has_types
interface_type = refl

heap_array : has_types (only (Parcelable (field (codes "a") (record { base = base.Named 0; shape = shape.Array; nullable = true; heap = true; utf8 = false }) ∷ []))) ≡ false
unfolding has_types
heap_array = refl

heap_record : has_types (only (Parcelable (field (codes "a") (record { base = base.Named 0; shape = shape.One; nullable = true; heap = true; utf8 = false }) ∷ []))) ≡ true
unfolding has_types
heap_record = refl

utf8_int : has_types (only (Parcelable (field (codes "a") (record { base = base.Int; shape = shape.One; nullable = false; heap = false; utf8 = true }) ∷ []))) ≡ false
unfolding has_types
utf8_int = refl

-- Rule 4. `out` on an int and on an array; a oneway method with a result and with an `out` argument; twin ids and the last id.
out_int : has_methods (only (Interface (method (codes "f") 0 (arg (codes "x") Out (plain base.Int) ∷ []) ∷ []))) ≡ false
unfolding has_methods
out_int = refl

out_array : has_methods (only (Interface (method (codes "f") 0 (arg (codes "x") Out (array base.Int) ∷ []) ∷ []))) ≡ true
unfolding has_methods
out_array = refl

oneway_result : has_methods (only (Interface (one_way (Some (plain base.Int)) [] ∷ []))) ≡ false
unfolding has_methods
oneway_result = refl

oneway_out : has_methods (only (Interface (one_way None (arg (codes "x") InOut (array base.Int) ∷ []) ∷ []))) ≡ false
unfolding has_methods
oneway_out = refl

oneway_in : has_methods (only (Interface (one_way None (arg (codes "x") In (array base.Int) ∷ []) ∷ []))) ≡ true
unfolding has_methods
oneway_in = refl

twin_ids : has_methods (only (Interface (method (codes "f") 3 [] ∷ method (codes "g") 3 [] ∷ []))) ≡ false
unfolding has_methods
twin_ids = refl

late_id : has_methods (only (Interface (method (codes "f") 16777115 [] ∷ []))) ≡ false
unfolding has_methods
late_id = refl

-- Rule 5. A number as an int and as a byte out of range, a text as an int, a character that no literal holds, a `Named` type.
int_constant : (c : Const) → out-Const c ≡ Const-F.Number (pos 128) → has_constants (with_constants (constant (codes "A") base.Int c ∷ []) ∷ []) ≡ true
unfolding has_constants
int_constant c is = rw is refl

byte_constant : (c : Const) → out-Const c ≡ Const-F.Number (pos 128) → has_constants (with_constants (constant (codes "A") base.Byte c ∷ []) ∷ []) ≡ false
unfolding has_constants
byte_constant c is = rw is refl

text_as_int : (c : Const) → out-Const c ≡ Const-F.Text (codes "x") → has_constants (with_constants (constant (codes "A") base.Int c ∷ []) ∷ []) ≡ false
unfolding has_constants
text_as_int c is = rw is refl

tab_character : (c : Const) → out-Const c ≡ Const-F.Number (pos 9) → has_constants (with_constants (constant (codes "A") base.Char c ∷ []) ∷ []) ≡ false
unfolding has_constants
tab_character c is = rw is refl

named_constant : (c : Const) → has_constants (with_constants (constant (codes "A") (base.Named 0) c ∷ []) ∷ []) ≡ false
unfolding has_constants
named_constant c = refl

-- Rule 6. A number as a boolean; 1 for an enum without it; a union without a field, and with two initializers.
number_as_boolean : (c : Const) → out-Const c ≡ Const-F.Number (pos 1) → has_initializers (only (Parcelable (starting (codes "a") (plain base.Boolean) c ∷ []))) ≡ false
unfolding has_initializers
number_as_boolean c is = rw is refl

enumerator : (c : Const) → out-Const c ≡ Const-F.Number (pos 1) → has_initializers (top (codes "E") (Enum backing.Byte (value (codes "A") 1 ∷ [])) ∷ top (codes "P") (Parcelable (starting (codes "a") (one_of 0) c ∷ [])) ∷ []) ≡ true
unfolding has_initializers
enumerator c is = rw is refl

no_enumerator : (c : Const) → out-Const c ≡ Const-F.Number (pos 1) → has_initializers (top (codes "E") (Enum backing.Byte (value (codes "A") 0 ∷ [])) ∷ top (codes "P") (Parcelable (starting (codes "a") (one_of 0) c ∷ [])) ∷ []) ≡ false
unfolding has_initializers
no_enumerator c is = rw is refl

empty_union : has_initializers (only (Union [])) ≡ false
unfolding has_initializers
empty_union = refl

second_starts : (c : Const) → out-Const c ≡ Const-F.Number (pos 1) → has_initializers (only (Union (field (codes "a") (plain base.Int) ∷ starting (codes "b") (plain base.Int) c ∷ []))) ≡ false
unfolding has_initializers
second_starts c is = rw is refl

-- Rule 7. An enum without an enumerator, one with a constant; a byte-backed enum ends at 127.
empty_enum : has_enums (only (Enum backing.Int [])) ≡ false
unfolding has_enums
empty_enum = refl

last_byte : has_enums (only (Enum backing.Byte (value (codes "A") 127 ∷ []))) ≡ true
unfolding has_enums
last_byte = refl

past_byte : has_enums (only (Enum backing.Byte (value (codes "A") 128 ∷ []))) ≡ false
unfolding has_enums
past_byte = refl

enum_constant : (c : Const) → has_enums (record { name = record { 0 = ident (codes "E") ∷ [] }; outer = None; kind = Enum backing.Int (value (codes "A") 0 ∷ []); vintf = false; fixed = false; constants = constant (codes "B") base.Int c ∷ [] } ∷ []) ≡ false
unfolding has_enums
enum_constant c = refl

-- Rule 8. `fixed` on an enum, on a parcelable of an int, of a String, of an array; and one that holds itself.
fixed_enum : has_bounds (fixed (codes "E") (Enum backing.Int (value (codes "A") 0 ∷ [])) ∷ []) ≡ false
unfolding has_bounds reaches_within depth_within nodes_within
fixed_enum = refl

fixed_int : has_bounds (fixed (codes "P") (Parcelable (field (codes "a") (plain base.Int) ∷ [])) ∷ []) ≡ true
unfolding has_bounds reaches_within depth_within nodes_within
fixed_int = refl

fixed_text : has_bounds (fixed (codes "P") (Parcelable (field (codes "a") (plain base.Text) ∷ [])) ∷ []) ≡ false
unfolding has_bounds reaches_within depth_within nodes_within
fixed_text = refl

fixed_array : has_bounds (fixed (codes "P") (Parcelable (field (codes "a") (array base.Int) ∷ [])) ∷ []) ≡ false
unfolding has_bounds reaches_within depth_within nodes_within
fixed_array = refl

of_fixed : has_bounds (fixed (codes "P") (Parcelable []) ∷ fixed (codes "Q") (Parcelable (field (codes "a") (one_of 0) ∷ [])) ∷ []) ≡ true
unfolding has_bounds reaches_within depth_within nodes_within
of_fixed = refl

of_unfixed : has_bounds (top (codes "P") (Parcelable []) ∷ fixed (codes "Q") (Parcelable (field (codes "a") (one_of 0) ∷ [])) ∷ []) ≡ false
unfolding has_bounds reaches_within depth_within nodes_within
of_unfixed = refl

holds_itself : has_bounds (only (Parcelable (field (codes "a") (one_of 0) ∷ []))) ≡ false
unfolding has_bounds reaches_within depth_within nodes_within
holds_itself = refl

-- Rule 9. 4,096 members and 255 arguments are the most.
abbrev fields : ℕ → List Decl
fields n = only (Parcelable (replicate n (field (codes "a") (plain base.Int))))

most_members : is_within_limits (fields 4096) ≡ true
unfolding is_within_limits
most_members = refl

more_members : is_within_limits (fields 4097) ≡ false
unfolding is_within_limits
more_members = refl

abbrev arguments : ℕ → List Decl
arguments n = only (Interface (method (codes "f") 0 (replicate n (arg (codes "x") In (plain base.Int))) ∷ []))

most_arguments : is_within_limits (arguments 255) ≡ true
unfolding is_within_limits
most_arguments = refl

more_arguments : is_within_limits (arguments 256) ≡ false
unfolding is_within_limits
more_arguments = refl
