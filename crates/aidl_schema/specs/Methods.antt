-- Which types stand where in a declaration, and what a method may be: rules 3 and 4 of a valid schema (own).
use Rattle.std.specs.Prelude.{ℕ, nat_eq, nat_le, Bool, true, false, not, ◌&&◌, ◌||◌, List, map, Option, Some, None}
use Rattle.std.specs.Prelude.{is_none}
use Rattle.std.specs.List.{list_all}
use Rattle.aidl_schema.specs.declared.schema.Arg.{Arg}
use Rattle.aidl_schema.specs.declared.schema.Decl.{Decl}
use Rattle.aidl_schema.specs.declared.schema.Direction.{Direction}
use Rattle.aidl_schema.specs.declared.schema.Direction.TheVariants.{In, Out, InOut}
use Rattle.aidl_schema.specs.declared.schema.Field.{Field}
use Rattle.aidl_schema.specs.declared.schema.Method.{Method}
use Rattle.aidl_schema.specs.declared.schema.AidlType.{AidlType}
use Rattle.aidl_schema.specs.Constants.{is_string}
use Rattle.aidl_schema.specs.Containment.{fields_of, is_composite}
use Rattle.aidl_schema.specs.Names.{are_distinct, methods_of}
use Rattle.aidl_schema.specs.Types.{form_of, is_one, is_type}

-- A type is one of the schema (E4, E5, E14, E16), and `utf8` stands only where the base is String (E13).
abbrev pub is_whole_type : List Decl → AidlType → Bool
is_whole_type S t = is_type S t && (not t.utf8 || is_string t.base)

-- `heap` stands only on a nullable field of shape one whose base is a parcelable or union (E14).
abbrev pub may_be_on_heap : List Decl → AidlType → Bool
may_be_on_heap S t = t.nullable && (is_one t.shape && is_composite (form_of S t.base))

-- the type of a field
abbrev pub is_field_type : List Decl → Field → Bool
is_field_type S f = is_whole_type S f.ty && (not f.ty.heap || may_be_on_heap S f.ty)

-- the type of an argument or of a method's result
abbrev pub is_passed_type : List Decl → AidlType → Bool
is_passed_type S t = is_whole_type S t && not t.heap

-- the result of a method, where it has one
abbrev pub is_result_type : List Decl → Option AidlType → Bool
is_result_type S None = true
is_result_type S (Some t) = is_passed_type S t

-- the result and the arguments of a method
abbrev pub has_method_types : List Decl → Method → Bool
has_method_types S m = is_result_type S m.result && list_all (λ a. is_passed_type S a.ty) m.args

-- the fields and the methods of a declaration
abbrev pub has_decl_types : List Decl → Decl → Bool
has_decl_types S d =
    list_all (λ f. is_field_type S f) (fields_of d.kind) && list_all (λ m. has_method_types S m) (methods_of d.kind)

-- Rule 3. Each type in a declaration is one of the schema.
unfoldable pub has_types : List Decl → Bool
has_types S = list_all (λ d. has_decl_types S d) S

-- the direction `in`
abbrev pub is_in_way : Direction → Bool
is_in_way In = true
is_in_way Out = false
is_in_way InOut = false

-- `out` and `inout` stand only on an argument of array or List shape, or of a parcelable or union (E17).
abbrev pub has_way : List Decl → Arg → Bool
has_way S a = is_in_way a.way || (not (is_one a.ty.shape) || is_composite (form_of S a.ty.base))

-- A oneway method returns nothing, and has arguments of direction `in` alone (E18).
abbrev pub is_oneway_well : Method → Bool
is_oneway_well m = not m.oneway || (is_none m.result && list_all (λ a. is_in_way a.way) m.args)

-- the highest id of a method; its transaction code is one more
abbrev pub last_id : ℕ
last_id = 16777114

-- The ids of an interface are distinct and at most the last one (E19), and no method breaks E17 or E18.
abbrev pub has_decl_methods : List Decl → Decl → Bool
has_decl_methods S d = list_all
    (λ m. list_all (λ a. has_way S a) m.args && (is_oneway_well m && nat_le m.id last_id)) (methods_of d.kind)
    && are_distinct nat_eq (map (λ m. m.id) (methods_of d.kind))

-- Rule 4. The methods of each interface.
unfoldable pub has_methods : List Decl → Bool
has_methods S = list_all (λ d. has_decl_methods S d) S
