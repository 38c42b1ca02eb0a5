-- The fields, methods, enumerators and constants of a declaration in the schema.
use Rattle.std.specs.Prelude.{ℕ, ◌+◌, nat_le, Bool, ◌||◌, if◌then◌else◌, List, [], ◌∷◌, map, Option, Some, None}
use Rattle.std.specs.Cmp.Lexicographic.{slice_cmp}
use Rattle.std.specs.List.{fold}
use Rattle.std.specs.Ordering.{nat_cmp, match_ordering}
use Rattle.std.specs.Str.{encode_utf8_all}
use Rattle.std.specs.declared.cmp.Ordering.{Ordering}
use Rattle.aidl_syntax.specs.declared.tree.WayTree.{WayTree}
use Rattle.aidl_syntax.specs.declared.tree.WayTree.TheVariants as way
use Rattle.aidl_syntax.specs.Trees.{map_option}
use Rattle.aidl_syntax.specs.Trees as tree
use Rattle.aidl_syntax.specs.Members.{Member}
use Rattle.aidl_syntax.specs.Members.Member.{field, constant, method, enumerator, nested}
use Rattle.aidl_syntax.specs.Sources.{Source}
use Rattle.aidl_schema.specs.declared.schema.Arg.{Arg}
use Rattle.aidl_schema.specs.declared.schema.Constant.{Constant}
use Rattle.aidl_schema.specs.declared.schema.Direction.{Direction}
use Rattle.aidl_schema.specs.declared.schema.Direction.TheVariants as direction
use Rattle.aidl_schema.specs.declared.schema.Enumerator.{Enumerator}
use Rattle.aidl_schema.specs.declared.schema.Field.{Field}
use Rattle.aidl_schema.specs.declared.schema.Method.{Method}
use Rattle.tree_schema.specs.Types.{type_of}
use Rattle.tree_schema.specs.Values.{Outcomes, initial_of, constant_value, enumerator_value}
use Rattle.type_uses.specs.Ids.{id_of}

-- a field, which may be one after the first of a union
abbrev pub field_in : List Source → Outcomes → ℕ → ℕ → Bool → tree.Field → Field
field_in files outcomes file scope later f =
    record {
      name = f.name.name;
      ty = type_of files file scope f.annots f.ty;
      initial = initial_of files outcomes file scope later f.ty f.initial;
    }

-- the fields among members; `later` says that a field of a union stands before them
abbrev pub fields_in : List Source → Outcomes → ℕ → ℕ → Bool → Bool → List Member → List Field
fields_in files outcomes file scope in_union later [] = []
fields_in files outcomes file scope in_union later (field f ∷ ms) =
    field_in files outcomes file scope later f ∷ fields_in files outcomes file scope in_union (later || in_union) ms
fields_in files outcomes file scope in_union later (constant c ∷ ms) =
    fields_in files outcomes file scope in_union later ms
fields_in files outcomes file scope in_union later (method m ∷ ms) =
    fields_in files outcomes file scope in_union later ms
fields_in files outcomes file scope in_union later (enumerator e ∷ ms) =
    fields_in files outcomes file scope in_union later ms
fields_in files outcomes file scope in_union later (nested d ∷ ms) =
    fields_in files outcomes file scope in_union later ms

-- `in`, `out` or `inout`; an argument without one goes in
abbrev pub way_of : Option WayTree → Direction
way_of None = direction.In
way_of (Some way.In) = direction.In
way_of (Some way.Out) = direction.Out
way_of (Some way.InOut) = direction.InOut

abbrev pub arg_in : List Source → ℕ → ℕ → tree.Arg → Arg
arg_in files file scope a =
    record { name = a.name.name; way = way_of a.way; ty = type_of files file scope a.annots a.ty }

-- An id in the schema. For one above the last, which E19 refuses, 0 stands.
abbrev pub kept_id : ℕ → ℕ
kept_id id = if nat_le id 16777114 then id else 0

-- A method. It is oneway by itself or by its interface. Its annotations are those of its result.
abbrev pub method_with : List Source → ℕ → ℕ → Bool → ℕ → tree.Method → Method
method_with files file scope oneway id m =
    record {
      name = m.name.name;
      id = id;
      oneway = m.oneway || oneway;
      result = map_option
          (type_of files file scope m.annots) m.returned;
      args = map (arg_in files file scope) m.args;
    }

-- a method with the id that is written or given by its position
abbrev pub method_in : List Source → ℕ → ℕ → Bool → ℕ → tree.Method → Method
method_in files file scope oneway id m = method_with files file scope oneway (kept_id id) m

-- the methods among members, of which so many stand before them
abbrev pub methods_in : List Source → ℕ → ℕ → Bool → ℕ → List Member → List Method
methods_in files file scope oneway before [] = []
methods_in files file scope oneway before (method m ∷ ms) =
    method_in files file scope oneway (id_of before m) m ∷ methods_in files file scope oneway (before + 1) ms
methods_in files file scope oneway before (field f ∷ ms) = methods_in files file scope oneway before ms
methods_in files file scope oneway before (constant c ∷ ms) = methods_in files file scope oneway before ms
methods_in files file scope oneway before (enumerator e ∷ ms) = methods_in files file scope oneway before ms
methods_in files file scope oneway before (nested d ∷ ms) = methods_in files file scope oneway before ms

abbrev pub enumerator_in : List Source → Outcomes → ℕ → tree.Enumerator → Enumerator
enumerator_in files outcomes file e = record { name = e.name.name; value = enumerator_value files outcomes file e }

-- A constant has a base alone: E20 refuses what isn't of shape one.
abbrev pub constant_in : List Source → Outcomes → ℕ → ℕ → tree.Constant → Constant
constant_in files outcomes file scope c = record {
  name = c.name.name;
  ty = (type_of files file scope c.annots c.ty).base;
  value = constant_value files outcomes file c.value;
}

abbrev pub bytes_of : Constant → List ℕ
bytes_of c = encode_utf8_all c.name.0

abbrev pub order : Constant → Constant → Ordering
order a b = slice_cmp nat_cmp (bytes_of a) (bytes_of b)

-- A constant at its place among others. It would stand for another with its name; that none has an earlier one's is E2.
abbrev pub put : List Constant → Constant → List Constant
put [] c = c ∷ []
put (d ∷ more) c = match_ordering (order c d) (c ∷ d ∷ more) (c ∷ more) (d ∷ put more c)

abbrev pub listed_constants : List Source → Outcomes → ℕ → ℕ → List Member → List Constant
listed_constants files outcomes file scope [] = []
listed_constants files outcomes file scope (constant c ∷ ms) =
    constant_in files outcomes file scope c ∷ listed_constants files outcomes file scope ms
listed_constants files outcomes file scope (field f ∷ ms) = listed_constants files outcomes file scope ms
listed_constants files outcomes file scope (method m ∷ ms) = listed_constants files outcomes file scope ms
listed_constants files outcomes file scope (enumerator e ∷ ms) = listed_constants files outcomes file scope ms
listed_constants files outcomes file scope (nested d ∷ ms) = listed_constants files outcomes file scope ms

-- the constants among members, by their names
abbrev pub constants_in : List Source → Outcomes → ℕ → ℕ → List Member → List Constant
constants_in files outcomes file scope ms = fold put [] (listed_constants files outcomes file scope ms)
