-- *SchemaOf*: the schema of a checked tree (own). It has exactly the trees' declarations, with their types and values.
use Rattle.std.specs.Prelude.{ℕ, true, false, List, map, Option, Some, None}
use Rattle.aidl_syntax.specs.Trees.{Body}
use Rattle.aidl_syntax.specs.Trees.Body.{parcelable, union, enum, interface}
use Rattle.aidl_syntax.specs.Members.{listed, members, body}
use Rattle.declared_names.specs.Declarations.{Entry, declarations}
use Rattle.aidl_syntax.specs.Sources.{Source}
use Rattle.const_values.specs.declared.wanted.Wanted.{Wanted}
use Rattle.const_values.specs.declared.wanted.Wanted.TheVariants as wanted
use Rattle.type_shapes.specs.Backing.{annots_of, backing_of}
use Rattle.aidl_schema.specs.declared.schema.Backing.{Backing}
use Rattle.aidl_schema.specs.declared.schema.Backing.TheVariants as backing
use Rattle.aidl_schema.specs.declared.schema.Decl as schema
use Rattle.aidl_schema.specs.declared.schema.Kind.{Kind}
use Rattle.aidl_schema.specs.declared.schema.Kind.TheVariants.{Interface, Parcelable, Union, Enum}
use Rattle.tree_schema.specs.Numbers.{Numbered, sorted, number_of}
use Rattle.tree_schema.specs.Parts.{fields_in, methods_in, enumerator_in, constants_in}
use Rattle.tree_schema.specs.Values.{Outcomes}
use Rattle.type_uses.specs.Kept.{is_fixed, is_vintf}

abbrev pub backing_in : Wanted → Backing
backing_in wanted.Int = backing.Int
backing_in wanted.Long = backing.Long
backing_in _ = backing.Byte

-- what a declaration with a number in the trees declares, an enum with a backing
abbrev pub kind_with : List Source → Outcomes → ℕ → ℕ → Backing → Body → Kind
kind_with files outcomes file number backing (parcelable ms) =
    Parcelable (fields_in files outcomes file number false false (listed ms))
kind_with files outcomes file number backing (union ms) =
    Union (fields_in files outcomes file number true false (listed ms))
kind_with files outcomes file number backing (enum es) = Enum backing (map (enumerator_in files outcomes file) es)
kind_with files outcomes file number backing (interface oneway ms) =
    Interface (methods_in files file number oneway 0 (listed ms))

-- an enum has the backing that constants see
abbrev pub kind_of : List Source → Outcomes → ℕ → ℕ → Wanted → Body → Kind
kind_of files outcomes file number backed b = kind_with files outcomes file number (backing_in backed) b

-- the number in the schema of the declaration around
abbrev pub outer_of : List Entry → Option ℕ → Option ℕ
outer_of entries None = None
outer_of entries (Some number) = number_of entries number

abbrev pub declared : List Source → Outcomes → Numbered → schema.Decl
declared files outcomes x = record {
  name = record { 0 = x.1.name };
  outer = outer_of (declarations files) x.1.outer;
  kind = kind_of files outcomes x.1.file x.0 (backing_of x.1.tree) (body x.1.tree);
  vintf = is_vintf (annots_of x.1.tree);
  fixed = is_fixed (annots_of x.1.tree);
  constants = constants_in files outcomes x.1.file x.0 (members (body x.1.tree));
}

-- the declarations of the trees in the order of their names
abbrev pub schema_of : List Source → Outcomes → List schema.Decl
schema_of files outcomes = map (declared files outcomes) (sorted (declarations files))
