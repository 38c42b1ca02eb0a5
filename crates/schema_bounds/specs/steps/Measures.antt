-- Depth and nodes as one pair of cases, as the code counts them.
use Rattle.std.specs.Prelude.{◌≡◌, ℕ, suc, ◌+◌, max, min, if◌then◌else◌, List, [], ◌∷◌, map, length, slice_index_or}
use Rattle.aidl_base.specs.declared.constant.Const.{Const}
use Rattle.aidl_schema.specs.declared.schema.Decl.{Decl}
use Rattle.aidl_schema.specs.declared.schema.Field.{Field}
use Rattle.aidl_schema.specs.declared.schema.Kind.{Kind}
use Rattle.aidl_schema.specs.declared.schema.Kind.TheVariants.{Parcelable, Union}
use Rattle.aidl_schema.specs.declared.schema.Base.{Base}
use Rattle.aidl_schema.specs.declared.schema.Base.TheVariants as base
use Rattle.aidl_schema.specs.declared.schema.AidlType.{AidlType}
use Rattle.aidl_schema.specs.Sizes.{const_depth, const_nodes, field_size, default_depth, default_nodes}
use Rattle.aidl_schema.specs.Types.{is_one}
use Rattle.aidl_schema.specs.Valid.{one_of}
use Rattle.schema_bounds.specs.declared.measure.Measure.{Measure}
use Rattle.schema_bounds.specs.declared.measure.Measure.TheVariants.{Depth, Nodes}

-- where counting stops
abbrev pub most : Measure → ℕ
most Depth = 33
most Nodes = 513

-- the size of a value without parts
abbrev pub leaf : Measure → ℕ
leaf Depth = 0
leaf Nodes = 1

-- the size of two parts beside each other
abbrev pub beside : Measure → ℕ → ℕ → ℕ
beside Depth m n = max m n
beside Nodes m n = m + n

-- the size of parts beside each other
abbrev pub total : Measure → List ℕ → ℕ
total m [] = 0
total m (n ∷ ns) = beside m n (total m ns)

-- the size of a text
abbrev pub text_size : Measure → List ℕ → ℕ
text_size Depth x = 0
text_size Nodes x = suc (length x)

-- the size of a constant
abbrev pub const_size : Measure → Const → ℕ
const_size Depth c = const_depth c
const_size Nodes c = const_nodes c

-- the size of a type's default, counted up to where counting stops
abbrev pub default_size : Measure → List Decl → AidlType → ℕ
default_size Depth S t = default_depth S t
default_size Nodes S t = default_nodes S t

-- One level, from sizes of the declarations' defaults: of a base that is one value,
abbrev pub base_size : Measure → List ℕ → Base → ℕ
base_size m sizes (base.Named n) = slice_index_or sizes n (leaf m)
base_size m sizes _ = leaf m

-- of a type,
abbrev pub type_size : Measure → List ℕ → AidlType → ℕ
type_size m sizes t = if t.nullable then leaf m else (if is_one t.shape then base_size m sizes t.base else 1)

-- of a field, which starts with its initializer where it has one,
abbrev pub start_size : Measure → List ℕ → Field → ℕ
start_size m sizes f = field_size (λ c. const_size m c) (λ t. type_size m sizes t) f

-- of a union,
abbrev pub first_size : Measure → List ℕ → List Field → ℕ
first_size m sizes [] = 1
first_size m sizes (f ∷ fs) = suc (start_size m sizes f)

-- and of a declaration.
abbrev pub kind_size : Measure → List ℕ → Kind → ℕ
kind_size m sizes (Parcelable fs) = suc (total m (map (λ f. start_size m sizes f) fs))
kind_size m sizes (Union fs) = first_size m sizes fs
kind_size m sizes _ = leaf m

-- up to k the sizes are those of the declarations' defaults
abbrev pub AreRight : Measure → List Decl → List ℕ → ℕ → Type 0
AreRight m S sizes k = (n : ℕ) → min k (slice_index_or sizes n (leaf m)) ≡ min k (default_size m S (one_of n))
