-- *Valid schema*: when declarations are those of a checked tree (own). Each rule is a test of its own name, with
-- the check rules that refuse what breaks it; the first four stand in Names.antt and Methods.antt.
use Rattle.std.specs.Prelude.{ℕ, nat_le, Bool, true, false, not, ◌&&◌, ◌||◌, List, [], ◌∷◌, length, Option, Some}
use Rattle.std.specs.Prelude.{None, is_none, IsTrue}
use Rattle.std.specs.List.{list_all}
use Rattle.aidl_base.specs.declared.constant.Const.{Const}
use Rattle.aidl_schema.specs.declared.schema.Decl.{Decl}
use Rattle.aidl_schema.specs.declared.schema.Constant.{Constant}
use Rattle.aidl_schema.specs.declared.schema.Field.{Field}
use Rattle.aidl_schema.specs.declared.schema.Enumerator.{Enumerator}
use Rattle.aidl_schema.specs.declared.schema.Kind.{Kind}
use Rattle.aidl_schema.specs.declared.schema.Kind.TheVariants.{Parcelable, Union, Enum}
use Rattle.aidl_schema.specs.declared.schema.Base.TheVariants as base
use Rattle.aidl_schema.specs.declared.schema.Shape.TheVariants as shape
use Rattle.aidl_schema.specs.declared.schema.AidlType.{AidlType}
use Rattle.aidl_schema.specs.Types.{form_of, form_of_kind, is_one, is_scalar}
use Rattle.aidl_schema.specs.Constants.{in_range, is_constant_of, is_initializer_of}
use Rattle.aidl_schema.specs.Containment.{fields_of, holds_itself}
unfoldable pub use Rattle.aidl_schema.specs.Names.{has_names, has_members}
unfoldable pub use Rattle.aidl_schema.specs.Methods.{has_types, has_methods}
use Rattle.aidl_schema.specs.Names.{methods_of, member_names, each_numbered}
use Rattle.aidl_schema.specs.Same.{decl_of, is_named}
use Rattle.aidl_schema.specs.Sizes.{has_small_default}

-- A constant's type isn't `Named` (E20), and its value is one of the type (E9, E12).
abbrev pub has_value : List Decl → Constant → Bool
has_value S c = not (is_named c.ty) && is_constant_of S c.ty c.value

-- Rule 5. The constants of each declaration.
unfoldable pub has_constants : List Decl → Bool
has_constants S = list_all (λ d. list_all (λ c. has_value S c) d.constants) S

-- no initializer, or one of the type
abbrev pub has_initializer_of : List Decl → AidlType → Option Const → Bool
has_initializer_of S t None = true
has_initializer_of S t (Some c) = is_initializer_of S t c

-- at least one field, and an initializer on the first alone
abbrev pub are_union_fields : List Field → Bool
are_union_fields [] = false
are_union_fields (f ∷ fs) = list_all (λ g. is_none g.initial) fs

-- A union has a field, and only the first may have an initializer (E21).
abbrev pub is_union_whole : Kind → Bool
is_union_whole (Union fs) = are_union_fields fs
is_union_whole _ = true

-- Each initializer is of its field's type (E9, E12, E21), and no union breaks E21.
abbrev pub has_decl_initializers : List Decl → Decl → Bool
has_decl_initializers S d =
    list_all (λ f. has_initializer_of S f.ty f.initial) (fields_of d.kind) && is_union_whole d.kind

-- Rule 6. The initializers of each declaration.
unfoldable pub has_initializers : List Decl → Bool
has_initializers S = list_all (λ d. has_decl_initializers S d) S

-- at least one enumerator, and each value inside the backing of the enum
abbrev pub are_enumerators : Kind → List Enumerator → Bool
are_enumerators k [] = false
are_enumerators k (e ∷ es) = list_all (λ x. in_range (form_of_kind k) x.value) (e ∷ es)

-- no constant
abbrev pub has_no_constant : List Constant → Bool
has_no_constant [] = true
has_no_constant (c ∷ cs) = false

-- An enum has an enumerator, and each value is inside the backing (E12).
abbrev pub is_enum_whole : Kind → Bool
is_enum_whole (Enum b es) = are_enumerators (Enum b es) es
is_enum_whole _ = true

abbrev pub is_enum : Kind → Bool
is_enum (Enum b es) = true
is_enum _ = false

-- Rule 7. An enum has an enumerator, each of its values is inside the backing, and it has no constant.
unfoldable pub has_enums : List Decl → Bool
has_enums S = list_all (λ d. is_enum_whole d.kind && (not (is_enum d.kind) || has_no_constant d.constants)) S

-- a parcelable or a union
abbrev pub is_parcelable_or_union : Kind → Bool
is_parcelable_or_union (Parcelable fs) = true
is_parcelable_or_union (Union fs) = true
is_parcelable_or_union _ = false

-- a declaration that is there, and has `fixed`
abbrev pub is_fixed : Option Decl → Bool
is_fixed None = false
is_fixed (Some d) = d.fixed

-- The type has a fixed size: it is of shape one, isn't nullable, and its base is a primitive, an enum, or a
-- parcelable or union with `fixed`.
abbrev pub has_fixed_size : List Decl → AidlType → Bool
has_fixed_size S t = is_one t.shape && (not t.nullable && (is_scalar (form_of S t.base) || is_fixed (decl_of S t.base)))

-- `fixed` stands only on a parcelable or union (E13), all of whose fields have a fixed size (E24).
abbrev pub may_be_fixed : List Decl → Decl → Bool
may_be_fixed S d =
    not d.fixed || (is_parcelable_or_union d.kind && list_all (λ f. has_fixed_size S f.ty) (fields_of d.kind))

-- the type of one value of a declaration, not null
abbrev pub one_of : ℕ → AidlType
one_of n = record { base = base.Named n; shape = shape.One; nullable = false; heap = false; utf8 = false }

-- No declaration holds itself (E22). The default of a parcelable or union has a depth of at most 32 and at most 512
-- nodes (E23); that of another declaration has a depth of 0 and one node.
abbrev pub is_bounded : List Decl → ℕ → Bool
is_bounded S n = not (holds_itself S n) && has_small_default S (one_of n)

-- Rule 8. What each declaration holds.
unfoldable pub has_bounds : List Decl → Bool
has_bounds S = each_numbered (λ n d. may_be_fixed S d && is_bounded S n) S

-- at most 4,096 members (the limit `members`), and at most 255 arguments of a method (the limit `arguments`)
abbrev pub has_few : List Decl → ℕ → Decl → Bool
has_few S n d =
    nat_le (length (member_names S n d)) 4096 && list_all (λ m. nat_le (length m.args) 255) (methods_of d.kind)

-- Rule 9. There are at most 16,384 declarations (the limit `declarations`), each with few members and arguments.
unfoldable pub is_within_limits : List Decl → Bool
is_within_limits S = nat_le (length S) 16384 && each_numbered (λ n d. has_few S n d) S

-- The declarations are those of a valid schema.
pub record IsValid (S : List Decl) : Type 0 where
  pub names : IsTrue (has_names S)
  pub members : IsTrue (has_members S)
  pub types : IsTrue (has_types S)
  pub methods : IsTrue (has_methods S)
  pub constants : IsTrue (has_constants S)
  pub initializers : IsTrue (has_initializers S)
  pub enums : IsTrue (has_enums S)
  pub bounds : IsTrue (has_bounds S)
  pub limits : IsTrue (is_within_limits S)
