-- Kinds of bases of types (AOSP, "AIDL language", "Types"; `@FixedSize`: AOSP, "Annotations in AIDL").
use Rattle.std.specs.Prelude.{ℕ, Bool, true, false, not, ◌&&◌, ◌||◌, List, Option, Some, None}
use Rattle.std.specs.List.{slice_get}
use Rattle.name_resolution.specs.declared.meaning.Resolved.{Resolved}
use Rattle.name_resolution.specs.declared.meaning.Resolved.TheVariants.{Builtin, Declared}
use Rattle.declared_names.specs.Declarations.{Entry}
use Rattle.type_shapes.specs.declared.shape.Shape.{Shape}
use Rattle.type_shapes.specs.declared.shape.Shape.TheVariants as shape
use Rattle.type_shapes.specs.Backing.{annots_of}
use Rattle.type_shapes.specs.Types.{is_composite, is_enum}
use Rattle.type_uses.specs.Annotations.{is_text}
use Rattle.type_uses.specs.Kept.{is_fixed}

-- a primitive, as all built-in types but String are, or an enum
abbrev pub is_scalar : List Entry → Resolved → Bool
is_scalar entries (Builtin b) = not (is_text (Builtin b))
is_scalar entries (Declared number) = is_enum entries number
is_scalar entries _ = false

-- the declaration has `@FixedSize`
abbrev pub is_fixed_entry : Entry → Bool
is_fixed_entry e = is_fixed (annots_of e.tree)

-- that with a number has it
abbrev pub is_fixed_number : List Entry → ℕ → Bool
is_fixed_number entries number = elim (slice_get entries number) [ None ↦ false | Some e ↦ is_fixed_entry e ]

-- a primitive, an enum, or a parcelable or union with `@FixedSize`
abbrev pub is_fixed_base : List Entry → Resolved → Bool
is_fixed_base entries (Declared number) = is_scalar entries (Declared number)
    || (is_composite entries (Declared number) && is_fixed_number entries number)
is_fixed_base entries r = is_scalar entries r

-- a type that E16 refuses
abbrev pub is_refused : Shape → Bool
is_refused shape.Refused = true
is_refused _ = false

-- the return type is one; void isn't
abbrev pub is_refused_result : Option Shape → Bool
is_refused_result None = false
is_refused_result (Some t) = is_refused t

-- a parcelable or union of shape one
abbrev pub is_one_composite : List Entry → Shape → Bool
is_one_composite entries (shape.One r) = is_composite entries r
is_one_composite entries _ = false

-- a primitive or an enum of shape one
abbrev pub is_one_scalar : List Entry → Shape → Bool
is_one_scalar entries (shape.One r) = is_scalar entries r
is_one_scalar entries _ = false
