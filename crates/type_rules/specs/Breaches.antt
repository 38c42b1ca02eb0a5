-- The check rules E13 to E21 and E24 (own in number and wording), and their breaches as one list: sorted by file,
-- offset and rule, each once.
use Rattle.std.specs.Prelude.{ℕ, List, [], ◌∷◌}
use Rattle.std.specs.List.{flat_map}
use Rattle.aidl_base.specs.declared.breach.Breach.{Breach}
use Rattle.aidl_syntax.specs.Sources.{Source}
use Rattle.declared_names.specs.Declarations.{Entry, declarations}
use Rattle.declared_names.specs.Numbered.{in_each}
use Rattle.aidl_names.specs.Breaches.{in_order}
use Rattle.type_uses.specs.TypeUses.{TypeUse, type_uses}
use Rattle.type_rules.specs.Filters.{Rule, breaches_at}
use Rattle.type_rules.specs.AnnotationRules.{BadAnnotation, BadBacking}
use Rattle.type_rules.specs.TypeRules.{BadNullable, BadShape, BadDirection, BadConstant}
use Rattle.type_rules.specs.MethodRules.{BadOneway}
use Rattle.type_rules.specs.IdRules.{BadId}
use Rattle.type_rules.specs.FieldRules.{BadField, NotFixed}

-- The rules by their numbers. E22 and E23, which judge by the schema, stand in `type_check`.
abbrev pub rules : List (ℕ × Rule)
rules =
    -- An annotation isn't in the table, stands where its row doesn't allow it, has parameters that its row doesn't
    -- give, or is a kept one whose name an earlier annotation of the same list has.
    (13, BadAnnotation)
    -- `@nullable` on a type of shape one whose base is a primitive or an enum, or on void; `heap=true` elsewhere than
    -- on a field of shape one whose base is a parcelable or union. A type that BadShape refuses has no breach.
    ∷ (14, BadNullable)
    -- An enum's first `Backing` annotation has no parameter `type`, or its first such parameter is none of the
    -- strings "byte", "int" and "long".
    ∷ (15, BadBacking)
    -- `List` without an element; an element on another name; a `List` with `[]`; a `List` element other than String,
    -- a parcelable or a union.
    ∷ (16, BadShape)
    -- An argument of array or List shape, or of a parcelable or union, without a direction; any other argument with
    -- `out` or `inout`. A type that BadShape refuses has no breach.
    ∷ (17, BadDirection)
    -- A method that is oneway, by itself or by its interface, returns a value or has an `out` or `inout` argument.
    ∷ (18, BadOneway)
    -- A method has no id while another method of its interface has one; an id is no decimal without suffix from 0 to
    -- 16777114; an id is that of an earlier method.
    ∷ (19, BadId)
    -- A constant's type isn't boolean, byte, char, int, long or String of shape one.
    ∷ (20, BadConstant)
    -- A brace list on shape one; an expression on another shape; a brace list with members for a sequence of
    -- parcelables or unions; an initializer on a field of shape one whose base is a parcelable or union; an
    -- initializer on a union's field other than the first; a union without a field. A type that BadShape refuses has
    -- no breach.
    ∷ (21, BadField)
    -- A declaration with `@FixedSize` has a field that isn't of shape one, is nullable, or has a base other than a
    -- primitive, an enum, or a parcelable or union with `@FixedSize`. A type that BadShape refuses has no breach.
    ∷ (24, NotFixed)
    ∷ []

-- those of a declaration, by the types that it uses
unfoldable pub broken_by : List Entry → Entry → List TypeUse → List Breach
broken_by entries e uses = flat_map (λ r. breaches_at r.0 e.file (r.1 entries e uses)) rules

-- those of the declaration with a number
unfoldable pub broken_in : List Source → ℕ → Entry → List Breach
broken_in files number e = broken_by (declarations files) e (type_uses files number e)

-- those of a tree, in the order of its declarations
unfoldable pub unsorted : List Source → List Breach
unsorted files = in_each (broken_in files) 0 (declarations files)

abbrev pub breaches : List Source → List Breach
breaches files = in_order (unsorted files)
