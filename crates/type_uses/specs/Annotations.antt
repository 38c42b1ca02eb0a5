-- The table of annotations: their names, where each may stand, and which parameters it may have (AOSP, "Annotations
-- in AIDL"; which are kept and which are dropped: own).
use Rattle.std.specs.Prelude.{ℕ, Bool, true, false, not, if◌then◌else◌, codes, List, [], ◌∷◌, map, Option, Some, None}
use Rattle.std.specs.Str.{bytes_eq}
use Rattle.aidl_syntax.specs.Trees.{Param, Annot, Body}
use Rattle.aidl_syntax.specs.Trees.Body.{parcelable, union, enum, interface}
use Rattle.name_resolution.specs.declared.meaning.BuiltinName.TheVariants as built_in
use Rattle.name_resolution.specs.declared.meaning.Resolved.{Resolved}
use Rattle.name_resolution.specs.declared.meaning.Resolved.TheVariants.{Builtin}
use Rattle.declared_names.specs.Names.{text}
use Rattle.type_shapes.specs.declared.shape.Shape.{Shape}
use Rattle.type_shapes.specs.declared.shape.Shape.TheVariants as shape
use Rattle.type_uses.specs.declared.annotation.Annotation.{Annotation}
use Rattle.type_uses.specs.declared.annotation.Annotation.TheVariants as row
use Rattle.type_uses.specs.declared.stand.Stand.{Stand}
use Rattle.type_uses.specs.declared.stand.Stand.TheVariants as stand
use Rattle.type_uses.specs.Parameters.{is_heap, is_type_string}

-- those that speak of the platform: of its interfaces, permissions and calls
abbrev pub of_platform : List (List ℕ)
of_platform = codes "UnsupportedAppUsage"
    ∷ codes "EnforcePermission" ∷ codes "RequiresNoPermission" ∷ codes "PermissionManuallyEnforced"
    ∷ codes "PropagateAllowBlocking" ∷ []

-- the annotations that say nothing here
abbrev pub dropped : List (List ℕ)
dropped = codes "JavaDerive" ∷ codes "RustDerive" ∷ codes "JavaOnlyImmutable" ∷ codes "Hide"
    ∷ codes "SuppressWarnings" ∷ codes "SensitiveData"
    ∷ codes "JavaPassthrough" ∷ codes "JavaDefault" ∷ codes "JavaDelegator" ∷ codes "JavaSuppressLint" ∷ of_platform

abbrev pub rows_of : List (List ℕ) → List (List ℕ × Annotation)
rows_of names = map (λ name. (name, row.Dropped)) names

-- the names of the table
abbrev pub rows : List (List ℕ × Annotation)
rows = (codes "nullable", row.Nullable) ∷ (codes "utf8InCpp", row.Utf8InCpp) ∷ (codes "Backing", row.Backing)
    ∷ (codes "FixedSize", row.FixedSize)
    ∷ (codes "VintfStability", row.VintfStability) ∷ rows_of dropped

-- the row of the first of these names that the text is
abbrev pub row_in : List (List ℕ × Annotation) → List ℕ → Option Annotation
row_in [] name = None
row_in (r ∷ more) name = if bytes_eq name r.0 then Some r.1 else row_in more name

unfoldable pub row_of_name : List ℕ → Option Annotation
row_of_name name = row_in rows name

abbrev pub row_of : Annot → Option Annotation
row_of a = row_of_name (text a.name.name)

-- Where annotations stand, and which may stand there.

-- at a declaration, by its body
abbrev pub stand_of_body : Body → Stand
stand_of_body (parcelable ms) = stand.Composite
stand_of_body (union ms) = stand.Composite
stand_of_body (enum es) = stand.Enum
stand_of_body (interface oneway ms) = stand.Interface

abbrev pub is_text : Resolved → Bool
is_text (Builtin built_in.Text) = true
is_text _ = false

-- the base is String; nothing is asked of the base of a type that E16 refuses
abbrev pub is_text_based : Shape → Bool
is_text_based (shape.One r) = is_text r
is_text_based (shape.Array r) = is_text r
is_text_based (shape.List r) = is_text r
is_text_based shape.Refused = true

-- Where each row allows an annotation: a field, an argument or a return type, void among them; a type whose base is
-- String; an enum; a parcelable or a union; a declaration; anywhere.
abbrev pub may_stand : Annotation → Stand → Bool
may_stand row.Nullable (stand.Type t) = true
may_stand row.Nullable stand.Void = true
may_stand row.Utf8InCpp (stand.Type t) = is_text_based t
may_stand row.Backing stand.Enum = true
may_stand row.FixedSize stand.Composite = true
may_stand row.VintfStability stand.Composite = true
may_stand row.VintfStability stand.Enum = true
may_stand row.VintfStability stand.Interface = true
may_stand row.Dropped s = true
may_stand r s = false

abbrev pub is_dropped : Annotation → Bool
is_dropped row.Dropped = true
is_dropped _ = false

-- The parameter that each row gives: `heap=true` or `heap=false`; `type` with a string; any.
abbrev pub takes_one : Annotation → Param → Bool
takes_one row.Nullable p = is_heap p
takes_one row.Backing p = is_type_string p
takes_one row.Dropped p = true
takes_one r p = false

-- none, or one that the row gives; a dropped annotation has any
abbrev pub takes : Annotation → List Param → Bool
takes r [] = true
takes r (p ∷ []) = takes_one r p
takes r (p ∷ q ∷ ps) = is_dropped r

abbrev pub is_kept : Annotation → Bool
is_kept r = not (is_dropped r)
