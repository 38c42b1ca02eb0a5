-- Worked views: what values are to another version of their types, computed.
use Rattle.std.proofs.Common.{◌≡◌, pos, Bool, true, false, List, [], ◌∷◌, Option, Some, None, refl}
use Rattle.std.specs.Prelude.{codes}
use Rattle.aidl_base.specs.declared.constant.Const.{Const}
use Rattle.aidl_schema.specs.declared.schema.AidlType.{AidlType}
use Rattle.aidl_schema.specs.declared.schema.Base.TheVariants as base
use Rattle.aidl_schema.specs.declared.schema.Decl.{Decl}
use Rattle.aidl_schema.specs.declared.schema.Kind.TheVariants.{Parcelable, Union}
use Rattle.aidl_values.specs.Data.{Data, null, number, text, seq, rec, alt, none, item}
use Rattle.aidl_values.specs.Default.{const_value, zero_within}
use Rattle.wire_model.specs.Unknown.{has_unknown_tag}
use Rattle.wire_model.specs.View.{view_of}
use Rattle.wire_model.proofs.Examples.{one, array, or_null, declared, field, newer, older, tagged, small, large, it, record_of}

-- R { int a; } and U { int a; String b; }, and newer ones R { int a; @nullable U u; } and U { int a; String b; int c; }
first_version : List Decl
unfolding declared field
first_version = declared (codes "R") (Parcelable (field (codes "a") base.Int None ∷ [])) ∷ declared (codes "U") (Union (field (codes "a") base.Int None ∷ field (codes "b") base.Text None ∷ [])) ∷ []

second_version : List Decl
unfolding declared field one or_null
second_version = declared (codes "R") (Parcelable (field (codes "a") base.Int None ∷ record { name = record { 0 = codes "u" }; ty = or_null (one (base.Named 1)); initial = None } ∷ []))
    ∷ declared (codes "U") (Union (field (codes "a") base.Int None ∷ field (codes "b") base.Text None ∷ field (codes "c") base.Int None ∷ [])) ∷ []

views : List Decl → AidlType → List Decl → AidlType → Data → Option Data
unfolding zero_within
views A t B u v = view_of A t B u v

-- an unknown tag has no view, unless it lies in a field that is dropped; a nullable field that isn't sent is null
unknown_tag : (views second_version it first_version it (rec (item (number (pos 7)) (item (alt 2 (number (pos 5))) none))) ≡ Some (rec (item (number (pos 7)) none)))
    × (views second_version (one (base.Named 1)) first_version (one (base.Named 1)) (alt 2 (number (pos 5))) ≡ None)
    × (views second_version (one (base.Named 1)) first_version (one (base.Named 1)) (alt 1 (text (codes "a"))) ≡ Some (alt 1 (text (codes "a"))))
    × (views second_version (array (base.Named 1)) first_version (array (base.Named 1)) (seq (item (alt 0 (number (pos 1))) (item (alt 2 (number (pos 5))) none))) ≡ None)
    × (views first_version it second_version it (rec (item (number (pos 7)) none)) ≡ Some (rec (item (number (pos 7)) (item null none))))
    × (views first_version it second_version (one base.Int) (rec (item (number (pos 7)) none)) ≡ None)
unfolding views first_version second_version it one array
unknown_tag = (refl, refl, refl, refl, refl, refl)

-- These are the values with an unknown tag: nothing that is dropped counts.
hindered : List Decl → AidlType → List Decl → AidlType → Data → Bool
unfolding zero_within
hindered A t B u v = has_unknown_tag A t B u v

unknown_where_no_view : (hindered second_version it first_version it (rec (item (number (pos 7)) (item (alt 2 (number (pos 5))) none))) ≡ false)
    × (hindered second_version (one (base.Named 1)) first_version (one (base.Named 1)) (alt 2 (number (pos 5))) ≡ true)
    × (hindered second_version (one (base.Named 1)) first_version (one (base.Named 1)) (alt 1 (text (codes "a"))) ≡ false)
    × (hindered second_version (array (base.Named 1)) first_version (array (base.Named 1)) (seq (item (alt 0 (number (pos 1))) (item (alt 2 (number (pos 5))) none))) ≡ true)
unfolding hindered first_version second_version it one array
unknown_where_no_view = (refl, refl, refl, refl)

-- a parcelable of the name of the enums of Examples.antt
kind_changed : List Decl
unfolding declared
kind_changed = declared (codes "E") (Parcelable []) ∷ []

-- R again, with its fields the other way round
turned : List Decl
unfolding declared field
turned = declared (codes "R") (Parcelable (field (codes "s") base.Text None ∷ field (codes "a") base.Int None ∷ [])) ∷ []

-- a kind counts, a backing doesn't; fields go by name, in whatever place
kinds_and_names : (views small it kind_changed it (number (pos 5)) ≡ None)
    × (views newer it turned it (record_of (pos 7) (codes "hi")) ≡ Some (rec (item (text (codes "hi")) (item (number (pos 7)) none))))
    × (views small it large it (number (pos 5)) ≡ Some (number (pos 5)))
    × (views newer it tagged it null ≡ None)
    × (views older it newer it (rec (item (number (pos 7)) none)) ≡ Some (rec (item (number (pos 7)) (item (const_value (Const.Text (codes "x"))) none))))
unfolding views small large newer older tagged it kind_changed turned record_of
kinds_and_names = (refl, refl, refl, refl, refl)
