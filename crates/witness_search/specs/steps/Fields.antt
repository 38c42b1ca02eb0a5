-- The field that a place names, in both versions.
use Rattle.std.specs.Prelude.{◌≡◌, ◌<◌, ℕ, List, length, Option, option_and_then, option_map}
use Rattle.std.specs.List.{position}
use Rattle.aidl_schema.specs.declared.schema.Decl.{Decl}
use Rattle.aidl_schema.specs.declared.schema.Field.{Field}
use Rattle.aidl_schema.specs.declared.schema.Kind.{Kind}
use Rattle.aidl_schema.specs.Broken.{Place, parcelable_fields, union_fields}
use Rattle.aidl_schema.specs.Find.{number_of_name}
use Rattle.aidl_schema.specs.Same.{same_text}
use Rattle.compat_witness.specs.Places.{at_last_dot}
use Rattle.compat_witness.specs.Rows.{alternatives_in, fields_in}
use Rattle.wire_model.specs.Outcome.{declared_as}
use Rattle.witness_search.specs.declared.fields.Members.{Members}
use Rattle.witness_search.specs.declared.fields.Members.TheVariants.{Fields, Alternatives}
use Rattle.witness_search.specs.declared.records.FieldPlace.{FieldPlace}
use Rattle.witness_search.specs.steps.Named.{field_named}

-- the fields of a parcelable, or of a union; none of another kind
abbrev pub members_of : Members → Kind → List Field
members_of Fields = parcelable_fields
members_of Alternatives = union_fields

-- the same of a number's declaration
abbrev pub members_in : Members → List Decl → ℕ → List Field
members_in Fields = fields_in
members_in Alternatives = alternatives_in

-- the numbers of a declaration in both, and the position of one of its fields in old
abbrev pub field_at : ℕ → ℕ → ℕ → FieldPlace
field_at k l x = record { old = k; new = l; position = x }

-- the field that a place `n.field` names
abbrev pub field_of : Members → List Decl → List Decl → Place → Option FieldPlace
field_of members old new p = option_and_then (λ q. option_and_then (λ k. option_and_then (λ l. option_map (field_at k l)
    (position (λ f. same_text f.name.0 q.1) (members_in members old k))) (declared_as new q.0)) (declared_as old q.0))
    (at_last_dot p)

-- the same by a place in UTF-8
abbrev pub field_by_bytes : Members → List Decl → List Decl → List ℕ → Option FieldPlace
field_by_bytes members old new place = option_and_then (λ q. option_and_then (λ k. option_and_then (λ l. option_map
    (field_at k l) (field_named (members_in members old k) q.1)) (number_of_name new q.0)) (number_of_name old q.0))
    (at_last_dot place)

-- its position is one of old's
abbrev pub IsWithin : Members → List Decl → FieldPlace → Type 0
IsWithin members old z = z.position < length (members_in members old z.old)
