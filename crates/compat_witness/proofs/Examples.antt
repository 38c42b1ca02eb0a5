-- Worked rows of the table: the candidates of a place and their two sides, computed.
use Rattle.std.proofs.Common.{◌≡◌, ℕ, ℤ, pos, false, List, [], ◌∷◌, Option, Some, None, refl}
use Rattle.std.specs.Prelude.{codes}
use Rattle.std.specs.Str.{chars}
use Rattle.std.specs.Char.Utf16.{utf16_chars}
use lib.Utf8.{encode}
use Rattle.aidl_base.specs.Readings.{word_as, count_at, text_of, block_at, text_at, present_text_at, raw_at}
use Rattle.aidl_schema.specs.declared.schema.AidlType.{AidlType}
use Rattle.aidl_schema.specs.declared.schema.Arg.{Arg}
use Rattle.aidl_schema.specs.declared.schema.Base.{Base}
use Rattle.aidl_schema.specs.declared.schema.Base.TheVariants as base
use Rattle.aidl_schema.specs.declared.schema.Decl.{Decl}
use Rattle.aidl_schema.specs.declared.schema.Direction.{Direction}
use Rattle.aidl_schema.specs.declared.schema.Direction.TheVariants.{In}
use Rattle.aidl_schema.specs.declared.schema.Field.{Field}
use Rattle.aidl_schema.specs.declared.schema.Kind.{Kind}
use Rattle.aidl_schema.specs.declared.schema.Kind.TheVariants.{Interface, Parcelable}
use Rattle.aidl_schema.specs.declared.schema.Method.{Method}
use Rattle.aidl_schema.specs.declared.schema.Shape.TheVariants as shape
use Rattle.aidl_values.specs.Data.{number, rec, none, item}
use Rattle.aidl_values.specs.Default.{zero_within}
use Rattle.wire_model.specs.ReadOf.{read_of, raw_items_at, elements_at, array_at, marker_at, body_at, body_value_at, record_at, tag_at, tagged_at, union_at}
use Rattle.wire_model.specs.Receiver.{header_at, length_at, array_opening_at, stub, returned_at, exception_at}
use Rattle.wire_model.specs.Receiver as receiver
use Rattle.compat_witness.specs.Candidates.{Candidate, request, read_side, projected_side}
use Rattle.compat_witness.specs.Rows.{Row, row_C10}
use Rattle.compat_witness.specs.Sides.{Side, called, projected_call, projected_answer}

unfoldable pub one : Base → AidlType
one b = record { base = b; shape = shape.One; nullable = false; heap = false; utf8 = false }

unfoldable many : Base → AidlType
many b = record { base = b; shape = shape.Array; nullable = false; heap = false; utf8 = false }

unfoldable pub declared : List ℕ → Kind → Decl
declared name kind = record { name = record { 0 = record { 0 = codes "a" } ∷ record { 0 = name } ∷ [] }; outer = None; kind = kind; vintf = false; fixed = false; constants = [] }

unfoldable pub field : List ℕ → Base → Field
field name b = record { name = record { 0 = name }; ty = record { base = b; shape = shape.One; nullable = false; heap = false; utf8 = false }; initial = None }

unfoldable pub taking : List ℕ → List Arg → Method
taking name args = record { name = record { 0 = name }; id = 0; oneway = false; result = None; args = args }

unfoldable pub argument : Direction → AidlType → Arg
argument way t = record { name = record { 0 = codes "x" }; way = way; ty = t }

unfoldable pub read : List Decl → List Decl → Candidate → Side
unfolding stub receiver.client header_at length_at array_opening_at returned_at exception_at read_of word_as count_at text_of block_at text_at present_text_at raw_at raw_items_at elements_at array_at marker_at body_at body_value_at record_at tag_at tagged_at union_at zero_within utf16_chars chars encode
read old new c = read_side old new c

unfoldable pub projected : List Decl → List Decl → Candidate → Side
unfolding projected_call projected_answer zero_within
projected old new c = projected_side old new c

-- parcelable R { int a; int b; }, and with the fields swapped
unfoldable pub of_fields : List Field → List Decl
unfolding declared taking argument one
of_fields fs = declared (codes "I") (Interface (taking (codes "f") (argument In (one (base.Named 1)) ∷ []) ∷ [])) ∷ declared (codes "R") (Parcelable fs) ∷ []

before : List Decl
unfolding of_fields field
before = of_fields (field (codes "a") base.Int ∷ field (codes "b") base.Int ∷ [])

after : List Decl
unfolding of_fields field
after = of_fields (field (codes "b") base.Int ∷ field (codes "a") base.Int ∷ [])

ask_with : ℤ → ℤ → Candidate
ask_with x y = request false 0 0 (item (rec (item (number x) (item (number y) none))) none)

saw : ℤ → ℤ → Side
saw x y = called 0 (item (rec (item (number x) (item (number y) none))) none)

unfoldable pub candidates_at : Row → List Decl → List Decl → List ℕ → Option (List Candidate)
unfolding zero_within
candidates_at row old new p = row old new p

swapped_fields : (candidates_at row_C10 before after (codes "a.R.a") ≡ Some (ask_with (pos 0) (pos 0) ∷ ask_with (pos 1) (pos 0) ∷ []))
    × (candidates_at row_C10 before after (codes "a.R.b") ≡ Some (ask_with (pos 0) (pos 0) ∷ ask_with (pos 0) (pos 1) ∷ []))
    × (read before after (ask_with (pos 0) (pos 0)) ≡ projected before after (ask_with (pos 0) (pos 0)))
    × (read before after (ask_with (pos 1) (pos 0)) ≡ saw (pos 1) (pos 0))
    × (projected before after (ask_with (pos 1) (pos 0)) ≡ saw (pos 0) (pos 1))
    × (read before after (ask_with (pos 0) (pos 1)) ≡ saw (pos 0) (pos 1))
    × (projected before after (ask_with (pos 0) (pos 1)) ≡ saw (pos 1) (pos 0))
unfolding candidates_at before after ask_with saw read projected
swapped_fields = (refl, refl, refl, refl, refl, refl, refl)
