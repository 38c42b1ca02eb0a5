-- Why a row has both ways, both values or its whole condition: two schemas for which all candidates without it are read as they are projected.
use Rattle.std.proofs.Common.{◌≡◌, pos, Bool, true, false, List, [], ◌∷◌, Some, None, refl}
use Rattle.std.specs.Prelude.{codes}
use Rattle.aidl_base.specs.declared.constant.Const.TheVariants as constant
use Rattle.aidl_schema.specs.declared.schema.Backing.{Backing}
use Rattle.aidl_schema.specs.declared.schema.Backing.TheVariants as backing
use Rattle.aidl_schema.specs.declared.schema.Base.{Base}
use Rattle.aidl_schema.specs.declared.schema.Base.TheVariants as base
use Rattle.aidl_schema.specs.declared.schema.Decl.{Decl}
use Rattle.aidl_schema.specs.declared.schema.Direction.TheVariants.{In}
use Rattle.aidl_schema.specs.declared.schema.Kind.TheVariants.{Interface, Enum}
use Rattle.aidl_schema.specs.declared.schema.Shape.TheVariants as shape
use Rattle.aidl_values.specs.Data.{Data, number, rec, truth, none, item}
use Rattle.wire_model.specs.Calls.{returned}
use Rattle.compat_witness.specs.Candidates.{Candidate, request, reply}
use Rattle.compat_witness.specs.Rows.{row_C5, row_C11, row_C16}
use Rattle.compat_witness.proofs.Examples.{one, declared, field, taking, argument, read, projected, candidates_at, of_fields}

-- both sides are the same
abbrev AreSame : List Decl → List Decl → Candidate → Type 0
AreSame old new c = read old new c ≡ projected old new c

-- C16: enum E of bytes, and of ints: 0 and 100 go well either way.
of_backing : Backing → List Decl
unfolding declared taking argument one
of_backing b = declared (codes "I") (Interface (taking (codes "f") (argument In (one (base.Named 1)) ∷ []) ∷ [])) ∷ declared (codes "E") (Enum b []) ∷ []

bytes : List Decl
unfolding of_backing
bytes = of_backing backing.Byte

ints : List Decl
unfolding of_backing
ints = of_backing backing.Int

sent : Bool → Data → Candidate
sent back v = request back 0 0 (item v none)

a_low_number : (candidates_at row_C16 bytes ints (codes "a.E") ≡ Some (sent false (number (pos 0)) ∷ sent false (number (pos 200)) ∷ sent true (number (pos 0)) ∷ sent true (number (pos 200)) ∷ []))
    × AreSame bytes ints (sent false (number (pos 0))) × AreSame bytes ints (sent false (number (pos 100)))
    × AreSame bytes ints (sent true (number (pos 0))) × AreSame bytes ints (sent true (number (pos 100)))
unfolding candidates_at bytes ints sent read projected
a_low_number = (refl, refl, refl, refl, refl)

-- C5: int f(), and long f(): the old client goes well.
of_result : Base → List Decl
unfolding declared one
of_result b = declared (codes "I") (Interface (record { name = record { 0 = codes "f" }; id = 0; oneway = false; result = Some (one b); args = [] } ∷ [])) ∷ []

int_result : List Decl
unfolding of_result
int_result = of_result base.Int

long_result : List Decl
unfolding of_result
long_result = of_result base.Long

answered : Bool → Candidate
answered back = reply back 0 0 (Some (returned (Some (number (pos 0))) none))

an_old_client : (candidates_at row_C5 int_result long_result (codes "a.I.f") ≡ Some (answered false ∷ answered true ∷ []))
    × AreSame int_result long_result (answered false)
unfolding candidates_at int_result long_result answered read projected
an_old_client = (refl, refl)

-- C11: parcelable R { int a; }, and { long a; }: the old client goes well.
int_field : List Decl
unfolding of_fields field
int_field = of_fields (field (codes "a") base.Int ∷ [])

long_field : List Decl
unfolding of_fields field
long_field = of_fields (field (codes "a") base.Long ∷ [])

zero_field : Bool → Candidate
zero_field back = sent back (rec (item (number (pos 0)) none))

an_old_sender : (candidates_at row_C11 int_field long_field (codes "a.R.a") ≡ Some (zero_field false ∷ zero_field true ∷ []))
    × AreSame int_field long_field (zero_field false)
unfolding candidates_at int_field long_field zero_field sent read projected
an_old_sender = (refl, refl)

-- C11 at a field before the last: { int a; int b = 2; boolean c; }, and { boolean a; boolean b; int c = 2; }: a 2 is refused either way.
two_before : List Decl
unfolding of_fields field
two_before = of_fields (field (codes "a") base.Int ∷ record { name = record { 0 = codes "b" }; ty = record { base = base.Int; shape = shape.One; nullable = false; heap = false; utf8 = false }; initial = Some (constant.Number (pos 2)) } ∷ field (codes "c") base.Boolean ∷ [])

two_behind : List Decl
unfolding of_fields field
two_behind = of_fields (field (codes "a") base.Boolean ∷ field (codes "b") base.Boolean ∷ record { name = record { 0 = codes "c" }; ty = record { base = base.Int; shape = shape.One; nullable = false; heap = false; utf8 = false }; initial = Some (constant.Number (pos 2)) } ∷ [])

before_the_last :
    (candidates_at row_C11 two_before two_behind (codes "a.R.a") ≡ None)
    × AreSame two_before two_behind (sent false (rec (item (number (pos 0)) (item (number (pos 2)) (item (truth false) none)))))
    × AreSame two_before two_behind (sent true (rec (item (truth false) (item (truth false) (item (number (pos 2)) none)))))
unfolding candidates_at two_before two_behind sent read projected
before_the_last = (refl, refl, refl)
