-- *Wire breaches*: by which calls a broken rule is shown, rule by rule (own). A row gives the candidates of a place
-- in their order, and None where its condition isn't met.
use Rattle.std.specs.Prelude.{ℕ, ◌+◌, pos, Bool, true, false, not, ◌&&◌, ◌||◌, ◌==◌, if◌then◌else◌, List, [], ◌∷◌}
use Rattle.std.specs.Prelude.{◌++◌, length, take, Option, Some, None, is_none, slice_get, option_map}
use Rattle.std.specs.Prelude.{option_and_then}
use Rattle.std.specs.List.{list_all, position, zip}
use Rattle.aidl_schema.specs.declared.schema.AidlType.{AidlType}
use Rattle.aidl_schema.specs.declared.schema.Arg.{Arg}
use Rattle.aidl_schema.specs.declared.schema.Decl.{Decl}
use Rattle.aidl_schema.specs.declared.schema.Field.{Field}
use Rattle.aidl_schema.specs.declared.schema.Method.{Method}
use Rattle.aidl_schema.specs.Broken.{Place, kind_code, parcelable_fields, union_fields}
use Rattle.aidl_schema.specs.Find.{methods_at, position_of_code}
use Rattle.aidl_schema.specs.Methods.{is_in_way}
use Rattle.aidl_schema.specs.Same.{same, same_text, is_named}
use Rattle.aidl_schema.specs.Types.{form_of, is_one, is_array, type_of_field}
use Rattle.aidl_values.specs.Data.{Data, number, seq, rec, alt, Items, none, item}
use Rattle.wire_model.specs.Calls.{returned, descriptor, is_out}
use Rattle.wire_model.specs.Outcome.{declared_as}
use Rattle.wire_model.specs.Receiver.{zero_in}
use Rattle.compat_witness.specs.Candidates.{Candidate, request, reply, old_client, new_client}
use Rattle.compat_witness.specs.Places.{at_last_dot, at_slash, Spot, spot_of, spot_like}
use Rattle.compat_witness.specs.Reaching.{only, methods_reaching, asks, is_plain, are_plain, is_parcelable}
use Rattle.compat_witness.specs.Reaching.{plain_value, with_value}

abbrev pub Row : Type 0
Row = List Decl → List Decl → Place → Option (List Candidate)

-- Of several rows

-- candidates under a condition
abbrev pub candidates_if : Bool → List Candidate → Option (List Candidate)
candidates_if met cs = if met then Some cs else None

abbrev pub is_empty : {X : Type 0} → List X → Bool
is_empty [] = true
is_empty (x ∷ xs) = false

-- the number in a schema of the declaration at a place, with what the schema has at it
abbrev pub decl_at : List Decl → List ℕ → (ℕ → Option (List Candidate)) → Option (List Candidate)
decl_at S name F = option_and_then F (declared_as S name)

-- both methods of a place, in old and in new
abbrev pub in_both : List Decl → List Decl → Place → (Spot → Spot → Option (List Candidate)) → Option (List Candidate)
in_both old new p F =
    option_and_then (λ s. option_and_then (F s) (spot_like old s.interface s.method new)) (spot_of old p)

-- the one argument of each method, where their ids are the same
abbrev pub both_only : Spot → Spot → Option (Arg × Arg)
both_only s w = if s.method.id == w.method.id
    then option_and_then (λ a. option_map (λ b. (a, b)) (only w.method.args)) (only s.method.args)
    else None

-- what is asked of these
abbrev pub of_only : (Spot → Spot → Arg → Arg → Option (List Candidate)) → Spot → Spot → Option (List Candidate)
of_only F s w = option_and_then (λ q. F s w q.0 q.1) (both_only s w)

-- both methods of a place, where their ids are the same and each has one argument
abbrev pub with_one : List Decl → List Decl → Place → (Spot → Spot → Arg → Arg → Option (List Candidate))
    → Option (List Candidate)
with_one old new p F = in_both old new p (of_only F)

-- the method has no arguments in both
abbrev pub are_empty : Spot → Spot → Bool
are_empty s w = is_empty s.method.args && is_empty w.method.args

-- the fields of a parcelable, and none of another kind
abbrev pub fields_of_parcelable : Option Decl → List Field
fields_of_parcelable None = []
fields_of_parcelable (Some d) = parcelable_fields d.kind

-- the fields of the parcelable of this number
abbrev pub fields_in : List Decl → ℕ → List Field
fields_in S k = fields_of_parcelable (slice_get S k)

-- the fields of a union, and none of another kind
abbrev pub alternatives_of_decl : Option Decl → List Field
alternatives_of_decl None = []
alternatives_of_decl (Some d) = union_fields d.kind

-- the fields of the union of this number
abbrev pub alternatives_in : List Decl → ℕ → List Field
alternatives_in S k = alternatives_of_decl (slice_get S k)

-- the types at each position below both counts are the same
abbrev pub types_agree : List Decl → List Field → List Decl → List Field → Bool
types_agree old fs new gs = list_all (λ x. same old x.0.ty new x.1.ty) (zip fs gs)

-- Row by row

-- C2: n is an enum in one schema and a parcelable or union in the other, and is reached: a request from the enum's
-- schema with 0.

-- the number of a kind, and 0 where there is no declaration
abbrev pub kind_of_decl : Option Decl → ℕ
kind_of_decl None = 0
kind_of_decl (Some d) = kind_code d.kind

abbrev pub kind_at : List Decl → ℕ → ℕ
kind_at S k = kind_of_decl (slice_get S k)

-- a parcelable or a union
abbrev pub is_record_kind : ℕ → Bool
is_record_kind n = (n == 1) || (n == 2)

abbrev pub ask_C2 : List Decl → ℕ → List Decl → ℕ → Option (List Candidate)
ask_C2 old k new l = if not (is_empty (methods_reaching old k new))
    then (if (kind_at old k == 3) && is_record_kind (kind_at new l)
    then Some (asks old_client (methods_reaching old k new) (number (pos 0) ∷ []))
    else (if (kind_at new l == 3) && is_record_kind (kind_at old k)
    then Some (asks new_client (methods_reaching new l old) (number (pos 0) ∷ []))
    else None))
    else None

abbrev pub row_C2 : Row
row_C2 old new p = decl_at old p (λ k. decl_at new p (λ l. ask_C2 old k new l))

-- C3: the method has no arguments, and new's interface of that name has a method with its id: a request from old.
-- `ws` are the methods of that interface.
abbrev pub ask_C3 : Spot → List Method → Option (List Candidate)
ask_C3 s ws = candidates_if (is_empty s.method.args && not (is_none (position_of_code ws (s.method.id + 1))))
    (request old_client s.interface s.position none ∷ [])

abbrev pub row_C3 : Row
row_C3 old new p = option_and_then
    (λ s. decl_at new (descriptor old s.interface) (λ j. ask_C3 s (methods_at new j))) (spot_of old p)

-- C4: no arguments in both: a request from old.
abbrev pub ask_C4 : Spot → Spot → Option (List Candidate)
ask_C4 s w = candidates_if (are_empty s w) (request old_client s.interface s.position none ∷ [])

abbrev pub row_C4 : Row
row_C4 old new p = in_both old new p ask_C4

-- C5: no arguments and two-way in both; each result is plain or void: a reply with z0 or nothing, either way.

-- a plain type, or none
abbrev pub is_plain_result : Option AidlType → Bool
is_plain_result None = true
is_plain_result (Some t) = is_plain t

-- z0 or nothing
abbrev pub low_result : Option AidlType → Option Data
low_result None = None
low_result (Some t) = Some (plain_value false t.base)

-- with z0 or nothing, either way
abbrev pub low_replies : Spot → Spot → List Candidate
low_replies s w =
    reply old_client s.interface s.position (Some (returned (low_result w.method.result) none))
    ∷ reply new_client w.interface w.position (Some (returned (low_result s.method.result) none))
    ∷ []

abbrev pub is_met_C5 : Spot → Spot → Bool
is_met_C5 s w = are_empty s w && (not (s.method.oneway || w.method.oneway)
    && (is_plain_result s.method.result && is_plain_result w.method.result))

abbrev pub ask_C5 : Spot → Spot → Option (List Candidate)
ask_C5 s w = candidates_if (is_met_C5 s w) (low_replies s w)

abbrev pub row_C5 : Row
row_C5 old new p = in_both old new p ask_C5

-- C6 at n.method: one schema has no arguments; the other has only plain `in` ones: a request from old with z0
-- everywhere.

-- `in` and plain
abbrev pub is_plain_in : Arg → Bool
is_plain_in a = is_in_way a.way && is_plain a.ty

-- z0 for each
abbrev pub low_arguments : List Arg → Items
low_arguments [] = none
low_arguments (a ∷ xs) = item (plain_value false a.ty.base) (low_arguments xs)

abbrev pub is_met_C6 : List Arg → List Arg → Bool
is_met_C6 xs ys = (is_empty xs && list_all is_plain_in ys) || (is_empty ys && list_all is_plain_in xs)

abbrev pub ask_C6 : Spot → Spot → Option (List Candidate)
ask_C6 s w = candidates_if (is_met_C6 s.method.args w.method.args)
    (request old_client s.interface s.position (low_arguments s.method.args) ∷ [])

abbrev pub row_C6 : Row
row_C6 old new p = in_both old new p ask_C6

-- C6 at n.method/k: exactly one argument in both, `in` and plain; the ids are the same: a request from old with z0.
abbrev pub ask_C6_at : Spot → Spot → Arg → Arg → Option (List Candidate)
ask_C6_at s w a b = candidates_if (is_plain_in a && is_plain_in b)
    (request old_client s.interface s.position (item (plain_value false a.ty.base) none) ∷ [])

-- the place is `n.method`
abbrev pub row_C6_at : Row
row_C6_at old new p = with_one old new p ask_C6_at

-- C7: exactly one argument in both, of the same type; the ids are the same; two-way and void in both; the type
-- isn't nullable and is a parcelable of shape one in both or an array of a built-in base. By the directions of old
-- and new: where one is `in`, a reply to that client with the default of the out; else a request from the `inout`
-- schema with the default, or with an array of one z0.

-- never null, and a parcelable in both or an array of a built-in base
abbrev pub is_sent_back : List Decl → AidlType → List Decl → AidlType → Bool
is_sent_back old t new u = not t.nullable && (if is_one t.shape
    then is_parcelable (form_of old t.base) && is_parcelable (form_of new u.base)
    else is_array t.shape && not (is_named t.base))

-- the default, or an array of one z0
abbrev pub sent_in_out : List Decl → AidlType → Data
sent_in_out S t = if is_one t.shape then zero_in S t else seq (item (plain_value false t.base) none)

abbrev pub ask_C7 : List Decl → List Decl → Spot → Spot → Arg → Arg → List Candidate
ask_C7 old new s w a b =
    if is_in_way a.way
    then reply old_client s.interface s.position (Some (returned None (item (zero_in new b.ty) none))) ∷ []
    else (if is_in_way b.way
    then reply new_client w.interface w.position (Some (returned None (item (zero_in old a.ty) none))) ∷ []
    else (if is_out a.way then request new_client w.interface w.position (item (sent_in_out new b.ty) none) ∷ []
    else request old_client s.interface s.position (item (sent_in_out old a.ty) none) ∷ []))

abbrev pub is_met_C7 : List Decl → List Decl → Spot → Spot → Arg → Arg → Bool
is_met_C7 old new s w a b = (same old a.ty new b.ty && is_sent_back old a.ty new b.ty)
    && (not (s.method.oneway || w.method.oneway) && (is_none s.method.result && is_none w.method.result))

abbrev pub asked_C7 : List Decl → List Decl → Spot → Spot → Arg → Arg → Option (List Candidate)
asked_C7 old new s w a b = candidates_if (is_met_C7 old new s w a b) (ask_C7 old new s w a b)

-- the place is `n.method`
abbrev pub row_C7 : Row
row_C7 old new p = with_one old new p (asked_C7 old new)

-- the place is `n.method/k`
abbrev pub row_C7_at : Row
row_C7_at old new p = option_and_then (λ q. row_C7 old new q.0) (at_slash p)

-- C8: no arguments in both: a reply to the two-way client.
abbrev pub ask_C8 : Spot → Spot → Option (List Candidate)
ask_C8 s w = candidates_if (are_empty s w) ((if s.method.oneway then reply new_client w.interface w.position None
    else reply old_client s.interface s.position None) ∷ [])

abbrev pub row_C8 : Row
row_C8 old new p = in_both old new p ask_C8

-- C10: n is reached, all its fields are plain in both, and types agree at each position below both counts: a
-- request from old with z0, then z1, in that field and defaults elsewhere.

-- z0 in the field at a position, then z1
abbrev pub low_then_high : List Decl → ℕ → List Field → List Data
low_then_high S x fs = rec (with_value S false x fs) ∷ rec (with_value S true x fs) ∷ []

-- of a declaration of both, which has the numbers k and l, and a position of its fields in old
abbrev pub FieldAsk : Type 0
FieldAsk = List Decl → ℕ → List Decl → ℕ → List Field → List Field → ℕ → Option (List Candidate)

-- the same at a name among the fields
abbrev pub ask_named : FieldAsk → List Decl → ℕ → List Decl → ℕ → List ℕ → List Field → List Field
    → Option (List Candidate)
ask_named F old k new l name fs gs = option_and_then (F old k new l fs gs) (position (λ f. same_text f.name.0 name) fs)

abbrev pub ask_C10 : FieldAsk
ask_C10 old k new l fs gs x = candidates_if
    (not (is_empty (methods_reaching old k new)) && ((are_plain fs && are_plain gs) && types_agree old fs new gs))
    (asks old_client (methods_reaching old k new) (low_then_high old x fs))

abbrev pub row_C10 : Row
row_C10 old new p = option_and_then (λ q. decl_at old q.0 (λ k. decl_at new q.0 (λ l.
    ask_named ask_C10 old k new l q.1 (fields_in old k) (fields_in new l)))) (at_last_dot p)

-- C11: n is reached, all its fields are plain in both and have the same names at each position; the counts are
-- equal; the place is the last field and the other types agree: a request with z0 there and defaults elsewhere,
-- either way.

-- the same names at each position, and as many
abbrev pub names_agree : List Field → List Field → Bool
names_agree [] [] = true
names_agree [] (g ∷ gs) = false
names_agree (f ∷ fs) [] = false
names_agree (f ∷ fs) (g ∷ gs) = same_text f.name.0 g.name.0 && names_agree fs gs

-- the position of the last field
abbrev pub is_last : ℕ → List Field → Bool
is_last x fs = x + 1 == length fs

-- with z0 in the field at a position, either way
abbrev pub low_either_way : List Decl → ℕ → List Decl → ℕ → ℕ → List Field → List Field → List Candidate
low_either_way old k new l x fs gs =
    asks old_client (methods_reaching old k new) (rec (with_value old false x fs) ∷ [])
    ++ asks new_client (methods_reaching new l old) (rec (with_value new false x gs) ∷ [])

abbrev pub ask_C11 : FieldAsk
ask_C11 old k new l fs gs x = candidates_if
    (not (is_empty (methods_reaching old k new))
    && ((are_plain fs && are_plain gs) && (names_agree fs gs && (is_last x fs && types_agree old (take x fs) new gs))))
    (low_either_way old k new l x fs gs)

abbrev pub row_C11 : Row
row_C11 old new p = option_and_then (λ q. decl_at old q.0 (λ k. decl_at new q.0 (λ l.
    ask_named ask_C11 old k new l q.1 (fields_in old k) (fields_in new l)))) (at_last_dot p)

-- C15 at n.oldname: the union n has that field in old at a position below both counts at which names or types
-- differ; n is reached and all its fields are plain in both: a request from old with that tag and z0.

-- both are there, and names or types differ
abbrev pub differ_at : List Decl → List Decl → Option Field → Option Field → Bool
differ_at old new (Some f) (Some g) = not (same_text f.name.0 g.name.0 && same old f.ty new g.ty)
differ_at old new (Some f) None = false
differ_at old new None g = false

-- z0 in the alternative at a position
abbrev pub low_alternative : ℕ → List Field → Data
low_alternative x fs = alt x (plain_value false (type_of_field (slice_get fs x)).base)

abbrev pub ask_C15 : FieldAsk
ask_C15 old k new l fs gs x = candidates_if
    (not (is_empty (methods_reaching old k new))
    && ((are_plain fs && are_plain gs) && differ_at old new (slice_get fs x) (slice_get gs x)))
    (asks old_client (methods_reaching old k new) (low_alternative x fs ∷ []))

abbrev pub row_C15 : Row
row_C15 old new p = option_and_then (λ q. decl_at old q.0 (λ k. decl_at new q.0 (λ l.
    ask_named ask_C15 old k new l q.1 (alternatives_in old k) (alternatives_in new l)))) (at_last_dot p)

-- C16: n is reached: a request with 0, then 200, either way.

-- 0, then 200
abbrev pub zero_and_200 : List Data
zero_and_200 = number (pos 0) ∷ number (pos 200) ∷ []

abbrev pub ask_C16 : List Decl → ℕ → List Decl → ℕ → Option (List Candidate)
ask_C16 old k new l = candidates_if (not (is_empty (methods_reaching old k new)))
    (asks old_client (methods_reaching old k new) zero_and_200
    ++ asks new_client (methods_reaching new l old) zero_and_200)

abbrev pub row_C16 : Row
row_C16 old new p = decl_at old p (λ k. decl_at new p (λ l. ask_C16 old k new l))
