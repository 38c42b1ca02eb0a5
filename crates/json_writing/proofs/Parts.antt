-- The values of a record, place by place.
use Rattle.std.proofs.Common.{◌≡◌, ◌<◌, ℕ, zero, suc, false, List, [], ◌∷◌, ◌++◌, Some, length, drop, get_or, option_map, slice_get, string_bytes, refl, sym, ap, subst, ◌∙◌, arith}
use Rattle.std.proofs.lemmas.List.Elements.{All-head, All-tail}
use Rattle.std.proofs.lemmas.Option.{same_Some}
use Rattle.std.specs.List.{All}
use Rattle.serde_json.specs.Data as json
use Rattle.serde_json.specs.Written.{compact_text, members_text}
use Rattle.aidl_schema.specs.declared.schema.Decl.{Decl}
use Rattle.aidl_schema.specs.declared.schema.Field.{Field}
use Rattle.aidl_schema.specs.declared.schema.AidlType.{AidlType}
use Rattle.aidl_values.specs.Data.{Data, null, rec}
use Rattle.aidl_values.specs.HasType.{HasType, FieldsHaveType}
use Rattle.aidl_values.specs.View.{items_of}
use Rattle.json_writing.specs.Json.{fields_of_type, json_of, json_members}
use Rattle.json_writing.specs.Named.{bytes_of, fields_in}
use Rattle.json_writing.specs.ValueText.{value_text}
use Rattle.json_writing.specs.declared.members.Member.{Member}
use Rattle.json_writing.specs.steps.Members.{IsOf, IsRow, IsTyped, members_from, part_text, row_text}
use Rattle.json_writing.specs.steps.Parts.{parts, part_at}

next : (all : List json.Data) (i : ℕ) (x : json.Data) (xs : List json.Data) → drop i all ≡ x ∷ xs → (get_or all i json.null ≡ x) × (drop (suc i) all ≡ xs)
next [] zero x xs e = cc
next [] (suc i) x xs e = cc
next (y ∷ ys) zero x xs e = (cc, cc)
next (y ∷ ys) (suc i) x xs e = next ys i x xs e

module _ (S : List Decl) where
  from_place : (all : List json.Data) (i : ℕ) (fs : List Field) (vs : List Data) → FieldsHaveType S fs (items_of vs) → drop i all ≡ parts S fs vs
      → members_from (λ k. get_or all k json.null) i fs ≡ json_members S fs (items_of vs)
  from_place all i [] vs typed here = refl
  from_place all i (f ∷ fs) [] typed here = elim typed [ ]
  from_place all i (f ∷ fs) (v ∷ vs) typed here =
      let two = next all i (json_of S f.ty v) (parts S fs vs) here in
      ap (λ (d : json.Data). json.put (bytes_of f.name) d (members_from (λ k. get_or all k json.null) (suc i) fs)) two.0
      ∙ ap (json.put (bytes_of f.name) (json_of S f.ty v)) (from_place all (suc i) fs vs typed.1 two.1)

  -- put together they are the members of the object
  pub members_by_part : (fs : List Field) (vs : List Data) → FieldsHaveType S fs (items_of vs) → members_from (part_at S fs vs) 0 fs ≡ json_members S fs (items_of vs)
  members_by_part fs vs typed = from_place (parts S fs vs) 0 fs vs typed refl

  -- the value at a place has the type of the field there, by which it is written
  at_place : (fs : List Field) (vs : List Data) (i : ℕ) (t : AidlType) → FieldsHaveType S fs (items_of vs) → option_map (λ (f : Field). f.ty) (slice_get fs i) ≡ Some t
      → (i < length vs) × HasType S t (get_or vs i null) × (part_at S fs vs i ≡ json_of S t (get_or vs i null))
  at_place [] vs i t typed is = cc
  at_place (f ∷ fs) [] i t typed is = elim typed [ ]
  at_place (f ∷ fs) (v ∷ vs) zero t typed is =
      let same : f.ty ≡ t = same_Some f.ty t is in (omega arith, subst (λ (u : AidlType). HasType S u v) same typed.0, ap (λ (u : AidlType). json_of S u v) same)
  at_place (f ∷ fs) (v ∷ vs) (suc i) t typed is = let below = at_place fs vs i t typed.1 is in (omega (arith, below.0), below.1, below.2)

  -- each member's value has the member's type
  pub row_typed : (fs : List Field) (vs : List Data) (row : List Member) → FieldsHaveType S fs (items_of vs) → All (IsOf fs) row → All (IsTyped S vs) row
  row_typed fs vs row typed of k d lies = let here = at_place fs vs (get_or row k d).place (get_or row k d).ty typed (of k d lies) in (here.0, here.1)

  -- and by it the row is written
  pub row_written : (fs : List Field) (vs : List Data) (row : List Member) → FieldsHaveType S fs (items_of vs) → All (IsOf fs) row
      → row_text (part_text S vs) row ≡ row_text (λ m. compact_text (part_at S fs vs m.place)) row
  row_written fs vs [] typed of = refl
  row_written fs vs (m ∷ row) typed of =
      let here = at_place fs vs m.place m.ty typed (All-head (IsOf fs) m row of) in
      ap (λ (x : List ℕ). string_bytes m.key ++ (x ++ row_text (part_text S vs) row)) (sym (ap compact_text here.2))
      ∙ ap (λ (x : List ℕ). string_bytes m.key ++ (compact_text (part_at S fs vs m.place) ++ x)) (row_written fs vs row typed (All-tail (IsOf fs) m row of))

-- A record's text, by a row of its members.
module _ (S : List Decl) (t : AidlType) (vs : List Data) where
  pub typed_fields : HasType S t (rec (items_of vs)) → FieldsHaveType S (fields_of_type S t) (items_of vs)
  typed_fields typed = subst (λ (fs : List Field). FieldsHaveType S fs (items_of vs)) (sym (ap fields_in typed.2)) typed.3

  pub record_text : (later : List Decl) (row given : List Member) → HasType S t (rec (items_of vs)) → IsRow (fields_of_type S t) row → later ≡ S → given ≡ row
      → 123 ∷ (row_text (part_text later vs) given ++ 125 ∷ []) ≡ value_text S t (rec (items_of vs))
  record_text later row given typed is same as_given =
      let all = fields_of_type S t in
      ap (λ (z : List Decl). 123 ∷ (row_text (part_text z vs) given ++ 125 ∷ [])) same
      ∙ ap (λ (z : List Member). 123 ∷ (row_text (part_text S vs) z ++ 125 ∷ [])) as_given
      ∙ ap (λ (z : List ℕ). 123 ∷ (z ++ 125 ∷ [])) (row_written S all vs row (typed_fields typed) is.1)
      ∙ ap (λ (z : List ℕ). 123 ∷ z) (is.0 (λ i. part_at S all vs i) ∙ ap (members_text false) (members_by_part S all vs (typed_fields typed)))
