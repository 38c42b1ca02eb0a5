-- A record's fields are read of the bytes of its body.
use Rattle.std.proofs.Common.{◌≡◌, ℕ, ℤ, ◌≤◌, Bool, List, ◌++◌, length, map, drop, Result, Ok, Err, refl, ap, ◌∙◌, arith}
use Rattle.std.proofs.lemmas.List.{drop-map, length-map}
use Rattle.aidl_base.specs.Readings.{Read, ◌>>=◌}
use Rattle.marshal_plans.specs.declared.plans.PlanField.{PlanField}
use Rattle.aidl_values.specs.Data.{Data, Items, rec}
use Rattle.aidl_values.specs.Given.{given_then}
use Rattle.aidl_values.specs.View.{items_of, view, views}
use Rattle.aidl_values.specs.declared.value.Value.{Value}
use Rattle.aidl_values.specs.declared.value.Value.TheVariants as value
use Rattle.aidl_values.specs.declared.value.Fields.TheVariants as fields
use Rattle.aidl_values.proofs.lemmas.Views.{view_of_rec, fields_whole}
use Rattle.parcel_words.specs.Place.{Place, left, closed, size_at, MovesOn, Enters, is_inside}
use Rattle.parcel_words.specs.Taken.{RefusesIfMemory}
use Rattle.parcel_words.specs.declared.fault.ReadFault.{ReadFault}
use Rattle.parcel_read.specs.steps.Rows.{as_record}
use Rattle.wire_model.specs.ReadOf.{body_at, body_value_at, fields_at}
use Rattle.parcel_words.proofs.lemmas.Faults.{fails_as}
use Rattle.parcel_words.proofs.lemmas.Records as cursor

-- a record that was entered at p, and left when the reader was at r
pub body_is : (p q r : Place) → Enters p q → MovesOn q r → body_at (is_inside p) (left p) ≡ Ok (left q, left (closed r))
unfolding body_at
body_is p q r enters on = cursor.body_is p q r enters on

body_steps : (inside : Bool) (b : List ℕ) → body_at inside b ≡ cursor.after_size (size_at inside b)
unfolding body_at
body_steps inside b = cursor.body_steps inside b

module _ (initial : PlanField → Data) (read : PlanField → List ℕ → Read Data) where
  -- after a record's bytes
  abbrev with_fields_of : List PlanField → Read (List ℕ) → Read Data
  with_fields_of fs body = body >>= λ x. fields_at initial read fs x.0 >>= λ vs. Ok (rec vs, x.1)

  abbrev record_and_rest : List ℕ → Result Items ℤ → Read Data
  record_and_rest rest vs = vs >>= λ x. Ok (rec x, rest)

  -- a record, and then the bytes after it
  abbrev and_rest : List ℕ → Result Data ℤ → Read Data
  and_rest rest d = d >>= λ v. Ok (v, rest)

  in_steps : (rest : List ℕ) (vs : Result Items ℤ) → record_and_rest rest vs ≡ and_rest rest (as_record vs)
  in_steps rest (Ok vs) = refl
  in_steps rest (Err s) = refl

  pub record_is : (fs : List PlanField) (inside : Bool) (b inner rest : List ℕ) (d : Data) → body_at inside b ≡ Ok (inner, rest) → as_record (fields_at initial read fs inner) ≡ Ok d
      → body_value_at initial read fs inside b ≡ Ok (d, rest)
  unfolding body_value_at
  record_is fs inside b inner rest d body h = ap (with_fields_of fs) body ∙ in_steps rest (fields_at initial read fs inner) ∙ ap (and_rest rest) h

  pub record_fails : (fs : List PlanField) (inside : Bool) (b inner rest : List ℕ) (e : ReadFault) → body_at inside b ≡ Ok (inner, rest) → RefusesIfMemory e (fields_at initial read fs inner)
      → RefusesIfMemory e (body_value_at initial read fs inside b)
  unfolding body_value_at
  record_fails fs inside b inner rest e body h =
      fails_as e (fields_at initial read fs inner) (body_value_at initial read fs inside b) (λ s k. ap (with_fields_of fs) body ∙ ap (record_and_rest rest) k) h

  pub no_record : (fs : List PlanField) (inside : Bool) (b : List ℕ) (e : ReadFault) → RefusesIfMemory e (size_at inside b) → RefusesIfMemory e (body_value_at initial read fs inside b)
  unfolding body_value_at
  no_record fs inside b e h =
      fails_as e (size_at inside b) (body_value_at initial read fs inside b) (λ s k. ap (with_fields_of fs) (body_steps inside b ∙ ap cursor.after_size k)) h

-- a record of which all values were read
pub whole_seen : (vs : List Value) → view (value.Rec (fields.Whole vs)) ≡ rec (views vs)
whole_seen vs = view_of_rec (fields.Whole vs) ∙ ap (λ ds. rec (items_of ds)) (fields_whole vs)

-- The values that were read, and behind them those of the other fields.
module _ {F : Type 0} (value_of : F → Data) (fs : List F) (vs row : List Value) (i : ℕ) (many : length vs ≡ i) (are : map view row ≡ map value_of fs) where
  pub first_seen : given_then (map view vs) (map view row) ≡ map view vs ++ map value_of (drop i fs)
  first_seen =
      ap (λ ds. map view vs ++ ds) (ap (λ n. drop n (map view row)) (length-map vs view ∙ many) ∙ ap (drop i) are ∙ drop-map value_of i fs)

  pub first_fit : i ≤ length fs → length vs ≤ length row
  first_fit le = omega (arith, many, length-map row view, length-map fs value_of, ap length are)
