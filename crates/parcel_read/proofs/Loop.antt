-- Reading items one after the other, as a loop does.
use Rattle.std.proofs.Common.{◌≡◌, true, false, ℕ, suc, ◌-◌, ◌+◌, ◌≤◌, ◌<◌, ℤ, List, [], ◌∷◌, ◌++◌, Result, Ok, Err, refl, sym, ap, ◌∙◌, arith, length, map, drop, get_or, add-one, drop-cons}
use Rattle.std.proofs.lemmas.List.{drop_all}
use Rattle.aidl_base.specs.Readings.{Read, ◌>>=◌}
use Rattle.aidl_values.specs.Data.{Data, Items, item}
use Rattle.aidl_values.specs.View.{items_of}
use Rattle.aidl_values.proofs.lemmas.Fronts.{onto, onto-items, onto-push, onto-none, with_front, front_more}
use Rattle.parcel_words.specs.declared.fault.ReadFault.{ReadFault}
use Rattle.parcel_words.specs.Taken.{RefusesIfMemory}
use Rattle.parcel_words.proofs.lemmas.Faults.{fails_as}
use Rattle.wire_model.specs.ReadOf.{each_at, field_at, fields_at}
use Rattle.marshal_plans.specs.declared.plans.PlanField.{PlanField}

-- what was read before, and what is still read
abbrev pub with_items : List Data → Read Items → Read Items
with_items front reading = reading >>= λ x. Ok (onto front x.0, x.1)

regroup : (front : List Data) (d : Data) (reading : Read Items) → with_items front (reading >>= λ x. Ok (item d x.0, x.1)) ≡ with_items (front ++ d ∷ []) reading
regroup front d (Ok x) = ap (λ (vs : Items). Ok (vs, x.1)) (sym (onto-push front d x.0))
regroup front d (Err s) = refl

module _ (read : List ℕ → Read Data) (front : List Data) (count i : ℕ) (b : List ℕ) (total : Read Items) (so_far : with_items front (each_at read (count - i) b) ≡ total) where
  pub goes_on : (d : Data) (rest : List ℕ) → i < count → read b ≡ Ok (d, rest) → with_items (front ++ d ∷ []) (each_at read (count - (i + 1)) rest) ≡ total
  goes_on d rest lt h =
      let k : count - i ≡ suc (count - (i + 1)) = omega arith in
      let one : with_items front (each_at read (count - i) b) ≡ with_items (front ++ d ∷ []) (each_at read (count - (i + 1)) rest) = rw (k, h) (regroup front d (each_at read (count - (i + 1)) rest)) in
      sym one ∙ so_far

  stops : i < count → (s : ℤ) → read b ≡ Err s → total ≡ Err s
  stops lt s h =
      let k : count - i ≡ suc (count - (i + 1)) = omega arith in
      let one : with_items front (each_at read (count - i) b) ≡ Err s = rw (k, h) refl in
      sym so_far ∙ one

  pub ends : (e : ReadFault) → i < count → RefusesIfMemory e (read b) → RefusesIfMemory e total
  ends e lt h = fails_as e (read b) total (λ s k. stops lt s k) h

  pub is_done : count ≤ i → total ≡ Ok (items_of front, b)
  is_done le =
      let k : count - i ≡ 0 = omega arith in
      let one : with_items front (each_at read (count - i) b) ≡ Ok (items_of front, b) = rw k (ap (λ (vs : Items). Ok (vs, b)) (onto-none front)) in
      sym so_far ∙ one

-- where no bytes are left, all fields are defaults
all_left : (initial : PlanField → Data) (read : PlanField → List ℕ → Read Data) (fs : List PlanField) → fields_at initial read fs [] ≡ Ok (items_of (map initial fs))
all_left initial read [] = refl
all_left initial read (f ∷ fs) = ap (λ (others : Result Items ℤ). others >>= λ vs. Ok (item (initial f) vs)) (all_left initial read fs)

-- where some are, a field is read
pub field_there : (initial : PlanField → Data) (read : PlanField → List ℕ → Read Data) (f : PlanField) (b : List ℕ) → (b ≡ [] → false ≡ true) → field_at initial read f b ≡ read f b
field_there initial read f [] some = let never : false ≡ true = some refl in cc
field_there initial read f (x ∷ b) some = refl

-- the same of a record's fields
module _ (initial : PlanField → Data) (read : PlanField → List ℕ → Read Data) (front : List Data) (fs : List PlanField) (i : ℕ) (b : List ℕ) (total : Result Items ℤ) (so_far : with_front front (fields_at initial read (drop i fs) b) ≡ total) where
  next_field : (f : PlanField) → i < length fs → f ≡ get_or fs i f → drop i fs ≡ f ∷ drop (i + 1) fs
  next_field f lt is = rw add-one (drop-cons fs i f lt ∙ ap (λ g. g ∷ drop (suc i) fs) (sym is))

  -- the first field, and then the others
  abbrev first_of : Read Data → Result Items ℤ
  first_of x = with_front front (x >>= λ first. fields_at initial read (drop (i + 1) fs) first.1 >>= λ others. Ok (item first.0 others))

  as_first : (f : PlanField) → i < length fs → f ≡ get_or fs i f → with_front front (fields_at initial read (drop i fs) b) ≡ first_of (field_at initial read f b)
  as_first f lt is = ap (λ gs. with_front front (fields_at initial read gs b)) (next_field f lt is)

  pub field_on : (f : PlanField) (d : Data) (rest : List ℕ) → i < length fs → f ≡ get_or fs i f → field_at initial read f b ≡ Ok (d, rest)
      → with_front (front ++ d ∷ []) (fields_at initial read (drop (i + 1) fs) rest) ≡ total
  field_on f d rest lt is h =
      let one : with_front front (fields_at initial read (drop i fs) b) ≡ first_of (Ok (d, rest)) = as_first f lt is ∙ ap first_of h in
      sym (one ∙ front_more front d (fields_at initial read (drop (i + 1) fs) rest)) ∙ so_far

  pub field_ends : (f : PlanField) (e : ReadFault) → i < length fs → f ≡ get_or fs i f → RefusesIfMemory e (field_at initial read f b) → RefusesIfMemory e total
  field_ends f e lt is h = fails_as e (field_at initial read f b) total (λ s k. sym so_far ∙ as_first f lt is ∙ ap first_of k) h

  pub fields_left : b ≡ [] → total ≡ Ok (items_of (front ++ map initial (drop i fs)))
  fields_left none_left =
      sym so_far ∙ ap (λ c. with_front front (fields_at initial read (drop i fs) c)) none_left ∙ ap (λ vs. with_front front vs) (all_left initial read (drop i fs))
      ∙ ap (λ (vs : Items). Ok vs) (onto-items front (map initial (drop i fs)))

  pub fields_done : length fs ≤ i → total ≡ Ok (items_of front)
  fields_done le =
      let none_left : drop i fs ≡ [] = drop_all i fs le in
      sym so_far ∙ ap (λ gs. with_front front (fields_at initial read gs b)) none_left ∙ ap (λ vs. Ok vs) (onto-none front)
