-- Elements that are read as a row of their own type are those that are read as values.
use Rattle.std.proofs.Common.{◌≡◌, ℕ, zero, suc, ◌<◌, ◌-◌, Bool, Some, slice_get, pos, List, [], ◌∷◌, map, Result, Ok, Err, refl, sym, ap, ◌∙◌, subst}
use Rattle.std.specs.Int.{w8, cast_signed}
use Rattle.aidl_base.specs.Readings.{Read, ◌>>=◌, items_at}
use Rattle.aidl_base.specs.declared.profile.Profile.{Profile}
use Rattle.aidl_values.specs.Data.{Data, Items, item, number, seq}
use Rattle.aidl_values.specs.View.{items_of, view, datas}
use Rattle.aidl_values.specs.declared.value.Value.{Value}
use Rattle.aidl_values.specs.declared.value.Elements.TheVariants as elements
use Rattle.aidl_values.proofs.lemmas.Views.{datas_bytes, datas_chars}
use Rattle.aidl_values.specs.steps.Levels.{is_level_left}
use Rattle.marshal_plans.specs.declared.plans.PlanId.{PlanId}
use Rattle.marshal_plans.specs.declared.plans.PlanItem.{PlanItem}
use Rattle.marshal_plans.specs.declared.plans.Plans.{Plans}
use Rattle.parcel_words.specs.declared.fault.ReadFault.{ReadFault}
use Rattle.parcel_words.specs.Taken.{RefusesIfMemory, TakesIfMemory}
use Rattle.parcel_words.proofs.lemmas.Faults.{fails_as}
use Rattle.parcel_read.specs.steps.PlanDefault.{initial_by_plan}
use Rattle.parcel_read.specs.steps.PlanRead.{item_at, plan_parts}
use Rattle.parcel_read.specs.steps.Rows.{row_at}
use Rattle.parcel_read.proofs.Levels.{plan_read-item, plan_parts-below}
use Rattle.wire_model.specs.ReadOf.{char_data, each_at, raw_items, read_as}

-- what is read, as data
abbrev pub as_items : {A : Type 0} → (A → Data) → Read (List A) → Read Items
as_items seen reading = reading >>= λ x. Ok (items_of (map seen x.0), x.1)

first_then : {A : Type 0} (seen : A → Data) (read : List ℕ → Read A) (n : ℕ) (first : Read A)
    → ((b : List ℕ) → each_at (λ c. read_as seen (read c)) n b ≡ as_items seen (items_at read n b))
    → (read_as seen first >>= λ x. each_at (λ c. read_as seen (read c)) n x.1 >>= λ others. Ok (item x.0 others.0, others.1))
    ≡ as_items seen (first >>= λ x. items_at read n x.1 >>= λ others. Ok (x.0 ∷ others.0, others.1))
first_then seen read n (Err s) h = refl
first_then seen read n (Ok x) h = rw (h x.1) (then (items_at read n x.1))
  where
    then : (others : Read (List _)) → (as_items seen others >>= λ vs. Ok (item (seen x.0) vs.0, vs.1)) ≡ as_items seen (others >>= λ ys. Ok (x.0 ∷ ys.0, ys.1))
    then (Ok ys) = refl
    then (Err s) = refl

pub each_is : {A : Type 0} (seen : A → Data) (read : List ℕ → Read A) (n : ℕ) (b : List ℕ) → each_at (λ c. read_as seen (read c)) n b ≡ as_items seen (items_at read n b)
each_is seen read zero b = refl
each_is seen read (suc n) b = first_then seen read n (read b) (λ c. each_is seen read n c)

pub row_is : {A : Type 0} (seen : A → Data) (read : List ℕ → Read A) (n : ℕ) (b : List ℕ) → row_at (λ c. read_as seen (read c)) n b
    ≡ (as_items seen (items_at read n b) >>= λ vs. Ok (seq vs.0, vs.1))
row_is seen read n b = ap (λ x. x >>= λ vs. Ok (seq vs.0, vs.1)) (each_is seen read n b)

-- so many were read
pub row_taken : {A : Type 0} (seen : A → Data) (read : List ℕ → Read A) (n : ℕ) (b rest : List ℕ) (xs : List A) → items_at read n b ≡ Ok (xs, rest)
    → row_at (λ c. read_as seen (read c)) n b ≡ Ok (seq (items_of (map seen xs)), rest)
row_taken seen read n b rest xs h = row_is seen read n b ∙ ap (λ x. as_items seen x >>= λ vs. Ok (seq vs.0, vs.1)) h

-- or one was refused
pub row_refused : {A : Type 0} (seen : A → Data) (read : List ℕ → Read A) (n : ℕ) (b : List ℕ) (fault : ReadFault) → RefusesIfMemory fault (items_at read n b)
    → RefusesIfMemory fault (row_at (λ c. read_as seen (read c)) n b)
row_refused seen read n b fault h =
    fails_as fault (items_at read n b) (row_at (λ c. read_as seen (read c)) n b) (λ s e. row_is seen read n b ∙ ap (λ x. as_items seen x >>= λ vs. Ok (seq vs.0, vs.1)) e) h

-- bytes as elements
raw_is : (bytes : List ℕ) → items_of (map number (map (λ b. cast_signed w8 b) bytes)) ≡ raw_items bytes
raw_is [] = refl
raw_is (b ∷ bytes) = ap (item (number (cast_signed w8 b))) (raw_is bytes)

pub bytes_are : (bytes : List ℕ) → items_of (datas (elements.Bytes bytes)) ≡ raw_items bytes
bytes_are bytes = ap items_of (datas_bytes bytes) ∙ raw_is bytes

-- code units as elements
numbers_are : (units : List ℕ) → map number (map pos units) ≡ map char_data units
numbers_are [] = refl
numbers_are (u ∷ units) = ap (λ ds. number (pos u) ∷ ds) (numbers_are units)

pub chars_are : (units : List ℕ) → datas (elements.Chars units) ≡ map char_data units
chars_are units = datas_chars units ∙ numbers_are units

-- Elements that are read alike one by one are read alike together.
-- the first, and then the others
abbrev with_others : (List ℕ → Read Items) → Read Data → Read Items
with_others others first = first >>= λ x. others x.1 >>= λ vs. Ok (item x.0 vs.0, vs.1)

alike_then : (f g : List ℕ → Read Items) → ((b : List ℕ) → f b ≡ g b) → (first : Read Data) → with_others f first ≡ with_others g first
alike_then f g h (Ok x) = let after : Read Items → Read Items = λ y. y >>= λ vs. Ok (item x.0 vs.0, vs.1) in ap after (h x.1)
alike_then f g h (Err s) = refl

each_alike : (f g : List ℕ → Read Data) → ((b : List ℕ) → f b ≡ g b) → (n : ℕ) (b : List ℕ) → each_at f n b ≡ each_at g n b
each_alike f g alike zero b = refl
each_alike f g alike (suc n) b = ap (with_others (λ c. each_at f n c)) (alike b) ∙ alike_then (λ c. each_at f n c) (λ c. each_at g n c) (λ c. each_alike f g alike n c) (g b)

pub row_alike : (f g : List ℕ → Read Data) → ((b : List ℕ) → f b ≡ g b) → (n : ℕ) (b : List ℕ) → row_at f n b ≡ row_at g n b
row_alike f g alike n b = ap (λ x. x >>= λ vs. Ok (seq vs.0, vs.1)) (each_alike f g alike n b)

-- An element of an item is read as the item is.
module _ (p : Profile) (P : Plans) (levels : ℕ) (id : PlanId) (inside : Bool) (some : 0 < levels) where
  element_is : (i : PlanItem) → slice_get P.items id.0 ≡ Some i → (b : List ℕ)
      → item_at p (is_level_left (levels - 1)) (λ g. initial_by_plan P g) (λ u j c. plan_parts p P (levels - 1) u j c) P.fields i inside b ≡ plan_parts p P levels id inside b
  element_is i at b = plan_read-item p P (levels - 1) id inside b i at ∙ sym (plan_parts-below p P levels id inside b some)

  -- Elements that were read by their item were read as the sequence has them.
  pub packed : (i : PlanItem) → slice_get P.items id.0 ≡ Some i → (n : ℕ) (b rest : List ℕ) (r : Result Value ReadFault)
      → TakesIfMemory view r (row_at (λ c. item_at p (is_level_left (levels - 1)) (λ g. initial_by_plan P g) (λ u j d. plan_parts p P (levels - 1) u j d) P.fields i inside c) n b) rest
      → TakesIfMemory view r (row_at (λ c. plan_parts p P levels id inside c) n b) rest
  packed i at n b rest r h =
      subst (λ (x : Read Data). TakesIfMemory view r x rest)
      (row_alike (λ c. item_at p (is_level_left (levels - 1)) (λ g. initial_by_plan P g) (λ u j d. plan_parts p P (levels - 1) u j d) P.fields i inside c) (λ c. plan_parts p P levels id inside c) (element_is i at) n b) h
