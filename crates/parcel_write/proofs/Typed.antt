-- What the parts of a value of an item have, and their spellings one after the other.
use Rattle.std.proofs.Common.{◌≡◌, ℕ, suc, ◌+◌, ◌<◌, List, [], ◌∷◌, ◌++◌, length, drop, get_or, Some, slice_get, refl, sym, ap, ◌∙◌, arith, subst}
use Rattle.std.proofs.lemmas.List.{drop_more}
use Rattle.std.proofs.lemmas.Option.{slice_get_within}
use Rattle.aidl_values.specs.Data.{Data, Items, item}
use Rattle.aidl_values.specs.View.{items_of, view, views}
use Rattle.aidl_values.specs.declared.value.Value.{Value}
use Rattle.aidl_values.proofs.lemmas.Nexts.{next_of_rest}
use Rattle.marshal_plans.specs.declared.plans.PlanField.{PlanField}
use Rattle.marshal_plans.specs.declared.plans.PlanId.{PlanId}
use Rattle.marshal_plans.specs.declared.plans.Plans.{Plans}
use Rattle.parcel_write.specs.steps.PlanSpell.{EachSuits, EntriesSuit, Suits, plan_spell, plan_spell_entries, plan_spell_items}

-- there are as many values as fields
pub same_count : (P : Plans) (gs : List PlanField) (ds : List Data) → EntriesSuit P gs (items_of ds) → length gs ≡ length ds
same_count P [] [] h = refl
same_count P [] (d ∷ ds) h = elim h [ ]
same_count P (g ∷ gs) [] h = elim h [ ]
same_count P (g ∷ gs) (d ∷ ds) h = ap suc (same_count P gs ds h.1)

-- of the data that are left, the first and the others
pub next_data : (ds : List Data) (i : ℕ) (d : Data) → slice_get ds i ≡ Some d → items_of (drop i ds) ≡ item d (items_of (drop (i + 1) ds))
next_data ds i d is = ap items_of (next_of_rest ds i d is)

-- the same of values
pub next_view : (vs : List Value) (i : ℕ) (v : Value) → i < length vs → v ≡ get_or vs i v → views (drop i vs) ≡ item (view v) (views (drop (i + 1) vs))
next_view vs i v lt is = ap views (drop_more vs i v lt ∙ ap (λ w. w ∷ drop (i + 1) vs) (sym is))

-- of elements, the first and the others
module _ (P : Plans) (id : PlanId) (all : Items) (d : Data) (others : Items) (are : all ≡ item d others) where
  pub element_suits : EachSuits P id all → Suits P id d × EachSuits P id others
  element_suits h = subst (λ vs. EachSuits P id vs) are h

  pub element_spelled : plan_spell_items P id all ≡ plan_spell P id d ++ plan_spell_items P id others
  element_spelled = ap (λ vs. plan_spell_items P id vs) are

-- of the fields that are left, the first and the others
module _ (P : Plans) (gs : List PlanField) (ds : List Data) (i : ℕ) (g : PlanField) (d : Data) (same : length gs ≡ length ds) (there : slice_get ds i ≡ Some d) where
  this_field : drop i gs ≡ get_or gs i g ∷ drop (i + 1) gs
  this_field = let lt = slice_get_within ds i d there in drop_more gs i g (omega (arith, lt, same))

  pub field_suits : EntriesSuit P (drop i gs) (items_of (drop i ds)) → Suits P (get_or gs i g).item d × EntriesSuit P (drop (i + 1) gs) (items_of (drop (i + 1) ds))
  field_suits h = subst (λ vs. EntriesSuit P (get_or gs i g ∷ drop (i + 1) gs) vs) (next_data ds i d there) (subst (λ hs. EntriesSuit P hs (items_of (drop i ds))) this_field h)

  pub field_spelled : plan_spell_entries P (drop i gs) (items_of (drop i ds)) ≡ plan_spell P (get_or gs i g).item d ++ plan_spell_entries P (drop (i + 1) gs) (items_of (drop (i + 1) ds))
  field_spelled = ap (λ hs. plan_spell_entries P hs (items_of (drop i ds))) this_field ∙ ap (λ vs. plan_spell_entries P (get_or gs i g ∷ drop (i + 1) gs) vs) (next_data ds i d there)
