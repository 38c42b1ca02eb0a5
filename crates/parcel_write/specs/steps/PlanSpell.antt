-- Spelling by plans, as plain functions on the items: the spelling by the types for which the plans stand
-- (proofs/SameSpellings.antt).
use Rattle.std.specs.Prelude.{ℕ, ◌<◌, ◌^◌, ℤ, pos, negsuc, Bool, true, false, if◌then◌else◌, List, [], ◌∷◌, ◌++◌}
use Rattle.std.specs.Prelude.{Option, Some, None, slice_get, FitsSigned, MatchBool}
use Rattle.std.specs.Int.{w32}
use Rattle.aidl_base.specs.Words.{word, long_word, pad}
use Rattle.aidl_values.specs.Data.{Data, null, truth, number, text, seq, rec, alt, Items, none, item, count}
use Rattle.wire_model.specs.Spell.{spell_truth, spell_text, raw_bytes, body}
use Rattle.marshal_plans.specs.declared.plans.PlanField.{PlanField}
use Rattle.marshal_plans.specs.declared.plans.PlanId.{PlanId}
use Rattle.marshal_plans.specs.declared.plans.PlanItem.{PlanItem}
use Rattle.marshal_plans.specs.declared.plans.PlanItem.TheVariants.{Long, Raw, Seq, Rec, Alt}
use Rattle.marshal_plans.specs.declared.plans.Plans.{Plans}
use Rattle.marshal_plans.specs.Standing.{entries_of}
use Rattle.parcel_write.specs.steps.Bytes.{AreByteValues}

-- a long in two words, any other number in one
abbrev pub number_by : Option PlanItem → ℤ → List ℕ
number_by (Some Long) n = long_word n
number_by _ n = word n

-- null of a parcelable or union, and of anything else
abbrev pub null_word_by : Option PlanItem → ℤ
null_word_by (Some (Rec nullable first count)) = pos 0
null_word_by (Some (Alt nullable first count)) = pos 0
null_word_by _ = negsuc 0

abbrev pub is_raw_item : Option PlanItem → Bool
is_raw_item (Some (Raw nullable)) = true
is_raw_item _ = false

-- the id of no item of interest
abbrev pub first_id : PlanId
first_id = record { 0 = 0 }

-- of an element of a sequence
abbrev pub element_of : Option PlanItem → PlanId
element_of (Some (Seq nullable element)) = element
element_of _ = first_id

-- the fields of a parcelable; none of what is no parcelable
abbrev pub record_entries : List PlanField → Option PlanItem → List PlanField
record_entries entries (Some (Rec nullable first count)) = entries_of entries first count
record_entries entries _ = []

-- the fields of a union; none of what is no union
abbrev pub union_entries : List PlanField → Option PlanItem → List PlanField
union_entries entries (Some (Alt nullable first count)) = entries_of entries first count
union_entries entries _ = []

abbrev pub id_of_entry : Option PlanField → PlanId
id_of_entry None = first_id
id_of_entry (Some g) = g.item

abbrev pub item_of : Plans → PlanId → Option PlanItem
item_of plans id = slice_get plans.items id.0

abbrev mutual
  -- a value, by its item
  pub plan_spell : Plans → PlanId → Data → List ℕ
  plan_spell plans id (truth b) = spell_truth b
  plan_spell plans id (number n) = number_by (item_of plans id) n
  plan_spell plans id (text x) = spell_text x
  plan_spell plans id null = word (null_word_by (item_of plans id))
  plan_spell plans id (seq vs) = word (pos (count vs)) ++ (if is_raw_item (item_of plans id) then pad (raw_bytes vs)
      else plan_spell_items plans (element_of (item_of plans id)) vs)
  plan_spell plans id (rec vs) = word (pos 1)
      ++ body (plan_spell_entries plans (record_entries plans.fields (item_of plans id)) vs)
  plan_spell plans id (alt k v) = word (pos 1) ++ word (pos k)
      ++ plan_spell plans (id_of_entry (slice_get (union_entries plans.fields (item_of plans id)) k)) v

  -- the elements of a sequence
  pub plan_spell_items : Plans → PlanId → Items → List ℕ
  plan_spell_items plans id none = []
  plan_spell_items plans id (item v vs) = plan_spell plans id v ++ plan_spell_items plans id vs

  -- the fields of a record
  pub plan_spell_entries : Plans → List PlanField → Items → List ℕ
  plan_spell_entries plans [] none = []
  plan_spell_entries plans [] (item v vs) = []
  plan_spell_entries plans (g ∷ gs) none = []
  plan_spell_entries plans (g ∷ gs) (item v vs) = plan_spell plans g.item v ++ plan_spell_entries plans gs vs

-- The number fits the words of the item.
abbrev pub SuitsNumber : Option PlanItem → ℤ → Type 0
SuitsNumber (Some Long) n = Unit {0}
SuitsNumber _ n = FitsSigned w32 n

abbrev mutual
  -- The value is such that it can be written by the item: its numbers fit, tags are small, and a record has a value
  -- for each field.
  pub Suits : Plans → PlanId → Data → Type 0
  Suits plans id (truth b) = Unit {0}
  Suits plans id (number n) = SuitsNumber (item_of plans id) n
  Suits plans id (text x) = Unit {0}
  Suits plans id null = Unit {0}
  Suits plans id (seq vs) = MatchBool (is_raw_item (item_of plans id)) (AreByteValues vs)
      (EachSuits plans (element_of (item_of plans id)) vs)
  Suits plans id (rec vs) = EntriesSuit plans (record_entries plans.fields (item_of plans id)) vs
  Suits plans id (alt k v) = (k < 2 ^ 31)
      × Suits plans (id_of_entry (slice_get (union_entries plans.fields (item_of plans id)) k)) v

  pub EachSuits : Plans → PlanId → Items → Type 0
  EachSuits plans id none = Unit {0}
  EachSuits plans id (item v vs) = Suits plans id v × EachSuits plans id vs

  pub EntriesSuit : Plans → List PlanField → Items → Type 0
  EntriesSuit plans [] none = Unit {0}
  EntriesSuit plans [] (item v vs) = ⊥
  EntriesSuit plans (g ∷ gs) none = ⊥
  EntriesSuit plans (g ∷ gs) (item v vs) = Suits plans g.item v × EntriesSuit plans gs vs
