-- Defaults by plans, as plain functions on the items: those of the types for which the plans stand
-- (proofs/Defaults.antt).
use Rattle.std.specs.Prelude.{ℕ, zero, suc, pos, false, if◌then◌else◌, List, [], ◌∷◌, map, Option, Some, None}
use Rattle.std.specs.Prelude.{slice_get}
use Rattle.aidl_values.specs.Data.{Data, null, truth, number, text, seq, rec, alt, Items, none}
use Rattle.aidl_values.specs.Default.{initial_or}
use Rattle.aidl_values.specs.View.{items_of}
use Rattle.marshal_plans.specs.declared.plans.PlanField.{PlanField}
use Rattle.marshal_plans.specs.declared.plans.PlanId.{PlanId}
use Rattle.marshal_plans.specs.declared.plans.PlanItem.{PlanItem}
use Rattle.marshal_plans.specs.declared.plans.PlanItem.TheVariants.{Word, Long, Text, Raw, Seq, Rec, Alt}
use Rattle.marshal_plans.specs.declared.plans.Plans.{Plans}
use Rattle.marshal_plans.specs.Standing.{entries_of}
use Rattle.marshal_plans.specs.declared.plans.WordKind.{WordKind}
use Rattle.marshal_plans.specs.declared.plans.WordKind.TheVariants.{Truth, Byte, Char, Int}

-- a field's initializer, or else the default of its item
abbrev pub entry_default : (PlanId → Data) → PlanField → Data
entry_default of_id g = initial_or g.initial (of_id g.item)

abbrev pub entry_defaults : (PlanId → Data) → List PlanField → Items
entry_defaults of_id gs = items_of (map (λ g. entry_default of_id g) gs)

-- alternative 0
abbrev pub first_default : (PlanId → Data) → List PlanField → Data
first_default of_id [] = null
first_default of_id (g ∷ gs) = alt 0 (entry_default of_id g)

abbrev pub word_default : WordKind → Data
word_default Truth = truth false
word_default Byte = number (pos 0)
word_default Char = number (pos 0)
word_default Int = number (pos 0)

-- of an item, from those of its parts
abbrev pub item_default : (PlanId → Data) → List PlanField → Option PlanItem → Data
item_default of_id entries None = null
item_default of_id entries (Some (Word kind)) = word_default kind
item_default of_id entries (Some Long) = number (pos 0)
item_default of_id entries (Some (Text nullable)) = if nullable then null else text []
item_default of_id entries (Some (Raw nullable)) = if nullable then null else seq none
item_default of_id entries (Some (Seq nullable element)) = if nullable then null else seq none
item_default of_id entries (Some (Rec nullable first count)) = if nullable then null
    else rec (entry_defaults of_id (entries_of entries first count))
item_default of_id entries (Some (Alt nullable first count)) = if nullable then null
    else first_default of_id (entries_of entries first count)

-- of an id, by fuel, of which each level of parts takes one
unfoldable pub plan_default : ℕ → Plans → PlanId → Data
plan_default zero plans id = item_default (λ u. null) plans.fields (slice_get plans.items id.0)
plan_default (suc fuel) plans id =
    item_default (λ u. plan_default fuel plans u) plans.fields (slice_get plans.items id.0)

-- of a part of what has n levels
abbrev pub plan_default_parts : ℕ → Plans → PlanId → Data
plan_default_parts zero plans u = null
plan_default_parts (suc n) plans u = plan_default n plans u

-- of a field: a default nests at most 32 levels
abbrev pub initial_by_plan : Plans → PlanField → Data
initial_by_plan plans g = entry_default (λ u. plan_default 33 plans u) g
