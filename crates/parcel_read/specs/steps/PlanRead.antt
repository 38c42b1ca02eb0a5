-- Reading by plans, as plain functions on the items: what reading by the types gives for which the plans stand
-- (proofs/SameReads.antt). p is the profile, `left` says that a level is left, `read` reads a part; b are the bytes
-- up to the limit, and `inside` says that a record is being read.
use Rattle.std.specs.Prelude.{ℕ, zero, suc, Bool, true, false, List, Option, Some, None, slice_get, Err}
use Rattle.aidl_base.specs.declared.profile.Profile.{Profile}
use Rattle.aidl_values.specs.Data.{Data, truth, number}
use Rattle.wire_model.specs.Status.{bad_value}
use Rattle.wire_model.specs.ReadOf.{Read, truth_at, byte_at, char_at, word_at, long_at, read_as, char_data, text_data}
unfoldable pub use Rattle.wire_model.specs.ReadOf.{text_at, array_at, record_at, union_at}
use Rattle.marshal_plans.specs.declared.plans.PlanField.{PlanField}
use Rattle.marshal_plans.specs.declared.plans.PlanId.{PlanId}
use Rattle.marshal_plans.specs.declared.plans.PlanItem.{PlanItem}
use Rattle.marshal_plans.specs.declared.plans.PlanItem.TheVariants.{Word, Long, Text, Raw, Seq, Rec, Alt}
use Rattle.marshal_plans.specs.declared.plans.Plans.{Plans}
use Rattle.marshal_plans.specs.declared.plans.WordKind.{WordKind}
use Rattle.marshal_plans.specs.declared.plans.WordKind.TheVariants.{Truth, Byte, Char, Int}
use Rattle.marshal_plans.specs.Standing.{entries_of}
use Rattle.parcel_read.specs.steps.PlanDefault.{initial_by_plan}

-- a word of four bytes
abbrev pub word_by : Profile → WordKind → Bool → List ℕ → Read Data
word_by p Truth inside b = read_as truth (truth_at p inside b)
word_by p Byte inside b = read_as number (byte_at p inside b)
word_by p Char inside b = read_as char_data (char_at p inside b)
word_by p Int inside b = read_as number (word_at inside b)

-- a value, by its item
abbrev pub item_at : Profile → Bool → (PlanField → Data) → (PlanId → Bool → List ℕ → Read Data) → List PlanField
    → PlanItem → Bool → List ℕ → Read Data
item_at p left initial read entries (Word kind) inside b = word_by p kind inside b
item_at p left initial read entries Long inside b = read_as number (long_at inside b)
item_at p left initial read entries (Text nullable) inside b = read_as text_data (text_at p nullable inside b)
item_at p left initial read entries (Raw nullable) inside b =
    array_at p left true nullable (λ c. Err bad_value) inside b
item_at p left initial read entries (Seq nullable element) inside b =
    array_at p left false nullable (λ c. read element inside c) inside b
item_at p left initial read entries (Rec nullable first count) inside b =
    record_at p left nullable initial (λ g c. read g.item true c) (entries_of entries first count) inside b
item_at p left initial read entries (Alt nullable first count) inside b =
    union_at p left nullable (λ g c. read g.item inside c) (entries_of entries first count) inside b

-- nothing is read of a number of no item
abbrev pub item_or_none_at : Profile → Bool → (PlanField → Data) → (PlanId → Bool → List ℕ → Read Data)
    → List PlanField → Option PlanItem → Bool → List ℕ → Read Data
item_or_none_at p left initial read entries None inside b = Err bad_value
item_or_none_at p left initial read entries (Some i) inside b = item_at p left initial read entries i inside b

-- the value at the front, and the bytes after it
unfoldable pub plan_read : Profile → Plans → ℕ → PlanId → Bool → List ℕ → Read Data
plan_read p plans zero id inside b = item_or_none_at p false (λ g. initial_by_plan plans g) (λ u j c. Err bad_value)
    plans.fields (slice_get plans.items id.0) inside b
plan_read p plans (suc d) id inside b = item_or_none_at p true (λ g. initial_by_plan plans g)
    (λ u j c. plan_read p plans d u j c) plans.fields (slice_get plans.items id.0) inside b

-- a part of what has d levels left
abbrev pub plan_parts : Profile → Plans → ℕ → PlanId → Bool → List ℕ → Read Data
plan_parts p plans zero u inside b = Err bad_value
plan_parts p plans (suc d) u inside b = plan_read p plans d u inside b
