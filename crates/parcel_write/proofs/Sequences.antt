-- The parts of a sequence's spelling.
use Rattle.std.proofs.Common.{◌≡◌, ℕ, ◌^◌, ◌<◌, ◌≤◌, ℤ, pos, Bool, true, false, List, ◌++◌, length, Option, Some, None, slice_get, refl, ap, arith, length-append}
use Rattle.aidl_base.specs.Words.{word, pad}
use Rattle.aidl_base.proofs.lemmas.Spelled.{length-spell_text}
use Rattle.aidl_values.specs.Data.{Data, null, truth, number, text, seq, rec, alt, Items, none, item, count}
use Rattle.marshal_plans.specs.declared.plans.PlanId.{PlanId}
use Rattle.marshal_plans.specs.declared.plans.PlanItem.{PlanItem}
use Rattle.marshal_plans.specs.declared.plans.PlanItem.TheVariants.{Word, Long, Text, Raw, Seq, Rec, Alt}
use Rattle.marshal_plans.specs.declared.plans.Plans.{Plans}
use Rattle.wire_model.specs.Spell.{raw_bytes, body}
use Rattle.parcel_words.specs.Written.{Written, with_bytes}
use Rattle.parcel_words.proofs.lemmas.Appends.{with_more}
use Rattle.parcel_write.specs.steps.PlanSpell.{number_by, is_raw_item, element_of, record_entries, union_entries, id_of_entry, item_of, plan_spell, plan_spell_items, plan_spell_entries}
use Rattle.parcel_write.proofs.Raw.{length_raw_sequence}

-- a word and what follows it
word_more : (n : ℤ) (b : List ℕ) → 4 ≤ length (word n ++ b)
word_more n b = omega (arith, length-append (word n) b)

number_enough : (i : Option PlanItem) (n : ℤ) → 4 ≤ length (number_by i n)
number_enough None n = omega arith
number_enough (Some (Word kind)) n = omega arith
number_enough (Some Long) n = omega arith
number_enough (Some (Text nullable)) n = omega arith
number_enough (Some (Raw nullable)) n = omega arith
number_enough (Some (Seq nullable element)) n = omega arith
number_enough (Some (Rec nullable first many)) n = omega arith
number_enough (Some (Alt nullable first many)) n = omega arith

module _ (P : Plans) where
  -- each value has at least one word
  enough : (id : PlanId) (v : Data) → 4 ≤ length (plan_spell P id v)
  enough id null = omega arith
  enough id (truth b) = omega arith
  enough id (number n) = number_enough (item_of P id) n
  enough id (text x) = omega (arith, length-spell_text x)
  enough id (seq vs) = word_more (pos (count vs)) _
  enough id (rec vs) = word_more (pos 1) (body (plan_spell_entries P (record_entries P.fields (item_of P id)) vs))
  enough id (alt k v) = word_more (pos 1) (word (pos k) ++ plan_spell P (id_of_entry (slice_get (union_entries P.fields (item_of P id)) k)) v)

  items_enough : (id : PlanId) (vs : Items) → count vs ≤ length (plan_spell_items P id vs)
  items_enough id none = omega arith
  items_enough id (item v vs) = omega (arith, enough id v, items_enough id vs, length-append (plan_spell P id v) (plan_spell_items P id vs))

module _ (P : Plans) (id : PlanId) where
  few_by : (raw : Bool) (vs : Items) (n : ℕ) → count vs ≡ n → is_raw_item (item_of P id) ≡ raw → length (plan_spell P id (seq vs)) < 2 ^ 31 → n < 2 ^ 31
  few_by true vs n are is small = omega (arith, length_raw_sequence P id vs n are is)
  few_by false vs n are is small =
      let count_word = word (pos (count vs)) in
      let elements = plan_spell_items P (element_of (item_of P id)) vs in
      let whole : plan_spell P id (seq vs) ≡ count_word ++ elements = rw is refl in
      omega (arith, small, ap length whole, length-append count_word elements, items_enough P (element_of (item_of P id)) vs, are)

  -- a short spelling has few items
  pub few_items : (vs : Items) (n : ℕ) → count vs ≡ n → length (plan_spell P id (seq vs)) < 2 ^ 31 → n < 2 ^ 31
  few_items vs n are small = few_by (is_raw_item (item_of P id)) vs n are refl small

  -- the count, and then the raw bytes or the elements
  pub raw_written : (w : Written) (vs : Items) (n : ℕ) → count vs ≡ n → is_raw_item (item_of P id) ≡ true
      → with_bytes (with_bytes w (word (pos n))) (pad (raw_bytes vs)) ≡ with_bytes w (plan_spell P id (seq vs))
  raw_written w vs n are raw = rw (raw, are) (with_more w (word (pos n)) (pad (raw_bytes vs)))

  pub items_written : (w : Written) (vs : Items) (n : ℕ) → count vs ≡ n → is_raw_item (item_of P id) ≡ false
      → with_bytes (with_bytes w (word (pos n))) (plan_spell_items P (element_of (item_of P id)) vs) ≡ with_bytes w (plan_spell P id (seq vs))
  items_written w vs n are apart = rw (apart, are) (with_more w (word (pos n)) (plan_spell_items P (element_of (item_of P id)) vs))
