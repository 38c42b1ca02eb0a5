-- The bytes of a sequence whose elements are raw bytes.
use Rattle.std.proofs.Common.{◌≡◌, ℕ, suc, ◌+◌, ◌<◌, ◌^◌, true, List, [], ◌∷◌, length, map, get_or, refl, ap, ◌∙◌, arith, subst}
use Rattle.std.specs.Prelude.{FitsSigned}
use Rattle.std.specs.Int.{w8, cast_signed}
use Rattle.std.proofs.lemmas.Int.{of_z-to_z}
use Rattle.aidl_base.specs.Words.{padding}
use Rattle.aidl_values.specs.Data.{Data, Items, item, number, seq, count}
use Rattle.aidl_values.specs.View.{items_of}
use Rattle.marshal_plans.specs.declared.plans.PlanId.{PlanId}
use Rattle.marshal_plans.specs.declared.plans.Plans.{Plans}
use Rattle.wire_model.specs.Spell.{raw_byte, raw_bytes}
use Rattle.wire_model.proofs.lemmas.spelled.Sizes.{length-pad, length-raw_bytes}
use Rattle.parcel_write.specs.steps.Bytes.{IsByte, AreByteValues}
use Rattle.parcel_write.specs.steps.PlanSpell.{is_raw_item, item_of, plan_spell}

pub count_items : (ds : List Data) → count (items_of ds) ≡ length ds
count_items [] = refl
count_items (d ∷ ds) = ap suc (count_items ds)

pub length_raw : (ds : List Data) → length (raw_bytes (items_of ds)) ≡ length ds
length_raw ds = length-raw_bytes (items_of ds) ∙ count_items ds

-- the count, the bytes and their padding
pub length_raw_sequence : (P : Plans) (id : PlanId) (vs : Items) (n : ℕ) → count vs ≡ n → is_raw_item (item_of P id) ≡ true
    → length (plan_spell P id (seq vs)) ≡ 4 + (n + padding n)
length_raw_sequence P id vs n are raw = rw raw (omega (arith, length-pad (raw_bytes vs), length-raw_bytes vs, ap (λ k. k + padding k) (length-raw_bytes vs ∙ are)))

-- numbers that are kept as bytes are these bytes
pub kept_as_bytes : (bytes : List ℕ) → ((k : ℕ) → k < length bytes → get_or bytes k 0 < 2 ^ 8) → raw_bytes (items_of (map number (map (λ b. cast_signed w8 b) bytes))) ≡ bytes
kept_as_bytes [] h = refl
kept_as_bytes (b ∷ bytes) h =
    let first : b < 2 ^ 8 = h 0 (omega arith) in
    let others = kept_as_bytes bytes (λ k lies. h (suc k) (omega arith)) in
    rw (of_z-to_z w8 b first, others)

-- of bytes, the first and the others
module _ (all : Items) (d : Data) (others : Items) (are : all ≡ item d others) where
  pub next_is_byte : AreByteValues all → IsByte d × AreByteValues others
  next_is_byte h = subst (λ vs. AreByteValues vs) are h

  pub next_byte : raw_bytes all ≡ raw_byte d ∷ raw_bytes others
  next_byte = ap (λ vs. raw_bytes vs) are
