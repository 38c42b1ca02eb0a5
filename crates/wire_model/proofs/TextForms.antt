-- A block that isn't of the form is no text.
use Rattle.std.proofs.Common.{◌≡◌, ℕ, ◌*◌, Bool, true, false, List, length, take, drop, None, refl}
use Rattle.std.specs.Char.Utf16.{has_unpaired_surrogate}
use Rattle.aidl_base.specs.declared.profile.Profile.{Profile}
use Rattle.aidl_base.specs.Readings.{units_of, ends_text, text_of}
use Rattle.aidl_base.proofs.lemmas.Blocks.{block_of}
use Rattle.aidl_base.proofs.lemmas.Lists.{AreBytes}
use Rattle.wire_model.specs.Stop.{block_len, IsBlock}

module _ (p : Profile) (n : ℕ) (b : List ℕ) (bytes : AreBytes b) (len : length b ≡ block_len n) where
  -- a block by its tests is of the form
  pub is_block : has_unpaired_surrogate (units_of (take (2 * n) b)) ≡ false → ends_text p (drop (2 * n) b) ≡ true → IsBlock p n b
  is_block paired ends = let t = block_of p n b bytes len paired ends in (t.0, t.1, t.3, t.4)

  by_tests : (q r : Bool) → has_unpaired_surrogate (units_of (take (2 * n) b)) ≡ q → ends_text p (drop (2 * n) b) ≡ r → (IsBlock p n b → ⊥) → text_of p n b ≡ None
  unfolding text_of
  by_tests true r e f wrong = rw e refl
  by_tests false false e f wrong = rw (e, f) refl
  by_tests false true e f wrong = elim (wrong (is_block e f)) [ ]

  pub text_form : (IsBlock p n b → ⊥) → text_of p n b ≡ None
  text_form wrong = by_tests (has_unpaired_surrogate (units_of (take (2 * n) b))) (ends_text p (drop (2 * n) b)) refl refl wrong
