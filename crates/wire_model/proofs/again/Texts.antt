-- Raw bytes are read again, whatever follows them.
use Rattle.std.proofs.Common.{◌≡◌, ℕ, ℤ, Bool, List, ◌++◌, Ok, refl, sym, ap, ◌∙◌}
use Rattle.std.specs.Prelude.{FitsSigned}
use Rattle.std.specs.Int.{w8, cast_signed, cast_unsigned}
use Rattle.std.proofs.lemmas.Int.{to_z-of_z}
use Rattle.aidl_base.specs.declared.profile.Profile.{Profile}
use Rattle.aidl_base.specs.Profiles.{IsPadded}
use Rattle.aidl_base.proofs.lemmas.Blocks.{raw_again}
use Rattle.aidl_values.specs.Data.{number, Items, none, item, count}
use Rattle.wire_model.specs.Spell.{raw_byte, raw_bytes}
use Rattle.wire_model.specs.ReadOf.{Read, ◌>>=◌, raw_items, raw_items_at}
use Rattle.wire_model.proofs.lemmas.spelled.Sizes.{length-raw_bytes}

-- numbers that are bytes
abbrev pub AreByteNumbers : Items → Type 0
AreByteNumbers none = Unit {0}
AreByteNumbers (item v vs) = (n : ℤ) × (v ≡ number n) × FitsSigned w8 n × AreByteNumbers vs

raw_back : (vs : Items) → AreByteNumbers vs → raw_items (raw_bytes vs) ≡ vs
raw_back none h = refl
raw_back (item v vs) h =
    let back : cast_signed w8 (cast_unsigned w8 h.0) ≡ h.0 = to_z-of_z w8 h.0 h.2 in
    let head : number (cast_signed w8 (raw_byte v)) ≡ v = ap (λ d. number (cast_signed w8 (raw_byte d))) h.1 ∙ ap number back ∙ sym h.1 in
    ap (λ d. item d (raw_items (raw_bytes vs))) head ∙ ap (item v) (raw_back vs h.3)

pub raw_items_again : (p : Profile) (inside : Bool) (vs : Items) (b r : List ℕ) → AreByteNumbers vs → IsPadded p (raw_bytes vs) b → raw_items_at p (count vs) inside (b ++ r) ≡ Ok (vs, r)
unfolding raw_items_at
raw_items_again p inside vs b r h is =
    ap (λ (x : Read (List ℕ)). x >>= λ y. Ok (raw_items y.0, y.1)) (raw_again p (raw_bytes vs) b (count vs) inside r (length-raw_bytes vs) is)
    ∙ ap (λ ws. Ok (ws, r)) (raw_back vs h)
