-- Writes, one after the other.
use Rattle.std.proofs.Common.{◌≡◌, ℕ, zero, suc, ◌+◌, ◌-◌, ◌<◌, ◌≤◌, List, [], ◌∷◌, ◌++◌, length, get_or, take, drop, map, replicate, refl, sym, ap, ◌∙◌, arith, append_assoc, append-nil, length-append}
use Rattle.std.specs.Char.Escape.{encode_utf16}
use Rattle.std.specs.Int.{w16, to_le_bytes}
use Rattle.std.specs.List.{flat_map}
use Rattle.std.proofs.lemmas.List.Folds.{flat_map-map}
use Rattle.std.proofs.lemmas.List.{at_drop_more}
use Rattle.std.proofs.lemmas.Bool.{lt-ltb, le-ltb}
use Rattle.aidl_base.specs.Words.{units, unit_bytes}
use Rattle.aidl_base.proofs.lemmas.Blocks.{unit_bytes_append}
use Rattle.parcel_words.specs.Written.{Written, with_bytes}

written : List ℕ → ℕ → Written
written bytes room = record { bytes = bytes; room = room }

same_written : (b c : List ℕ) (m n : ℕ) → b ≡ c → m ≡ n → ◌≡◌ {A = Written} (record { bytes = b; room = m }) (record { bytes = c; room = n })
same_written b c m n e f = rw (e, f) refl

pub with_more : (w : Written) (a b : List ℕ) → with_bytes (with_bytes w a) b ≡ with_bytes w (a ++ b)
with_more w a b = same_written _ _ _ _ (append_assoc w.bytes a b) (omega (arith, length-append a b))

-- the characters from the n-th on, and its units
pub units_next : (cs : List ℕ) (n c : ℕ) → (n < length cs) × (c ≡ get_or cs n c) → units (drop n cs) ≡ encode_utf16 c ++ units (drop (n + 1) cs)
units_next cs n c h = at_drop_more units cs n c h.0 ∙ ap (λ x. encode_utf16 x ++ units (drop (n + 1) cs)) (sym h.1)

pub unit_bytes_next : (cs : List ℕ) (n c : ℕ) → (n < length cs) × (c ≡ get_or cs n c)
    → unit_bytes (units (drop n cs)) ≡ unit_bytes (encode_utf16 c) ++ unit_bytes (units (drop (n + 1) cs))
unit_bytes_next cs n c h = ap unit_bytes (units_next cs n c h) ∙ unit_bytes_append (encode_utf16 c) (units (drop (n + 1) cs))

pub one_unit : (c : ℕ) → c < 0x1_0000 → length (encode_utf16 c) ≡ 1
one_unit c lt = let e = lt-ltb c 0x1_0000 lt in rw e refl

pub two_units : (c : ℕ) → 0x1_0000 ≤ c → length (encode_utf16 c) ≡ 2
two_units c le = let e = le-ltb c 0x1_0000 le in rw e refl

pub with_none : (w : Written) → with_bytes w [] ≡ w
with_none w = let room : w.room - 0 ≡ w.room = omega arith in same_written (w.bytes ++ []) w.bytes (w.room - 0) w.room (append-nil w.bytes) room

-- one more character is counted
pub counts_next : (cs : List ℕ) (n c count len total : ℕ) → (n < length cs) × (c ≡ get_or cs n c) → (c < 0x1_0000 → len ≡ 1) → (0x1_0000 ≤ c → len ≡ 2)
    → count + length (units (drop n cs)) ≡ total → count + len + length (units (drop (n + 1) cs)) ≡ total
counts_next cs n c count len total h one two e =
    let all = ap length (units_next cs n c h) ∙ length-append (encode_utf16 c) (units (drop (n + 1) cs)) in
    let p = one_unit c in
    let q = two_units c in
    grind (arith, all, e, p, q, one, two)

-- the bytes of units, from the pairs of them
pub flattened : (us : List ℕ) → flat_map (λ x. x) (map (to_le_bytes w16) us) ≡ unit_bytes us
flattened us = flat_map-map (λ x. x) (to_le_bytes w16) us

pub five_zeros : (n : ℕ) → n ≤ 5 → take {A = ℕ} n (0 ∷ 0 ∷ 0 ∷ 0 ∷ 0 ∷ []) ≡ replicate n 0
five_zeros zero le = refl
five_zeros (suc zero) le = refl
five_zeros (suc (suc zero)) le = refl
five_zeros (suc (suc (suc zero))) le = refl
five_zeros (suc (suc (suc (suc zero)))) le = refl
five_zeros (suc (suc (suc (suc (suc zero))))) le = refl
five_zeros (suc (suc (suc (suc (suc (suc n)))))) le = absurd (omega arith)
