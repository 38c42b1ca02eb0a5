-- `<<` multiplies by a power of two, where no bit leaves the width.
use Rattle.std.proofs.Common.{◌≡◌, ℕ, zero, suc, ◌+◌, ◌-◌, ◌*◌, ◌%◌, ◌^◌, ◌<◌, ◌≤◌, ℤ, pos, negsuc, neg_ℤ, ◌*ℤ◌, FitsSigned, true, to_z, arith}
use Rattle.std.specs.Int as int
use Rattle.std.specs.Int.{int_shl}
use mir.Val.{bits, hbits}
use Rattle.std.proofs.lemmas.Int.{ints, to_z-of_z, to_z_pos}
use Rattle.std.proofs.lemmas.Nat.{mod-mul-add, pow_pos}
use Rattle.std.proofs.Math.Nat.{mod-eq_of_lt, le-mul_of_pos_right, mul-pos}
use Rattle.const_values.specs.declared.width.Width.{Width}
use Rattle.const_values.specs.declared.width.Width.TheVariants.{Narrow, Wide}
use Rattle.const_values.specs.Widths.{form_of, is_within}

more_copies : (d s j : ℕ) → s * suc j ≤ s + d → d * suc j ≡ j * (s + d) + ((s + d) - s * suc j)
more_copies d s j h = grind arith

half_below : (w : int.Width) → 2 ^ hbits w < 2 ^ bits w
half_below int.w8 = omega arith
half_below int.w16 = omega arith
half_below int.w32 = omega arith
half_below int.w64 = omega arith
half_below int.w128 = omega arith

-- of B values, the one that stands for -s, m times
at_rest : (d s j : ℕ) → s * suc j ≤ s + d → 0 < s * suc j → (d * suc j) % (s + d) ≡ (s + d) - s * suc j
at_rest d s j h positive = rw (more_copies d s j h) (mod-mul-add j (s + d) ((s + d) - s * suc j) (omega arith))

wrapped : (B s m : ℕ) → 0 < m → 0 < s * m → s * m ≤ B → ((B - s) * m) % B ≡ B - s * m
wrapped B s zero some positive h = absurd (omega arith)
wrapped B s (suc j) some positive h =
    let least : s ≤ s * suc j = le-mul_of_pos_right s some in
    let e : s + (B - s) ≡ B = omega arith in
    rw e at (at_rest (B - s) s j (omega arith) positive)

at_product : (w : int.Width) (p : ℕ) → 0 < p → FitsSigned w (neg_ℤ (pos p)) → (p ≤ 2 ^ hbits w) × (to_z w (2 ^ bits w - p) ≡ neg_ℤ (pos p))
at_product w zero positive fits = absurd (omega arith)
at_product w (suc p) positive fits = (fits.sfits, to_z-of_z w (negsuc p) fits)

below : (w : int.Width) (n m : ℕ) → 0 < m → FitsSigned w (neg_ℤ (pos (suc n * m))) → to_z w (((2 ^ bits w - suc n) * m) % 2 ^ bits w) ≡ neg_ℤ (pos (suc n * m))
below w n m some fits =
    let positive : 0 < suc n * m = mul-pos (omega arith) some in
    let at = at_product w (suc n * m) positive fits in
    let half = half_below w in
    rw (wrapped (2 ^ bits w) (suc n) m some positive (omega (arith, at.0, half))) at.1

above : (w : int.Width) (n m : ℕ) → FitsSigned w (pos (n * m)) → to_z w ((n * m) % 2 ^ bits w) ≡ pos (n * m)
above w n m fits =
    let half = half_below w in
    let small : n * m < 2 ^ bits w = omega (arith, fits.sfits, half) in
    rw (mod-eq_of_lt small) (to_z_pos w (n * m) fits.sfits)

shl-is : (w : int.Width) (a : ℤ) (places : ℕ) → FitsSigned w (a *ℤ pos (2 ^ places)) → int_shl w a places ≡ a *ℤ pos (2 ^ places)
shl-is w (pos n) places fits = above w n (2 ^ places) fits
shl-is w (negsuc n) places fits = below w n (2 ^ places) (pow_pos places) fits

within_fits : (width : Width) (z : ℤ) → is_within width z ≡ true → FitsSigned (form_of width) z
within_fits Narrow z h = grind (arith, ints)
within_fits Wide z h = grind (arith, ints)

pub multiplies : (width : Width) (a : ℤ) (places : ℕ) → is_within width (a *ℤ pos (2 ^ places)) ≡ true → int_shl (form_of width) a places ≡ a *ℤ pos (2 ^ places)
multiplies width a places h = shl-is (form_of width) a places (within_fits width (a *ℤ pos (2 ^ places)) h)
