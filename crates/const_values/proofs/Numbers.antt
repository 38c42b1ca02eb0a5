-- Whole numbers in 128 bits, and the remainder as `a - (a / b) * b`.
use Rattle.std.proofs.Common.{◌≡◌, ℤ, pos, ◌+ℤ◌, ◌-ℤ◌, ◌*ℤ◌, int_div, int_rem, FitsSigned, w64, to_z, of_z, Bool, true, false, Result, refl, ap, arith, ◌∙◌}
use Rattle.std.specs.Bool.{Decides}
use Rattle.std.specs.Int.{w128}
use Rattle.std.specs.Ordering.{int_eq}
use Rattle.std.proofs.lemmas.Bool.Decides.{Decides-int_eq}
use Rattle.std.proofs.lemmas.Int.{ints, quot-rem, rem_is, to_z-of_z}
use Rattle.const_values.specs.declared.fault.ConstFault.{ConstFault}
use Rattle.const_values.specs.Operands.{Operand}
use Rattle.const_values.specs.Arithmetic.{unless_zero}

rest_is : (x r a : ℤ) → x +ℤ r ≡ a → r ≡ a -ℤ x
rest_is x r a e = omega (arith, ints)

fits_more : (z : ℤ) → FitsSigned w64 z → FitsSigned w128 z
fits_more z h = omega (arith, ints)

pub remainder_is : (a b : ℤ) → FitsSigned w64 a → FitsSigned w64 b → to_z w128 (of_z w128 (int_rem (to_z w128 (of_z w128 (to_z w64 (of_z w64 a)))) (to_z w128 (of_z w128 (to_z w64 (of_z w64 b)))))) ≡ a -ℤ int_div a b *ℤ b
remainder_is a b f g = rw (to_z-of_z w64 a f, to_z-of_z w64 b g) (rem_is w128 a b (fits_more a f) (fits_more b g) ∙ rest_is (int_div a b *ℤ b) (int_rem a b) a (quot-rem a b))

-- a result in 128 bits of two numbers of 64 bits is passed as it is
pub passed : (of : ℤ → ℤ → ℤ) (a b r : ℤ) → FitsSigned w64 a → FitsSigned w64 b → FitsSigned w128 r → r ≡ of (to_z w64 (of_z w64 a)) (to_z w64 (of_z w64 b)) → to_z w128 (of_z w128 r) ≡ of a b
passed of a b r f g h e = rw (to_z-of_z w64 a f, to_z-of_z w64 b g) at (to_z-of_z w128 r h ∙ e)

fails : (t : Bool) (P : Type 0) → Decides t P → (P → ⊥) → t ≡ false
fails true P d never = absurd (never (d.0 refl))
fails false P d never = refl

-- a divisor that is not 0
pub divides : (b : ℤ) (answer : Result Operand ConstFault) → (of_z w64 b ≡ 0 → ⊥) → unless_zero b answer ≡ answer
divides b answer never = rw (fails (int_eq b (pos 0)) (b ≡ pos 0) (Decides-int_eq b (pos 0)) (λ e. never (ap (of_z w64) e)))
