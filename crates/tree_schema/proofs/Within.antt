-- The number of an item as the code has it is below their count.
use Rattle.std.proofs.Common.{◌≡◌, ◌<◌, ℕ, Option, Some, None, IfSome, option_map, subst}
use Rattle.const_eval.specs.declared.settled.InitId.{InitId}
use Rattle.const_eval.specs.Numbers.{numbered}

-- what an optional number is, and 0 where there is none
abbrev number_or_zero : Option InitId → ℕ
number_or_zero None = 0
number_or_zero (Some init) = init.0

pub numbered_within : (o : Option ℕ) (init : InitId) (most : ℕ) → option_map numbered o ≡ Some init → IfSome o (λ n. n < most) → init.0 < most
numbered_within None init most e within = absurd cc
numbered_within (Some n) init most e within = subst (λ o. number_or_zero o < most) e within
