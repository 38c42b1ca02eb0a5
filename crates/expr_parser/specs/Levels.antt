-- The levels of expressions by the numbers of their productions.
use Rattle.std.specs.Prelude.{◌≡◌, ◌≤◌, ℕ, true, Option, Some, None}
use Rattle.aidl_syntax.specs.declared.token.Symbol.{Symbol}
use Rattle.expr_parser.specs.declared.levels.Level.{Level}
use Rattle.expr_parser.specs.declared.levels.Level.TheVariants.{Or, And, BitOr, BitXor, BitAnd, Equal, Less, Shift}
use Rattle.expr_parser.specs.declared.levels.Level.TheVariants.{Sum, Product, Unary}
use Rattle.expr_parser.specs.Reading.{goes_on, level_by}

abbrev pub rank : Level → ℕ
rank Or = 1
rank And = 2
rank BitOr = 3
rank BitXor = 4
rank BitAnd = 5
rank Equal = 6
rank Less = 7
rank Shift = 8
rank Sum = 9
rank Product = 10
rank Unary = 11

-- 0 where a symbol has no level
abbrev pub level_rank : Option Level → ℕ
level_rank None = 0
level_rank (Some l) = rank l

-- the sign is a binary operator of a level or above, and this is its level
abbrev pub IsOperator : ℕ → Option Symbol → Symbol → Level → Type 0
IsOperator least sign s l = (sign ≡ Some s) × (rank l ≡ level_by sign)
    × (goes_on least (level_by sign) ≡ true) × (rank l ≤ 10)
