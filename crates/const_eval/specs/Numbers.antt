-- The number of an item as the code has it.
use Rattle.std.specs.Prelude.{ℕ}
use Rattle.const_eval.specs.declared.settled.InitId.{InitId}

abbrev pub numbered : ℕ → InitId
numbered n = record { 0 = n }
