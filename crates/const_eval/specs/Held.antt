-- What the code keeps of the values that it has found: each is one that can stand in an expression again.
use Rattle.std.specs.Prelude.{ℤ, pos, Bool, true}
use Rattle.aidl_base.specs.declared.constant.Const.{Const, out-Const}
use Rattle.aidl_base.specs.declared.constant.Const.TheOpen.{Const-F}
use Rattle.const_values.specs.declared.wanted.Wanted.{Wanted}
use Rattle.const_values.specs.declared.wanted.Wanted.TheVariants as wanted
use Rattle.const_values.specs.declared.width.Width.TheVariants.{Narrow}
use Rattle.aidl_base.specs.Ranges.{is_between}
use Rattle.const_values.specs.Widths.{is_within}
use Rattle.const_eval.specs.declared.outcome.Outcome.{Outcome}
use Rattle.const_eval.specs.declared.outcome.Outcome.TheVariants.{Given, Fault, Unjudged}

-- a number of byte or int lies in 32 bits, and one of char is a code
abbrev pub is_held_number : Wanted → ℤ → Bool
is_held_number wanted.Byte z = is_within Narrow z
is_held_number wanted.Int z = is_within Narrow z
is_held_number wanted.Character z = is_between (pos 0) (pos 4294967295) z
is_held_number _ z = true

abbrev pub is_held_level : Wanted → Const-F Const → Bool
is_held_level w (Const-F.Number z) = is_held_number w z
is_held_level w _ = true

-- a number that is wanted as a byte or an int lies in 32 bits, and one that is wanted as a char is a code; nothing
-- else is asked
abbrev pub is_held : Wanted → Const → Bool
is_held w c = is_held_level w (out-Const c)

-- the same of an outcome
abbrev pub is_held_outcome : Wanted → Outcome → Bool
is_held_outcome w (Given c) = is_held w c
is_held_outcome w (Fault fault) = true
is_held_outcome w Unjudged = true
