use Rattle.std.proofs.Common.{◌≡◌, ◌≤◌, drop}
use Rattle.aidl_syntax.specs.Numbers.{value_from}
use Rattle.aidl_lexer.proofs.numbers.value_of.Given as goal

-- what is left decides
abbrev pub invariant-loop-digit : goal.invariant-loop-digit
invariant-loop-digit l = record {
  left : value_from l.base l.value (drop l.digit-index l.digits) ≡ value_from l.base 0 l.digits;
  small : l.value ≤ 18446744073709551615;
}
