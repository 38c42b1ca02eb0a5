use Rattle.std.proofs.Common.{ap, sym, ◌∙◌, ◌-ℤ◌, ◌*ℤ◌, int_div}
use Rattle.const_values.specs.Arithmetic as meant
use Rattle.const_values.proofs.Numbers.{passed, divides}
use Rattle.const_values.proofs.arithmetic.arithmetic_of.Goals as goal

pub returns-in-Subtract-clause-value : goal.returns-in-Subtract-clause-value
returns-in-Subtract-clause-value c = rw c.in-Subtract.is
    (c.in_width-in-Subtract.ensures.value
    ∙ ap (meant.in_width c.args.width) (passed (λ a b. a -ℤ b) c.args.a c.args.b c.difference.result c.ranges.a c.ranges.b (record { sfits = c.difference.type_inv }) c.difference.ensures))

pub returns-in-Remainder-2-clause-value : goal.returns-in-Remainder-2-clause-value
returns-in-Remainder-2-clause-value c = rw c.in-Remainder-2.is
    (c.in_width-in-Remainder-2.ensures.value
    ∙ ap (meant.in_width c.args.width) (passed (λ a b. a -ℤ int_div a b *ℤ b) c.args.a c.args.b c.remainder.result c.ranges.a c.ranges.b (record { sfits = c.remainder.type_inv }) c.remainder.ensures)
    ∙ sym (divides c.args.b _ c.if-b-eq0-2.false))
