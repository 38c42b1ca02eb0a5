use Rattle.std.proofs.Common.{◌∙◌, sym, ap, refl, get_or}
use Rattle.aidl_lexer.specs.steps.Reading.{up_to}
use Rattle.aidl_lexer.proofs.Classes.{too_large, at_end, is_small}
use Rattle.aidl_lexer.proofs.numbers.value_of.Goals as goal

pub returns-in_err-value : goal.returns-in_err-value
returns-in_err-value c =
    c.from_residual.ensures
    ∙ sym (ap (up_to 18446744073709551615) (sym c.loop-digit.invariant.left)
    ∙ too_large c.args.base c.loop-digit.value (get_or c.args.digits.now c.loop-digit.digit-index 0) 18446744073709551615 c.args.digits.now c.loop-digit.digit-index c.requires c.loop-digit-test.true refl (sym c.in_err-value.ensures))

pub returns : goal.returns
returns c = sym (ap (up_to 18446744073709551615) (sym c.loop-digit.invariant.left ∙ at_end c.args.base c.loop-digit.value c.args.digits.now c.loop-digit.digit-index c.loop-digit-test.false) ∙ is_small c.loop-digit.value 18446744073709551615 c.loop-digit.invariant.small)
