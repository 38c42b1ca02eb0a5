use Rattle.decimal_words.proofs.Numerals.{decimal_is_utf8}
use Rattle.decimal_words.proofs.decimals.value_of.Goals as goal

pub returns-in-Err : goal.returns-in-Err
returns-in-Err c = absurd (c.in-Err.ensures.cases.0 (decimal_is_utf8 c.args.word.now c.requires))
