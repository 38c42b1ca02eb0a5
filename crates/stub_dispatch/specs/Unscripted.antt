-- What a handler answers for which no answer is written down (own).
use Rattle.std.specs.Prelude.{pos, negsuc, codes}
use Rattle.wire_model.specs.Calls.{AnswerData, exception}

-- EX_ILLEGAL_STATE, whatever the method is
abbrev pub not_scripted : AnswerData
not_scripted = exception (negsuc 4) (codes "not scripted") (pos 0)
