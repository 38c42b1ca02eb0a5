use Rattle.std.proofs.Common.{map}
use Rattle.aidl_syntax.specs.Sources.{source_of}
use Rattle.const_eval.proofs.lemmas.OneOutcome.{one_outcome}
use Rattle.const_eval.proofs.laws.law_one_outcome.Goals as goal

pub returns : goal.returns
returns c = one_outcome (map source_of c.args.files.now)
