use Rattle.aidl_tool.proofs.some.Words.{means_some}
use Rattle.aidl_tool.proofs.laws.law_some_meaning.Goals as goal

pub returns : goal.returns
returns c = means_some
