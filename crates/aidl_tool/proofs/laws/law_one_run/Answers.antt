use Rattle.std.specs.Prelude.{map, string_bytes}
use Rattle.aidl_tool.specs.Meant.{meant}
use Rattle.aidl_tool.proofs.OneRun.{runs_agree}
use Rattle.aidl_tool.proofs.laws.law_one_run.Goals as goal

pub returns : goal.returns
returns c = runs_agree (meant (map string_bytes c.args.words.now)) c.law_one_meaning.ensures
