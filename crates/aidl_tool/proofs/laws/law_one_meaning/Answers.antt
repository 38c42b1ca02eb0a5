use Rattle.std.specs.Prelude.{map, string_bytes}
use Rattle.tool_words.specs.Rows.{command_of}
use Rattle.aidl_tool.proofs.ones.Meanings.{means_one}
use Rattle.aidl_tool.proofs.laws.law_one_meaning.Goals as goal

pub returns : goal.returns
returns c = means_one (command_of (map string_bytes c.args.words.now))
