use Rattle.std.proofs.Common.{ap, ◌∙◌}
use Rattle.std.specs.Str.{encode_utf8_all}
use Rattle.std.proofs.lemmas.Str.{encodes-chars}
use Rattle.memory_outside.proofs.mem_store.file_of.Goals as goal

pub returns-clause-path : goal.returns-clause-path
returns-clause-path c = ap encode_utf8_all c.in_ok-path.ensures ∙ encodes-chars c.args.path.now c.utf8.path
