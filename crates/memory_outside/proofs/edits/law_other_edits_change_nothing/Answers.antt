use Rattle.memory_outside.proofs.Edited.{others}
use Rattle.memory_outside.proofs.edits.law_other_edits_change_nothing.Goals as goal

pub returns : goal.returns
returns c carry apart = others c.args.edits.now carry c.args.bytes.now apart
