use Rattle.tree_make.proofs.texts.push_text.Goals as goal

pub returns-in-OldInterface : goal.returns-in-OldInterface
returns-in-OldInterface c = rw c.in-OldInterface.is c.writeln-in-OldInterface.ensures

pub returns-in-NewInterface : goal.returns-in-NewInterface
returns-in-NewInterface c = rw c.in-NewInterface.is c.writeln-in-NewInterface.ensures
