use Rattle.growing.proofs.lemmas.Chains.{both_grow}
use Rattle.tree_make.specs.Made.{filled, get_call, put_call}
use Rattle.tree_make.proofs.texts.push_calls.Goals as goal

pub returns : goal.returns
returns c = both_grow c.args.text.now c.writeln.new.self c.writeln-2.new.self (filled put_call c.args.k) (filled get_call c.args.k) c.writeln.ensures c.writeln-2.ensures
