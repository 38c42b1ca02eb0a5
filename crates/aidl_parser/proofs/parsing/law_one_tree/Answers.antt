use Rattle.aidl_parser.proofs.lemmas.productions.Parses.{one_tree}
use Rattle.aidl_parser.proofs.parsing.law_one_tree.Goals as goal

pub returns : goal.returns
returns c = one_tree c.args.tokens.now
