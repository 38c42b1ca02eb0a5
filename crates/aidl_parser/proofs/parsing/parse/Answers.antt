use Rattle.aidl_parser.proofs.lemmas.productions.Parses as law
use Rattle.aidl_parser.proofs.parsing.parse.Goals as goal

pub returns-clause-tree : goal.returns-clause-tree
returns-clause-tree c = law.tree c.args.tokens.now c.answer.result c.answer.ensures

pub returns-clause-only_tree : goal.returns-clause-only_tree
returns-clause-only_tree c = law.only_tree c.args.tokens.now c.answer.result c.answer.ensures

pub returns-clause-refusal : goal.returns-clause-refusal
returns-clause-refusal c = law.refusal c.args.tokens.now c.answer.result c.answer.ensures

pub returns-clause-only_limit : goal.returns-clause-only_limit
returns-clause-only_limit c = law.only_limit c.args.tokens.now c.answer.result c.answer.ensures

pub returns-clause-only_syntax : goal.returns-clause-only_syntax
returns-clause-only_syntax c = law.only_syntax c.args.tokens.now c.answer.result c.answer.ensures
