use Rattle.aidl_syntax.proofs.Cutting as cutting
use Rattle.aidl_syntax.proofs.laws.law_tokens.Goals as goal

pub returns-clause-ascend : goal.returns-clause-ascend
returns-clause-ascend c bytes h = cutting.ascend bytes c.args.tokens.now h

pub returns-clause-inside : goal.returns-clause-inside
returns-clause-inside c bytes h = cutting.inside bytes c.args.tokens.now h

pub returns-clause-hold : goal.returns-clause-hold
returns-clause-hold c bytes h = cutting.hold bytes c.args.tokens.now h
