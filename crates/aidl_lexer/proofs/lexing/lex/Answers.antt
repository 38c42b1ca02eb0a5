use Rattle.aidl_lexer.proofs.meaning.Answered as answered
use Rattle.aidl_lexer.proofs.lexing.lex.Goals as goal

pub returns-clause-tokens : goal.returns-clause-tokens
returns-clause-tokens c = answered.tokens c.args.bytes.now c.tokens_of.result c.tokens_of.ensures

pub returns-clause-only_tokens : goal.returns-clause-only_tokens
returns-clause-only_tokens c = answered.only_tokens c.args.bytes.now c.tokens_of.result c.tokens_of.ensures

pub returns-clause-fault : goal.returns-clause-fault
returns-clause-fault c = answered.has_faults c.args.bytes.now c.tokens_of.result c.tokens_of.ensures

pub returns-clause-only_fault : goal.returns-clause-only_fault
returns-clause-only_fault c = answered.only_fault c.args.bytes.now c.tokens_of.result c.tokens_of.ensures
