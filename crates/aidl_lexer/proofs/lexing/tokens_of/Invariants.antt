use Rattle.std.proofs.Common.{◌≡◌, ◌+◌, length}
use Rattle.aidl_lexer.specs.steps.Reading.{lex_of, with_front}
use Rattle.aidl_lexer.proofs.lexing.tokens_of.Given as goal

-- what was read, and then what is still read, is all
abbrev pub invariant-loop-rest : goal.invariant-loop-rest
invariant-loop-rest l = record {
  all : with_front l.out.items (lex_of 0 l.offset l.rest) ≡ lex_of 0 0 l.bytes;
  place : l.offset + length l.rest ≡ length l.bytes;
}

abbrev pub decreases-loop-rest : goal.decreases-loop-rest
decreases-loop-rest l = length l.rest
