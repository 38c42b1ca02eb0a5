use Rattle.std.proofs.Common.{◌≡◌, ◌+◌, length}
use Rattle.aidl_lexer.specs.steps.Reading.{close_len, up_by}
use Rattle.aidl_lexer.proofs.comments.close_len.Given as goal

abbrev pub invariant-loop-rest : goal.invariant-loop-rest
invariant-loop-rest l = record {
  found : up_by l.len (close_len l.rest) ≡ close_len l.bytes;
  read : l.len + length l.rest ≡ length l.bytes;
}

abbrev pub decreases-loop-rest : goal.decreases-loop-rest
decreases-loop-rest l = length l.rest
