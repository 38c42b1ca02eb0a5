-- The fuel that a file is read with.
use Rattle.std.proofs.Common.{◌≡◌, suc, ◌+◌, List, length, ap, arith}
use Rattle.aidl_syntax.specs.declared.token.Token.{Token}
use Rattle.aidl_parser.specs.steps.Decls.{file_at}

pub one_more : (ts : List Token) → file_at (length ts + 1) ts ≡ file_at (suc (length ts)) ts
one_more ts = let e : length ts + 1 ≡ suc (length ts) = omega arith in ap (λ n. file_at n ts) e
