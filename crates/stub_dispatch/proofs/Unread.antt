-- The reply to a request with bytes left over.
use Rattle.std.proofs.Common.{◌≡◌, ℕ, ◌≤◌, pos, negsuc, List, length, refl, ap, ◌∙◌, arith}
use Rattle.std.specs.Prelude.{codes}
use Rattle.std.specs.Str.{chars}
use Rattle.aidl_base.proofs.lemmas.Spelled.{length-spell_text}
use Rattle.aidl_base.specs.Words.{units}
use Rattle.stub_dispatch.specs.Exceptions.{spell_exception}
use Rattle.stub_dispatch.proofs.lemmas.Parts.{exception_count}

pub unread_chars : (b : List ℕ) → b ≡ codes "unread argument bytes" → chars b ≡ codes "unread argument bytes"
unfolding chars
unread_chars b e = ap chars e ∙ refl

pub unread_small : (message : List ℕ) → message ≡ codes "unread argument bytes" → length (spell_exception (negsuc 1) message (pos 0)) ≤ 1048576
unread_small message e =
    let n : length (units message) ≡ 21 = ap (λ x. length (units x)) e in
    omega (arith, exception_count (negsuc 1) message (pos 0), length-spell_text message, n)
