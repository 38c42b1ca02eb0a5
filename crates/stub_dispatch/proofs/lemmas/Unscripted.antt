-- What a handler answers for which no answer is written down: it fits every method.
use Rattle.std.proofs.Common.{◌≡◌, ℕ, ◌+◌, ◌++◌, ◌≤◌, ℤ, pos, negsuc, List, length, length-append, refl, ap, ◌∙◌, arith}
use Rattle.std.specs.Prelude.{codes}
use Rattle.std.specs.Str.{chars}
use Rattle.std.proofs.lemmas.Int.{ints}
use Rattle.aidl_base.proofs.lemmas.Spelled.{length-spell_text}
use Rattle.aidl_base.specs.Words.{units, word}
use Rattle.aidl_schema.specs.declared.schema.Decl.{Decl}
use Rattle.stub_dispatch.specs.Unscripted.{not_scripted}
use Rattle.wire_model.specs.MethodOf.{method_of}
use Rattle.wire_model.specs.Requests.{AnswerFits, ExceptionFits, spell_error}
use Rattle.wire_model.specs.Spell.{spell_text}

pub message_chars : (b : List ℕ) → b ≡ codes "not scripted" → chars b ≡ codes "not scripted"
unfolding chars
message_chars b e = ap chars e ∙ refl

exception_count : (code : ℤ) (message : List ℕ) (error : ℤ) → length (word code ++ (spell_text message ++ (word (pos 0) ++ spell_error code error))) ≡ 8 + length (spell_text message) + length (spell_error code error)
exception_count code message error = omega (arith, length-append (spell_text message) (word (pos 0) ++ spell_error code error))

unscripted_small : (message : List ℕ) → message ≡ codes "not scripted"
    → length (word (negsuc 4) ++ (spell_text message ++ (word (pos 0) ++ spell_error (negsuc 4) (pos 0)))) ≤ 1048576
unscripted_small message e =
    let n : length (units message) ≡ 12 = ap (λ x. length (units x)) e in
    omega (arith, exception_count (negsuc 4) message (pos 0), length-spell_text message, n)

unscripted : ExceptionFits (negsuc 4) (codes "not scripted") (pos 0)
unscripted = record { known = refl; scalars = refl; int = omega (arith, ints); no_error = λ e. refl }

pub unscripted_fits : (S : List Decl) (i m : ℕ) → AnswerFits (method_of S i m) not_scripted
unscripted_fits S i m = record { answer = unscripted; small = unscripted_small (codes "not scripted") refl }
