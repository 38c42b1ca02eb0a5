-- The bytes of the parts of a request.
use Rattle.std.proofs.Common.{◌≡◌, ℕ, ◌+◌, ℤ, pos, List, ◌++◌, length, ap, ◌∙◌, arith, length-append}
use Rattle.aidl_base.specs.Words.{word}
use Rattle.aidl_schema.specs.declared.schema.AidlType.{AidlType}
use Rattle.aidl_schema.specs.declared.schema.Arg.{Arg}
use Rattle.aidl_schema.specs.declared.schema.Decl.{Decl}
use Rattle.aidl_values.specs.Data.{Data, Items}
use Rattle.parcel_words.specs.Written.{Written, with_bytes}
use Rattle.parcel_words.proofs.lemmas.Appends.{with_more}
use Rattle.wire_model.specs.Requests.{argument_part, argument_parts, spell_each, spell_error}
use Rattle.wire_model.specs.Spell.{spell, spell_text}
use Rattle.stub_dispatch.specs.Exceptions.{spell_exception}

pub parts_count : (S : List Decl) (a : Arg) (xs : List Arg) (v : Data) (vs : Items)
    → length (argument_part S a v ++ argument_parts S xs vs) ≡ length (argument_part S a v) + length (argument_parts S xs vs)
parts_count S a xs v vs = length-append (argument_part S a v) (argument_parts S xs vs)

-- four puts, one after the other
pub four_puts : (t u v w x : Written) (a b c d : List ℕ) → u ≡ with_bytes t a → v ≡ with_bytes u b → w ≡ with_bytes v c → x ≡ with_bytes w d → x ≡ with_bytes t (a ++ (b ++ (c ++ d)))
four_puts t u v w x a b c d e f g h =
    h ∙ ap (λ z. with_bytes z d) g ∙ with_more v c d ∙ ap (λ z. with_bytes z (c ++ d)) f ∙ with_more u b (c ++ d) ∙ ap (λ z. with_bytes z (b ++ (c ++ d))) e ∙ with_more t a (b ++ (c ++ d))

pub each_count : (S : List Decl) (t : AidlType) (ts : List AidlType) (v : Data) (vs : Items) → length (spell S t v ++ spell_each S ts vs) ≡ length (spell S t v) + length (spell_each S ts vs)
each_count S t ts v vs = length-append (spell S t v) (spell_each S ts vs)

pub returned_count : (a b : List ℕ) → length (word (pos 0) ++ (a ++ b)) ≡ 4 + (length a + length b)
returned_count a b = omega (arith, length-append a b)

pub exception_count : (code : ℤ) (message : List ℕ) (error : ℤ) → length (spell_exception code message error) ≡ 8 + length (spell_text message) + length (spell_error code error)
exception_count code message error = omega (arith, length-append (spell_text message) (word (pos 0) ++ spell_error code error))
