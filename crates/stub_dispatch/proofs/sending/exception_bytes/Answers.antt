use Rattle.std.proofs.Common.{◌≡◌, pos, ◌++◌, to_z, of_z, ap, ◌∙◌, rules, arith}
use Rattle.std.specs.Int.{w32}
use Rattle.aidl_base.proofs.lemmas.Spelled.{length-spell_text}
use Rattle.aidl_base.specs.Words.{word}
use Rattle.parcel_words.specs.Written.{Written, with_bytes}
use Rattle.stub_dispatch.specs.Exceptions.{spell_exception}
use Rattle.wire_model.specs.Requests.{spell_error}
use Rattle.wire_model.specs.Spell.{spell_text}
use Rattle.stub_dispatch.proofs.lemmas.Parts.{exception_count, four_puts}
use Rattle.stub_dispatch.proofs.sending.exception_bytes.Goals as goal

pub put-requires-clause-can : goal.put-requires-clause-can
put-requires-clause-can c = omega (arith, exception_count c.args.code c.args.message.now c.args.error, length-spell_text c.args.message.now, c.requires)

pub returns : goal.returns
returns c =
    let code : to_z w32 (of_z w32 c.args.code) ≡ c.args.code = search rules in
    let error : to_z w32 (of_z w32 c.args.error) ≡ c.args.error = search rules in
    let first = c.word.ensures ∙ ap (λ n. with_bytes c.in_ok-to.to (word n)) code in
    let last = c.put_error.ensures ∙ ap (λ n. with_bytes c.word-2.new.self (spell_error n (to_z w32 (of_z w32 c.args.error)))) code ∙ ap (λ n. with_bytes c.word-2.new.self (spell_error c.args.code n)) error in
    let puts = four_puts c.in_ok-to.to c.word.new.self c.put.new.to c.word-2.new.self c.put_error.new.to (word c.args.code) (spell_text c.args.message.now) (word (pos 0)) (spell_error c.args.code c.args.error)
    first c.put.ensures c.word-2.ensures last in
    c.finish.ensures ∙ ap (λ (w : Written). w.bytes) puts ∙ ap (λ (w : Written). w.bytes ++ spell_exception c.args.code c.args.message.now c.args.error) c.in_ok-to.ensures
