use Rattle.std.proofs.Common.{pos, negsuc, arith}
use Rattle.aidl_base.specs.Words.{word}
use Rattle.wire_model.specs.Spell.{spell_text}
use Rattle.stub_dispatch.proofs.Names.{token_count}
use Rattle.stub_dispatch.proofs.lemmas.Parts.{four_puts}
use Rattle.stub_dispatch.proofs.token.put_token.Goals as goal

pub put-requires-clause-can : goal.put-requires-clause-can
put-requires-clause-can c = omega (arith, token_count c.args.name.now, c.requires.small)

pub returns : goal.returns
returns c =
    four_puts c.args.to.now c.word.new.self c.word-2.new.self c.word-3.new.self c.put.new.to (word (pos 0x80000000)) (word (negsuc 0)) (word (pos 0x53595354)) (spell_text c.args.name.now)
    c.word.ensures c.word-2.ensures c.word-3.ensures c.put.ensures
