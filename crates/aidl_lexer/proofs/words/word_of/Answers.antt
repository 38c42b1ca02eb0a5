use Rattle.aidl_base.specs.Identifiers.{is_word_byte}
use Rattle.aidl_lexer.proofs.Classes.{front_all, ascii, word_small}
use Rattle.aidl_lexer.proofs.words.word_of.Goals as goal

pub returns-clause-ascii : goal.returns-clause-ascii
returns-clause-ascii c = rw c.word_len.ensures.value (ascii is_word_byte word_small _ (front_all is_word_byte c.args.bytes.now))
