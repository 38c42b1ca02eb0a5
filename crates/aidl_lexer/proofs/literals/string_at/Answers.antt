use Rattle.aidl_syntax.specs.Bytes.{is_inside}
use Rattle.aidl_lexer.proofs.Classes.{front_all, ascii, inside_small}
use Rattle.aidl_lexer.proofs.literals.string_at.Goals as goal

pub text_of-requires : goal.text_of-requires
text_of-requires c = rw c.inside_len-len.ensures.value (ascii (is_inside 34) inside_small _ (front_all (is_inside 34) c.args.bytes.now))
