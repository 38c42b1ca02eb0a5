use Rattle.std.proofs.Common.{◌≡◌, subst, ap, ◌∙◌}
use Rattle.std.specs.Prelude.{IfOk}
use Rattle.std.specs.Str.{chars}
use Rattle.std.proofs.lemmas.Str.{chars-IsAscii, IsUtf8-from_ascii}
use Rattle.aidl_lexer.proofs.words.text_of.Goals as goal

pub from_utf8_unchecked-text-requires : goal.from_utf8_unchecked-text-requires
from_utf8_unchecked-text-requires c = IsUtf8-from_ascii c.args.bytes.now c.requires

pub returns : goal.returns
returns c = subst (λ t. IfOk c.from_str.result (λ text. text ≡ t)) (ap chars c.from_utf8_unchecked-text.ensures ∙ chars-IsAscii c.args.bytes.now c.requires) c.from_str.ensures
