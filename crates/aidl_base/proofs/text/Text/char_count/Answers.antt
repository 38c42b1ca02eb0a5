use Rattle.std.proofs.Common.{rules}
use Rattle.std.proofs.lemmas.Str.{chars_from_encodes}
use Rattle.aidl_base.proofs.text.Text.char_count.Goals as goal

pub returns : goal.returns
returns c = rw c.as_str.ensures.value (search (rules, chars_from_encodes))
