use Rattle.std.proofs.Common.{sym}
use Rattle.std.proofs.lemmas.Str.{scalars-chars, encodes-chars}
use Rattle.aidl_base.proofs.text.Text.as_str.Goals as goal

pub returns-clause-scalars : goal.returns-clause-scalars
returns-clause-scalars c = rw (← c.self.view_is, ← c.as_str.ensures) (scalars-chars c.as_str.result.now c.as_str.utf8)

pub returns-clause-bytes : goal.returns-clause-bytes
returns-clause-bytes c = rw (← c.self.view_is, ← c.as_str.ensures) (sym (encodes-chars c.as_str.result.now c.as_str.utf8))
