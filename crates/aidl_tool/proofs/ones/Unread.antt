-- What is printed of versions that aren't read is one answer.
use Rattle.std.proofs.Common.{◌≡◌, sym, ◌∙◌}
use Rattle.api_versions.specs.declared.fault.VersionsFault.{VersionsFault}
use Rattle.api_versions.specs.declared.fault.VersionsFault.TheVariants as fault
use Rattle.tool_frame.specs.Answer.{Answer}
use Rattle.version_lines.specs.Lines.{IsUnread}

pub one_unread : (e : VersionsFault) (a b : Answer) → IsUnread e a → IsUnread e b → a ≡ b
one_unread (fault.BadVersions missing) a b h k = h ∙ sym k
one_unread (fault.Limit limit) a b h k = h ∙ sym k
one_unread fault.ReadFault a b h k = absurd h
one_unread fault.OutOfMemory a b h k = absurd h
