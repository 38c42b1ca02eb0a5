-- How a command ends where versions aren't read, or by a refusal to freeze or to hash.
use Rattle.std.specs.Prelude.{◌≡◌}
use Rattle.api_freeze.specs.declared.fault.FreezeFault.{FreezeFault}
use Rattle.api_freeze.specs.declared.fault.FreezeFault.TheVariants as freeze
use Rattle.api_freeze.specs.declared.fault.RehashFault.{RehashFault}
use Rattle.api_freeze.specs.declared.fault.RehashFault.TheVariants as rehash
use Rattle.api_versions.specs.declared.fault.VersionsFault.{VersionsFault}
use Rattle.api_versions.specs.declared.fault.VersionsFault.TheVariants as read
use Rattle.tool_frame.specs.declared.halt.Halt.{Halt}
use Rattle.tool_frame.specs.declared.halt.Halt.TheVariants.{Answered, StoreFailed, OutOfMemory}
use Rattle.tool_frame.specs.Halts.{halt_by}
use Rattle.tool_frame.specs.Answer.{Answer}
use Rattle.tool_frame.specs.Results.{printed}

-- such an answer, or memory was wanted
abbrev pub EndsIn : (Answer → Type 0) → Halt → Type 0
EndsIn Is (Answered p) = Is (printed p)
EndsIn Is StoreFailed = ⊥
EndsIn Is OutOfMemory = Unit {0}

-- where versions aren't read: such an answer; or a call of the store failed, or memory was wanted
abbrev pub UnreadEnds : (Answer → Type 0) → VersionsFault → Halt → Type 0
UnreadEnds Is (read.BadVersions missing) end = EndsIn Is end
UnreadEnds Is (read.Limit limit) end = EndsIn Is end
UnreadEnds Is read.ReadFault end = end ≡ StoreFailed
UnreadEnds Is read.OutOfMemory end = end ≡ OutOfMemory

-- the same of a refusal to freeze
abbrev pub FreezeEnds : (FreezeFault → Answer → Type 0) → FreezeFault → Halt → Type 0
FreezeEnds Is (freeze.Versions e) end = UnreadEnds (Is (freeze.Versions e)) e end
FreezeEnds Is (freeze.Torn torn) end = EndsIn (Is (freeze.Torn torn)) end
FreezeEnds Is (freeze.Unreadable version files cause) end = EndsIn (Is (freeze.Unreadable version files cause)) end
FreezeEnds Is (freeze.Unchanged version) end = EndsIn (Is (freeze.Unchanged version)) end
FreezeEnds Is (freeze.Incompatible rows) end = EndsIn (Is (freeze.Incompatible rows)) end
FreezeEnds Is (freeze.Limit limit) end = EndsIn (Is (freeze.Limit limit)) end
FreezeEnds Is (freeze.Write e) end = end ≡ halt_by e
FreezeEnds Is freeze.OutOfMemory end = end ≡ OutOfMemory

-- and to write hashes again
abbrev pub RehashEnds : (RehashFault → Answer → Type 0) → RehashFault → Halt → Type 0
RehashEnds Is (rehash.Versions e) end = UnreadEnds (Is (rehash.Versions e)) e end
RehashEnds Is (rehash.Torn torn) end = EndsIn (Is (rehash.Torn torn)) end
RehashEnds Is (rehash.Write e) end = end ≡ halt_by e
RehashEnds Is rehash.OutOfMemory end = end ≡ OutOfMemory
