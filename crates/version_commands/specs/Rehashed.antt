-- What `rehash` writes and prints of the versions of an API (own).
use Rattle.std.specs.Prelude.{◌≡◌, ℕ, ◌++◌, List, length, Result, Ok, Err, codes}
use Rattle.std.specs.Fmt.{decimal}
use Rattle.api_freeze.specs.declared.fault.RehashFault.{RehashFault}
use Rattle.api_freeze.specs.declared.fault.RehashFault.TheVariants as fault
use Rattle.api_versions.specs.Writes.{Write}
use Rattle.tool_frame.specs.Acts.{Acts, Only}
use Rattle.tool_frame.specs.Answer.{Answer, done}
use Rattle.version_lines.specs.Lines.{IsUnread, torn}

-- `rehashed COUNT`
abbrev pub rehashed : ℕ → Answer
rehashed count = done (codes "rehashed " ++ decimal count)

-- what is printed where no hash is written again; where the store failed or memory was wanted, nothing is
abbrev pub IsUnhashed : RehashFault → Answer → Type 0
IsUnhashed (fault.Versions e) answer = IsUnread e answer
IsUnhashed (fault.Torn stale) answer = answer ≡ torn stale.version stale.kept stale.text
IsUnhashed (fault.Write e) answer = ⊥
IsUnhashed fault.OutOfMemory answer = ⊥

-- the count of the numbers with these writes, or nothing written and the refusal
abbrev pub Rehashes : List Write → Result (List ℕ) RehashFault → Acts
Rehashes writes (Ok numbers) made answer = (made ≡ writes) × (answer ≡ rehashed (length numbers))
Rehashes writes (Err e) made answer = Only (IsUnhashed e) made answer
