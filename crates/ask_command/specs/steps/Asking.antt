-- What the steps of `ask` give.
use Rattle.std.specs.Prelude.{◌≡◌, ℕ, List, Result, Ok, Err}
use Rattle.aidl_base.specs.declared.limit.Limit.{Limit}
use Rattle.aidl_outside.specs.Files.{Files}
use Rattle.api_versions.specs.declared.fault.VersionsFault.TheVariants as fault
use Rattle.api_versions.specs.declared.version.Version.{Version}
use Rattle.api_versions.specs.Versions.{versions_at}
use Rattle.tool_frame.specs.Answer.{Answer, Found, limit_passed}
use Rattle.version_lines.specs.Lines.{bad_versions}

-- versions, or the refusal of a number that is missing among them
abbrev pub all_of : Result (List Version) ℕ → Found (List Version)
all_of (Ok vs) = Ok vs
all_of (Err missing) = Err (bad_versions missing)

-- they are those of API, or their least number that is missing
abbrev pub AreAsked : List ℕ → Files → Result (List Version) ℕ → Type 0
AreAsked api files (Ok vs) = versions_at files api ≡ Ok vs
AreAsked api files (Err missing) = versions_at files api ≡ Err (fault.BadVersions missing)

-- the limit that API passes
abbrev pub IsUnasked : List ℕ → Files → Answer → Type 0
IsUnasked api files answer = (limit : Limit) × (versions_at files api ≡ Err (fault.Limit limit))
    × (answer ≡ limit_passed limit.which)
