-- What `verify` prints of the versions of an API, and what it answers over the files of a store (own).
use Rattle.std.specs.Prelude.{◌≡◌, ℕ, Bool, true, false, List, Result, Ok, Err}
use Rattle.std.specs.List.{flat_map, list_all}
use Rattle.aidl_outside.specs.Files.{Files}
use Rattle.api_versions.specs.declared.fault.VersionsFault.{VersionsFault}
use Rattle.api_versions.specs.declared.version.Version.{Version}
use Rattle.api_versions.specs.Versions.{versions_at}
use Rattle.api_versions.specs.Whole.{is_whole}
use Rattle.tool_frame.specs.declared.verdict.Verdict.{Verdict}
use Rattle.tool_frame.specs.declared.verdict.Verdict.TheVariants.{Done, Negative}
use Rattle.tool_frame.specs.Answer.{Answer}
use Rattle.version_lines.specs.Lines.{IsUnread, version_line}

-- exit 1 if any isn't whole
abbrev pub verdict_of : Bool → Verdict
verdict_of true = Done
verdict_of false = Negative

-- a line for each version
abbrev pub verified : List Version → Answer
verified versions = record { text = flat_map version_line versions; verdict = verdict_of (list_all is_whole versions) }

-- the answer for the versions, or for what refuses them
abbrev pub IsVerified : Result (List Version) VersionsFault → Answer → Type 0
IsVerified (Ok versions) answer = answer ≡ verified versions
IsVerified (Err e) answer = IsUnread e answer

-- `verify API`
abbrev pub VerifyAnswers : List ℕ → Files → Answer → Type 0
VerifyAnswers api files = IsVerified (versions_at files api)
