-- What `freeze` writes and prints of the schema of a tree and the versions of an API (own).
use Rattle.std.specs.Prelude.{◌≡◌, ◌⊎◌, ℕ, ◌++◌, List, map, Result, Ok, Err, codes}
use Rattle.std.specs.Fmt.{decimal}
use Rattle.std.specs.List.{flat_map}
use Rattle.std.specs.Str.{encode_utf8_all}
use Rattle.aidl_base.specs.declared.source_file.SourceFile.{SourceFile}
use Rattle.aidl_schema.specs.declared.schema.Decl.{Decl}
use Rattle.api_freeze.specs.Freeze.{Ready, RefusedAs, hash_digits, next, version_writes}
use Rattle.api_freeze.specs.declared.fault.FreezeFault.{FreezeFault}
use Rattle.api_freeze.specs.declared.fault.FreezeFault.TheVariants as fault
use Rattle.api_versions.specs.declared.fault.VersionsFault.{VersionsFault}
use Rattle.api_versions.specs.declared.version.Version.{Version}
use Rattle.api_versions.specs.Versions.{version_folder}
use Rattle.compat_judge.specs.Seen.{seen as break_of}
use Rattle.tool_frame.specs.Acts.{Acts, Only}
use Rattle.tool_frame.specs.Answer.{Answer, after_text, done, limit_passed, line, negative}
use Rattle.tree_commands.specs.Faults.{IsFaultAnswer, refused}
use Rattle.tree_commands.specs.Judged.{break_line}
use Rattle.version_lines.specs.Lines.{IsUnread, torn}

-- `frozen N HASH`
abbrev pub frozen : ℕ → List ℕ → Answer
frozen version hash = done (codes "frozen " ++ decimal version ++ codes " " ++ encode_utf8_all hash)

-- `unreadable N`, and the lines of the faults of the files below API, `/` and N
abbrev pub IsUnreadable : List ℕ → ℕ → List SourceFile → Answer → Type 0
IsUnreadable api version files answer = (faults : Answer) × IsFaultAnswer (version_folder api version) files faults
    × (answer ≡ after_text (line (codes "unreadable " ++ decimal version)) faults)

-- what is printed of each refusal to freeze
abbrev pub IsUnfrozen : List ℕ → FreezeFault → Answer → Type 0
IsUnfrozen api (fault.Versions e) answer = IsUnread e answer
IsUnfrozen api (fault.Torn stale) answer = answer ≡ torn stale.version stale.kept stale.text
IsUnfrozen api (fault.Unreadable version files cause) answer = IsUnreadable api version files answer
IsUnfrozen api (fault.Unchanged version) answer = answer ≡ negative (codes "unchanged " ++ decimal version)
IsUnfrozen api (fault.Incompatible rows) answer = answer ≡ refused (flat_map break_line (map break_of rows))
IsUnfrozen api (fault.Limit limit) answer = answer ≡ limit_passed limit.which
-- where a call of the store failed or memory was wanted, nothing is
IsUnfrozen api (fault.Write e) answer = ⊥
IsUnfrozen api fault.OutOfMemory answer = ⊥

-- the next version is written, and its number and hash are printed
abbrev pub FreezesNext : List ℕ → List Version → List Decl → Acts
FreezesNext api vs S made answer = (files : List SourceFile) × Ready vs S files
    × (made ≡ version_writes api (next vs) files)
    × (answer ≡ frozen (next vs) (hash_digits files (next vs)))

-- nothing is written, and the first refusal is printed
abbrev pub RefusesNext : List ℕ → List Version → List Decl → Answer → Type 0
RefusesNext api vs S answer = (e : FreezeFault) × RefusedAs vs S e × IsUnfrozen api e answer

-- of the versions, or of what refuses these
abbrev pub Freezes : List ℕ → Result (List Version) VersionsFault → List Decl → Acts
Freezes api (Ok vs) S made answer = FreezesNext api vs S made answer ⊎ Only (RefusesNext api vs S) made answer
Freezes api (Err e) S made answer = Only (IsUnread e) made answer
