-- What is printed of frozen versions (own).
use Rattle.std.specs.Prelude.{◌≡◌, ℕ, ◌++◌, List, [], take, if◌then◌else◌, Option, Some, None, codes}
use Rattle.std.specs.Fmt.{decimal}
use Rattle.std.specs.Str.{encode_utf8_all}
use Rattle.api_versions.specs.declared.fault.VersionsFault.{VersionsFault}
use Rattle.api_versions.specs.declared.fault.VersionsFault.TheVariants as fault
use Rattle.api_versions.specs.declared.version.Version.{Version}
use Rattle.api_versions.specs.Whole.{defined, is_whole}
use Rattle.tool_frame.specs.Answer.{Answer, limit_passed, line, negative}
use Rattle.tool_frame.specs.Shown.{shown}

-- the 40 digits of the text of a `.hash`
abbrev pub digits : List ℕ → List ℕ
digits text = encode_utf8_all (take 40 text)

-- why a version isn't whole: `missing ` or `kept BYTES `, BYTES as they are shown
abbrev pub reason : Option (List ℕ) → List ℕ
reason None = codes "missing "
reason (Some kept) = codes "kept " ++ (shown kept ++ codes " ")

-- of a version that isn't whole: `missing HASH` or `kept BYTES HASH`, HASH by the second recipe
abbrev pub torn_words : Option (List ℕ) → List ℕ → List ℕ
torn_words kept text = reason kept ++ digits text

-- of a version that is whole: the digits that its `.hash` keeps, and `ok`
abbrev pub whole_words : Option (List ℕ) → List ℕ
whole_words None = []
whole_words (Some kept) = digits kept ++ codes " ok"

abbrev pub version_words : Version → List ℕ
version_words v = if is_whole v then whole_words v.kept else torn_words v.kept (defined v)

-- `N HASH ok`, `N missing HASH` or `N kept BYTES HASH`
abbrev pub version_line : Version → List ℕ
version_line v = line (decimal v.number ++ (codes " " ++ version_words v))

-- `bad versions missing N`, N the least number that is missing
abbrev pub bad_versions : ℕ → Answer
bad_versions missing = negative (codes "bad versions missing " ++ decimal missing)

-- what is printed where versions aren't read; where the store failed or memory was wanted, nothing is
abbrev pub IsUnread : VersionsFault → Answer → Type 0
IsUnread (fault.BadVersions missing) answer = answer ≡ bad_versions missing
IsUnread (fault.Limit limit) answer = answer ≡ limit_passed limit.which
IsUnread fault.ReadFault answer = ⊥
IsUnread fault.OutOfMemory answer = ⊥

-- `torn N missing HASH` or `torn N kept BYTES HASH`, by the text that its `.hash` is to have
abbrev pub torn : ℕ → Option (List ℕ) → List ℕ → Answer
torn version kept text =
    negative (codes "torn " ++ (decimal version ++ (codes " " ++ torn_words kept (encode_utf8_all text))))
