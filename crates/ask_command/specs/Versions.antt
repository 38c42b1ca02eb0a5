-- The version that `ask` asks, and the hash that it keeps (own).
use Rattle.std.specs.Prelude.{ℕ, ◌==◌, ◌&&◌, nat_le, ◌++◌, if◌then◌else◌, List, [], take, find, Option, Some, None}
use Rattle.std.specs.Prelude.{Ok, Err, codes}
use Rattle.std.specs.Fmt.{decimal}
use Rattle.api_versions.specs.declared.version.Version.{Version}
use Rattle.api_versions.specs.Whole.{defined, is_whole}
use Rattle.tool_frame.specs.Answer.{Answer, Found, negative}
use Rattle.version_lines.specs.Lines.{torn}

-- the version of a number, which is from 1 to 9,999
abbrev pub version_numbered : ℕ → List Version → Option Version
version_numbered n versions = if nat_le 1 n && nat_le n 9999 then find (λ v. v.number == n) versions else None

-- `no version N`
abbrev pub no_version : ℕ → Answer
no_version n = negative (codes "no version " ++ decimal n)

abbrev pub version_or : ℕ → Option Version → Found Version
version_or n None = Err (no_version n)
version_or n (Some v) = Ok v

-- where it is there
abbrev pub version_found : ℕ → List Version → Found Version
version_found n versions = version_or n (version_numbered n versions)

-- the 40 digits that a `.hash` keeps
abbrev pub hash_of : Option (List ℕ) → List ℕ
hash_of None = []
hash_of (Some kept) = take 40 kept

-- where the version is whole; else its line `torn`
abbrev pub whole_found : Version → Found (List ℕ)
whole_found v = if is_whole v then Ok (hash_of v.kept) else Err (torn v.number v.kept (defined v))
