-- The limits on files, looked for before all else (own).
use Rattle.std.specs.Prelude.{Bool, nat_lt, if◌then◌else◌, List, length, Option, Some, None}
use Rattle.std.specs.List.{list_any}
use Rattle.aidl_base.specs.declared.limit.LimitName.{LimitName}
use Rattle.aidl_base.specs.declared.limit.LimitName.TheVariants as limit
use Rattle.aidl_base.specs.declared.source_file.SourceFile.{SourceFile}

-- a file of more than 262,144 bytes
abbrev pub is_long : SourceFile → Bool
is_long f = nat_lt 262144 (length f.bytes)

-- the limit that is passed by more than 4,096 files, or else by a file that is long
abbrev pub oversized : List SourceFile → Option LimitName
oversized files = if nat_lt 4096 (length files) then Some limit.Files
    else (if list_any is_long files then Some limit.FileBytes else None)
