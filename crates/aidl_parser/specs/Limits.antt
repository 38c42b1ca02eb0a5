-- The limits on a file's tokens: `nesting` is named before `run-length` (own).
use Rattle.std.specs.Prelude.{nat_lt, if◌then◌else◌, List, Option, Some, None}
use Rattle.aidl_base.specs.declared.limit.LimitName.{LimitName}
use Rattle.aidl_base.specs.declared.limit.LimitName.TheVariants as limit
use Rattle.aidl_syntax.specs.declared.token.Token.{Token}
use Rattle.aidl_syntax.specs.Measures.{nesting, run_length}

-- the limit that the tokens pass
abbrev pub passed : List Token → Option LimitName
passed ts = if nat_lt 16 (nesting ts) then Some limit.Nesting
    else (if nat_lt 256 (run_length ts) then Some limit.RunLength else None)
