-- The limits (own): the name that is printed for each, and its number.
use Rattle.std.specs.Prelude.{ℕ, List, codes}
use Rattle.aidl_base.specs.declared.limit.LimitName.{LimitName}
use Rattle.aidl_base.specs.declared.limit.LimitName.TheVariants.{Files, FileBytes, Declarations, Members, Arguments}
use Rattle.aidl_base.specs.declared.limit.LimitName.TheVariants.{Nesting, RunLength, ParcelBytes, TextBytes, Lines}
use Rattle.aidl_base.specs.declared.limit.LimitName.TheVariants.{Versions}

abbrev pub limit_name : LimitName → List ℕ
limit_name Files = codes "files"
limit_name FileBytes = codes "file-bytes"
limit_name Declarations = codes "declarations"
limit_name Members = codes "members"
limit_name Arguments = codes "arguments"
limit_name Nesting = codes "nesting"
limit_name RunLength = codes "run-length"
limit_name ParcelBytes = codes "parcel-bytes"
limit_name TextBytes = codes "text-bytes"
limit_name Lines = codes "lines"
limit_name Versions = codes "versions"

-- a limit is passed where the quantity is greater than this
abbrev pub limit_number : LimitName → ℕ
limit_number Files = 4096
limit_number FileBytes = 262144
limit_number Declarations = 16384
limit_number Members = 4096
limit_number Arguments = 255
limit_number Nesting = 16
limit_number RunLength = 256
limit_number ParcelBytes = 1048576
limit_number TextBytes = 16777216
limit_number Lines = 65536
limit_number Versions = 9999
