-- The refusals that several commands share, each a step of their answers (own).
use Rattle.std.specs.Prelude.{ℕ, nat_lt, if◌then◌else◌, List, ◌++◌, length, Option, Some, None, Ok, Err, codes}
use Rattle.std.specs.Option.{option_map}
use Rattle.std.specs.FinMap.{get}
use Rattle.aidl_base.specs.declared.limit.LimitName.{LimitName}
use Rattle.aidl_base.specs.Limits.{limit_number}
use Rattle.aidl_outside.specs.Files.{Files}
use Rattle.tool_frame.specs.Answer.{Found, negative, limit_passed}

-- bytes that don't pass a limit
abbrev pub within : LimitName → List ℕ → Found (List ℕ)
within which bytes = if nat_lt (limit_number which) (length bytes) then Err (limit_passed which) else Ok bytes

-- the file at a path of a store, up to a limit
abbrev pub file_at : LimitName → Files → List ℕ → Option (Found (List ℕ))
file_at which files path = option_map (within which) (get files path)

-- what stands at a path; else `no file PATH`
abbrev pub there : {A : Type 0} → List ℕ → Option A → Found A
there path None = Err (negative (codes "no file " ++ path))
there path (Some file) = Ok file
