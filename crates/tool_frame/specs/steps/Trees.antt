-- What the steps to a tree give.
use Rattle.std.specs.Prelude.{List, ◌++◌, Result, Ok, Err}
use Rattle.aidl_base.specs.declared.limit.Limit.{Limit}
use Rattle.aidl_base.specs.declared.source_file.SourceFile.{SourceFile}
use Rattle.aidl_base.specs.Results.{◌>>=◌}
use Rattle.tool_frame.specs.Answer.{Found, limit_passed}

-- the files so far, or the limit that the last step passed
abbrev pub so_far : {A : Type 0} → List SourceFile → Result A Limit → Found (List SourceFile)
so_far files (Ok step) = Ok files
so_far files (Err limit) = Err (limit_passed limit.which)

-- the files so far, and then those that are found
abbrev pub onto : List SourceFile → Found (List SourceFile) → Found (List SourceFile)
onto files found = found >>= λ more. Ok (files ++ more)
