-- The faults of a version's files behind its line.
use Rattle.std.proofs.Common.{◌++◌, ℕ, List, codes, sym, subst}
use Rattle.std.specs.Fmt.{decimal}
use Rattle.aidl_base.specs.declared.source_file.SourceFile.{SourceFile}
use Rattle.api_versions.specs.Versions.{version_folder}
use Rattle.version_commands.specs.Frozen.{IsUnreadable}
use Rattle.version_commands.specs.Seen.{Follows}
use Rattle.tool_frame.specs.Answer.{line}
use Rattle.tool_frame.specs.declared.printed.Early.{Early}
use Rattle.tool_frame.specs.declared.printed.Early.TheVariants.{Answered, OutOfMemory}
use Rattle.tool_frame.specs.Results.{printed}
use Rattle.tree_commands.specs.Faults.{IsFaultAnswer}
use Rattle.tree_commands.specs.Results.{EndsBy}

module _ (api : List ℕ) (version : ℕ) (files : List SourceFile) where
  pub unreadable_ends : (faults result : Early) → EndsBy (IsFaultAnswer (version_folder api version) files) faults
      → Follows (line (codes "unreadable " ++ decimal version)) faults result → EndsBy (IsUnreadable api version files) result
  unreadable_ends (Answered p) (Answered q) is e = (printed p, is, e)
  unreadable_ends (Answered p) OutOfMemory is e = tt
  unreadable_ends OutOfMemory result is e = subst (EndsBy (IsUnreadable api version files)) (sym e) tt
