-- The files of a tree as they are parsed.
use Rattle.std.specs.Prelude.{◌≡◌, List, None}
use Rattle.std.specs.List.{All, AllZip}
use Rattle.aidl_base.specs.declared.source_file.SourceFile.{SourceFile}
use Rattle.aidl_syntax.specs.declared.tree.ParsedFile.{ParsedFile}
use Rattle.tree_files.specs.Files.{HasLimit, IsParsed}
use Rattle.tree_files.specs.Sizes.{oversized}

-- no limit on files and none on tokens is passed, and file by file these are the files as they are parsed
pub record AreParsed (files : List SourceFile) (parsed : List ParsedFile) : Type 0 where
  pub sizes : oversized files ≡ None
  pub limits : All (HasLimit None) files
  pub trees : AllZip IsParsed files parsed
