-- Why a tree is refused: each refusal says what is answered, and that no earlier one holds (own).
use Rattle.std.specs.Prelude.{◌≡◌, List, map, ◌⊎◌, Some, None}
use Rattle.aidl_base.specs.declared.source_file.SourceFile.{SourceFile}
use Rattle.declared_names.specs.Declarations.{declarations}
use Rattle.aidl_names.specs.Limits.{passed}
use Rattle.aidl_syntax.specs.Sources.{Source, source_of}
use Rattle.aidl_syntax.specs.declared.tree.ParsedFile.{ParsedFile}
use Rattle.tree_files.specs.declared.fault.FilesFault.TheVariants as files
use Rattle.tree_files.specs.Parsed.{AreParsed}
use Rattle.tree_files.specs.Refusals as parsing
use Rattle.type_check.specs.declared.fault.CheckFault.{CheckFault}
use Rattle.type_check.specs.declared.fault.CheckFault.TheVariants as fault
use Rattle.type_check.specs.Stages.{AreBreaches}

-- why trees are refused
abbrev pub IsRefusalOfTrees : List Source → CheckFault → Type 0
-- the first limit on declarations that they pass
IsRefusalOfTrees trees (fault.Limit l) = passed (declarations trees) ≡ Some l.which
-- no limit on declarations, and these are the breaches of the first stage that has one
IsRefusalOfTrees trees (fault.Breaches rows) = (passed (declarations trees) ≡ None) × AreBreaches trees rows
IsRefusalOfTrees trees (fault.Lex rows) = ⊥
IsRefusalOfTrees trees (fault.Syntax rows) = ⊥
IsRefusalOfTrees trees fault.OutOfMemory = Unit {0}

-- the files are parsed, and their trees are refused
abbrev pub AreTreesRefused : List SourceFile → CheckFault → Type 0
AreTreesRefused files e = (trees : List ParsedFile) × AreParsed files trees × IsRefusalOfTrees (map source_of trees) e

abbrev pub IsRefusal : List SourceFile → CheckFault → Type 0
-- a limit on files or tokens; or the files are parsed, and this is a limit on declarations
IsRefusal sources (fault.Limit l) = parsing.IsRefusal sources (files.Limit l) ⊎ AreTreesRefused sources (fault.Limit l)
-- the files without tokens, and those without a tree
IsRefusal sources (fault.Lex rows) = parsing.IsRefusal sources (files.Lex rows)
IsRefusal sources (fault.Syntax rows) = parsing.IsRefusal sources (files.Syntax rows)
-- the files are parsed, and these are the breaches
IsRefusal sources (fault.Breaches rows) = AreTreesRefused sources (fault.Breaches rows)
IsRefusal sources fault.OutOfMemory = Unit {0}
