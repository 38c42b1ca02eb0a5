-- What is answered once the limits are measured and the tokens are read.
use Rattle.std.specs.Prelude.{◌≡◌, Option, Some, None, Result, Err}
use Rattle.aidl_base.specs.declared.limit.LimitName.{LimitName}
use Rattle.aidl_syntax.specs.declared.tree.FileTree.{FileTree}
use Rattle.aidl_syntax.specs.Trees.{File, file_of}
use Rattle.expr_parser.specs.declared.fault.ParseFault.{ParseFault}
use Rattle.expr_parser.specs.declared.fault.ParseFault.TheVariants as fault
use Rattle.expr_parser.specs.Gives.{Gives}

-- the limit that is passed, or else what reading gives
abbrev pub Answers : Option LimitName → Option File → Result FileTree ParseFault → Type 0
Answers (Some name) read result = result ≡ Err (fault.Limit (record { which = name }))
Answers None read result = Gives file_of result read
